-- The bytes that a certificate's reading can look at, and the bytes of an accepted one.
use Prim.Native.Nat.{ℕ, ◌≤◌}
use mathlib.Core.Path.{◌≡◌, ap}
use mathlib.Core.List.{List}
use lib.IntN.{ℤ}
use lib.ListN.{take}
use Rattle.wire.specs.Part.{accepted}
use Rattle.wire.specs.Rows.{Progress}
use Rattle.register.specs.declared.Register.{Register}
use Rattle.scheme.specs.declared.Scheme.{Scheme}
use Rattle.certificate.specs.Certificate.{Certificate}
use Rattle.certificate.proofs.Prefix.{certificate_longest, certificate_reach, commands_prefix, commands_end}
use Rattle.bound.specs.Format.{dominance_checked, certificate_in_job}
use Rattle.bound.proofs.Accept.{commands_accepted}

module _ (reg : Register) (sch : Scheme) (c : ℕ → ℤ) where
  pub certificate_prefix : (K : ℕ) (s : List ℕ) → certificate_reach ≤ K → certificate_in_job c reg sch (take K s) ≡ certificate_in_job c reg sch s
  unfolding certificate_in_job
  certificate_prefix K s k = ap (dominance_checked c reg sch) (commands_prefix reg sch K s k)

  pub certificate_end : (s : List ℕ) {p : Progress Certificate} {end : ℕ} → certificate_in_job c reg sch s ≡ accepted p end → end ≤ certificate_longest
  certificate_end s {p} {end} e = commands_end reg sch s (commands_accepted reg sch c s p end e).0
