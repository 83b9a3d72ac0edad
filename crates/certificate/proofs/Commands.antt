-- The multiplier commands of our own certificate and of the example: one variable, and a multiplier that is not negative.
use Prim.Native.Nat.{ℕ, ◌≤◌}
use mathlib.Core.Path.{refl}
use mathlib.Core.List.{[], ◌∷◌}
use lib.IntN.{pos}
use Rattle.integers.proofs.Order.{pos_nonneg, pos_mono}
use Rattle.register.specs.declared.Register.{Register}
use Rattle.scheme.specs.declared.Scheme.{Scheme}
use Rattle.certificate.specs.Limits.{max_multiplier}
use Rattle.certificate.specs.Certificate.{Multiplier}
use Rattle.certificate.specs.Rules.{by_key}
use Rattle.certificate.specs.Within.{Variable, Allowed}

abbrev pub command : ℕ → ℕ → ℕ → Multiplier
command kind i m = record { kind = kind; names = i ∷ []; m = pos m }

module _ (r : Register) (s : Scheme) (i m : ℕ) (there : Variable r.choices s i) (low : m ≤ max_multiplier) where
  pub command_31 : Allowed r s (command 0x31 i m)
  unfolding Allowed by_key
  command_31 = (i, refl, there, low)

  pub command_38 : Allowed r s (command 0x38 i m)
  unfolding Allowed by_key
  command_38 = (i, refl, there, (pos_nonneg m, pos_mono m max_multiplier low))

  pub command_39 : Allowed r s (command 0x39 i m)
  unfolding Allowed by_key
  command_39 = (i, refl, there, (pos_nonneg m, pos_mono m max_multiplier low))
