-- The bytes that a plan's reading can look at, and the bytes of an accepted one.
use Prim.Native.Nat.{ℕ, ◌≤◌}
use native.Mathlib.Omega.{arith}
use mathlib.Core.Path.{◌≡◌, refl}
use mathlib.Core.List.{List}
use lib.ListN.{take}
use Rattle.integers.proofs.Lists.{◌▹◌}
use Rattle.wire.specs.Part.{accepted, total}
use Rattle.wire.specs.Rows.{Progress, size_of}
use Rattle.wire.proofs.Prefix.{Limited, limited, read_prefix, end_within}
use Rattle.register.specs.declared.Register.{Register}
use Rattle.register.specs.Register as R
use Rattle.plan.specs.Format.{wide_plan_row, plan_part, plan_in_job}

-- a plan is one command, and `41` the longer one
unfoldable pub plan_longest : ℕ
plan_longest = size_of (wide_plan_row R.fresh)

module _ (reg : Register) where
  -- the only command stands at the start
  limits : Limited (plan_part reg) (λ p at. at ≡ 0) 0 9 (λ p. 9)
  unfolding total
  limits = limited 0 _ (omega arith) refl (λ p at r. omega arith) (record { small = omega arith; moves = λ p at xs r e h. omega arith } ▹ record { small = omega arith; moves = λ p at xs r e h. omega arith } ▹ tt)

  pub plan_prefix : (K : ℕ) (s : List ℕ) → plan_longest ≤ K → plan_in_job reg (take K s) ≡ plan_in_job reg s
  unfolding plan_in_job plan_longest total
  plan_prefix K s k = read_prefix (plan_part reg) limits K s (omega arith)

  pub plan_end : (s : List ℕ) {p : Progress ℕ} {end : ℕ} → plan_in_job reg s ≡ accepted p end → end ≤ plan_longest
  unfolding plan_in_job plan_longest total
  plan_end s e = omega (arith, end_within (plan_part reg) limits s e)
