-- Of a register without a range (c) to (e) of demand 3 are what they were before there were ranges: of any calls of which it holds.
use mathlib.Core.Path.{◌≡◌, subst}
use mathlib.Core.Bool.{false}
use mathlib.Core.List.{List}
use Prim.Native.Nat.{ℕ}
use lib.IntN.{ℤ}
use Rattle.register.specs.Register.{has_range}
use Rattle.soundness.specs.Calls.{PenaltyCall, CheckCall, PlainCall, penalty_call, check_call, plain_call}
use Rattle.soundness.specs.Demand3.{register_of, low, Demand3With, Demand3For, Demand3, Demand3Known}
use Rattle.soundness.proofs.Choosing.{chosen_low, choosing_none}
use Rattle.soundness.proofs.Ours.{demand3}

module _ (penalty : PenaltyCall) (check : CheckCall) (plain : PlainCall) where
  pub with_low : (t s : List ℕ) (table : List ℤ) → Demand3For penalty check plain t s table → has_range (register_of t) ≡ false → (q : List ℕ) → Demand3With penalty check plain (low t) t s q table
  with_low t s table d none q =
      subst (λ c. Demand3With penalty check plain c t s q table) (chosen_low (register_of t) d.as_written.part_1.conditions none 0)
      (d.with_plan q 0 (choosing_none (register_of t) q none))

  pub without_ranges : Demand3 penalty check plain → Demand3Known penalty check plain
  without_ranges demand = record { of_accepted = λ t s b z none table l. with_low t s table (demand.of_accepted t s b z table l) none }

pub demand3_known : Demand3Known penalty_call check_call plain_call
demand3_known = without_ranges penalty_call check_call plain_call demand3
