-- Without rows demand 3 is what it was: of any calls of which it holds, over every plan and every filling.
use Prim.Native.Nat.{ℕ}
use mathlib.Core.Bool.{Bool}
use lib.IntN.{ℤ}
use lib.Pow.{pow_pos}
use Rattle.penalty.specs.Carried.{carried}
use Rattle.penalty.specs.Least.{LeastWhere, Least}
use Rattle.plan.specs.Fits.{Fits}
use Rattle.plan.proofs.Fits.{every_fits}
use Rattle.soundness.specs.Calls.{PenaltyCall, CheckCall, PlainCall, penalty_call, check_call, plain_call}
use Rattle.soundness.specs.Demand3.{register_of, Plan, FitsPlan, FitsFilling, Demand3, Demand3Every}
use Rattle.soundness.proofs.Ours.{demand3}
use Rattle.soundness.proofs.Known.{with_low}

-- where P holds of all, least where P holds is least

wider : {A : Type 0} {P : A → Type 0} {f : A → ℤ} {m : ℤ} → LeastWhere P f m → ((a : A) → P a) → Least f m
wider l all = record { witness = l.witness; holds = tt; reached = l.reached; lowest = λ a e. l.lowest a (all a) }

narrower : {A : Type 0} {P : A → Type 0} {f : A → ℤ} {m : ℤ} → Least f m → ((a : A) → P a) → LeastWhere P f m
narrower l all = record { witness = l.witness; holds = all l.witness; reached = l.reached; lowest = λ a p. l.lowest a tt }

pub without_rows : (penalty : PenaltyCall) (check : CheckCall) (plain : PlainCall) → Demand3 penalty check plain → Demand3Every penalty check plain
without_rows penalty check plain demand = record {
  of_accepted = λ t s b z none table l.
      let d = demand.of_accepted t s b z table l in
      let all : (plan : ℕ) → Fits (register_of t) plan = every_fits (register_of t) none in
      let plans : (plan : Plan t) → FitsPlan t plan = λ plan. all plan.fed in
      let fillings : (z : ℕ → Bool) → FitsFilling t z = λ z. all (carried (register_of t).choices z) in
      let empty : Plan t = record { fed = 0; inside = pow_pos (register_of t).choices } in
      let e = d.least empty (plans empty) in
      record {
        demand = d;
        least = record { least = e.least; of_first = wider e.of_first fillings; of_second = wider e.of_second plans };
        minimisers = λ m h z. d.minimisers m (narrower h fillings) z (fillings z);
        bounds = λ q fed k certificate n other p. (d.with_plan q fed k).bounds certificate n other (plans other);
        bounds_known = λ none q certificate n other p. (with_low penalty check plain t s table d none q).bounds certificate n other (plans other);
      };
  all_accepted = demand.all_accepted;
}

pub demand3_every : Demand3Every penalty_call check_call plain_call
demand3_every = without_rows penalty_call check_call plain_call demand3
