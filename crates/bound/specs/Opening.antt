-- What the calls that read or write a certificate are given: parts 1 and 2, and of a register with a range part 4, each a run of bytes by
-- itself.
use Rattle.std.specs.Prelude.{ℕ, cond, List}
use Rattle.wire.specs.Outcome.{Outcome, accepts, given, and_then}
use Rattle.register.specs.declared.Register.{Register}
use Rattle.register.specs.Register.{has_range}
use Rattle.plan.specs.Format.{plan_by_itself}
use Rattle.plan.specs.Chosen.{under}
use Rattle.scheme.specs.declared.Scheme.{Scheme}
use Rattle.scheme.specs.Answer.{open_parts}

-- the plan that chooses the coefficients. Where no term has a range nothing is chosen, so the bytes are not looked at, and the plan that
-- feeds nothing stands for any
abbrev pub open_plan : Register → List ℕ → Outcome ℕ
open_plan reg s = cond (has_range reg) (given 4 (plan_by_itself reg s)) (accepts 0)

-- the register, the scheme and the plan. Parts 1 and 2 come first, each with what stands behind it
abbrev pub open_chosen : (register scheme plan : List ℕ) → Outcome (Register × Scheme × ℕ)
open_chosen register scheme plan = and_then (open_parts register scheme) λ (reg, sch). and_then (open_plan reg plan) λ p. accepts (reg, sch, p)

-- ---- as the code has it: the register with the coefficients that the plan chooses, and the scheme
abbrev pub opened_under : (register scheme plan : List ℕ) → Outcome (Register × Scheme)
opened_under register scheme plan = and_then (open_chosen register scheme plan) λ (reg, sch, p). accepts (under reg p, sch)
