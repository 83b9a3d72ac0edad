-- What the cost call answers, by what reading leads to; and what the code has of the plan's command.
use Rattle.std.specs.Prelude.{ℕ, cond, eqb, List, [], ◌∷◌, get_or, ℤ, pos}
use Rattle.wire.specs.Number.{nat_at}
use Rattle.wire.specs.Outcome.{Outcome, accepts, given, and_then, answer_by}
use Rattle.register.specs.Opening.{open_register}
use Rattle.plan.specs.declared.CostAnswer.{CostAnswer}
use Rattle.plan.specs.Plan.{cost}
use Rattle.plan.specs.Chosen.{chosen}
use Rattle.plan.specs.Format.{plan_by_itself}

-- the bytes of the plan's commands
abbrev pub plan_bytes : List ℕ
plan_bytes = 0x40 ∷ 0x41 ∷ []

-- the plan that the command at the front says
abbrev pub plan_said : List ℕ → ℕ
plan_said s = nat_at (cond (eqb (get_or s 0 0) 0x41) 8 4) s 1

-- number, part and position of a refusal, other fields 0; or zeros and the cost

abbrev pub refused_cost : ℕ → ℕ → ℕ → CostAnswer
refused_cost number part at = record { number = number; part = part; position = at; cost = pos 0 }

abbrev pub accepted_cost : ℤ → CostAnswer
accepted_cost z = record { number = 0; part = 0; position = 0; cost = z }

-- the cost of the plan with the coefficients that it chooses, from parts 1 and 4, each a run of bytes by itself
abbrev pub cost_outcome : List ℕ → List ℕ → Outcome ℤ
cost_outcome register plan = and_then (open_register register) λ reg. and_then (given 4 (plan_by_itself reg plan)) λ p. accepts (cost (chosen reg p) reg p)

unfoldable pub cost_answer : List ℕ → List ℕ → CostAnswer
cost_answer register plan = answer_by refused_cost accepted_cost (cost_outcome register plan)
