-- `plan::open_cost` meets its contract. An opened register is within the limits, as the plan and the cost require.
use mathlib.Core.Path.{◌∙◌, ap}
use mir.Syntax.{w64}
use mir.Facts.{to_z-of_z}
use Rattle.std.proofs.lemmas.Result.{err_from_is_err_and}
use Rattle.wire.specs.Outcome.{and_then, accepts}
use Rattle.register.specs.Valid.{Within}
use Rattle.register.proofs.Opened.{opened_by}
use Rattle.plan.specs.Plan.{cost}
use Rattle.plan.specs.Chosen.{chosen}
use Rattle.plan.proofs.Answers.{cost_then}
use Rattle.plan.proofs.open_cost.Goals as goal

within : (c : goal.In_ok-register) → Within c.in_ok-register.register
within c = (opened_by c.args.register.now c.in_ok-register.register c.in_ok-register.ensures).valid.within

pub read_plan-requires-clause-choices_within : goal.read_plan-requires-clause-choices_within
read_plan-requires-clause-choices_within c = (within c).choices.few

pub read_plan-requires-clause-rows_within : goal.read_plan-requires-clause-rows_within
read_plan-requires-clause-rows_within c = (within c).rows.few

pub returns-in_err-plan : goal.returns-in_err-plan
returns-in_err-plan c =
    let r = c.in_ok-register.register in
    let p = err_from_is_err_and c.from_residual-in_err-plan.result c.from_residual-in_err-plan.ensures.1 in
    rw (p.1, p.2)
    (ap (λ x. and_then x (λ p. accepts (cost (chosen r p) r p))) c.in_err-plan.ensures ∙ cost_then c.args.register.now c.args.plan.now r c.read_plan.result c.in_ok-register.ensures c.read_plan.ensures)

pub cost_of-requires : goal.cost_of-requires
cost_of-requires c = (opened_by c.args.register.now c.in_ok-register.register c.in_ok-register.ensures).valid.within

pub returns : goal.returns
returns c =
    let r = c.in_ok-register.register in
    ap accepts (to_z-of_z {w = w64} (record { sfits = c.cost_of.type_inv }) ∙ c.cost_of.ensures)
    ∙ ap (λ x. and_then x (λ p. accepts (cost (chosen r p) r p))) c.in_ok-plan.ensures
    ∙ cost_then c.args.register.now c.args.plan.now r c.read_plan.result c.in_ok-register.ensures c.read_plan.ensures
