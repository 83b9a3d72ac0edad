-- By what opening parts 1 and 2 and reading the plan lead to.
use Rattle.std.proofs.Common.{rules}
use mathlib.Core.Path.{◌≡◌, sym, ◌∙◌}
use Rattle.wire.specs.Outcome.{refuses, accepts}
use Rattle.wire.specs.Results.{number_of}
use Rattle.scheme.specs.Answer.{parts_of}
use Rattle.bound.proofs.Opening.{opened_then}
use Rattle.bound.proofs.chosen.open_chosen.Goals as goal

pub returns-in_err-plan : goal.returns-in_err-plan
returns-in_err-plan c =
    let f = c.in_err-plan.field-0.0 in
    let said : parts_of c.from_residual-in_err-plan.result ≡ refuses (number_of f.refusal) f.part f.position = search rules in
    said ∙ opened_then c.args.register.now c.args.scheme.now c.args.plan.now _ _ c.read_plan.result (sym c.has_range.ensures ∙ c.if-not-has_range.false) c.in_ok-quadratization.ensures c.read_plan.ensures (refuses _ _ _) c.in_err-plan.ensures

pub returns : goal.returns
returns c =
    let e = c.quadratization_under.ensures in
    rw (e.register, e.scheme)
    (opened_then c.args.register.now c.args.scheme.now c.args.plan.now _ _ c.read_plan.result (sym c.has_range.ensures ∙ c.if-not-has_range.false) c.in_ok-quadratization.ensures c.read_plan.ensures (accepts _) c.in_ok-plan.ensures)
