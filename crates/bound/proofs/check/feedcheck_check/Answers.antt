-- By the outcome of its parts.
use mathlib.Core.Path.{◌∙◌, ap}
use borrow.Author.Rules.{rules}
use mir.Syntax.{w64}
use mir.Val.{SFits}
use mir.Facts.{to_z-of_z}
use Rattle.wire.specs.Outcome.{answer_by}
use Rattle.bound.specs.Check.{refused_answer}
use Rattle.bound.proofs.Answers.{answered, answer_is}
use Rattle.bound.proofs.check.feedcheck_check.Goals as goal

pub returns-in-Ok-clause-value : goal.returns-in-Ok-clause-value
returns-in-Ok-clause-value c =
    let fits : SFits w64 c.in-Ok.bound = search rules in
    ap answered (to_z-of_z fits)
    ∙ ap (answer_by refused_answer answered) c.in-Ok.ensures.value
    ∙ answer_is c.args.register.now c.args.scheme.now c.args.certificate.now c.args.plan.now c.args.table.now

pub returns-in-Err-clause-value : goal.returns-in-Err-clause-value
returns-in-Err-clause-value c =
    ap (λ n. refused_answer n c.in-Err.fault.part c.in-Err.fault.position) c.number.ensures
    ∙ ap (answer_by refused_answer answered) c.in-Err.ensures.value
    ∙ answer_is c.args.register.now c.args.scheme.now c.args.certificate.now c.args.plan.now c.args.table.now
