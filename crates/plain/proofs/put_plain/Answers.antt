use mathlib.Core.Path.{◌≡◌, ◌∙◌}
use borrow.Author.Rules.{rules}
use Rattle.wire.specs.Results.{number_of}
use Rattle.wire.specs.Writer.{refused_answer, writer_answer}
use Rattle.plain.proofs.Answers.{opening_refused, opening_accepted}
use Rattle.plain.proofs.put_plain.Goals as goal

pub returns-in_err-quadratization : goal.returns-in_err-quadratization
returns-in_err-quadratization c =
    let f = c.in_err-quadratization.field-0.0 in
    let e : writer_answer c.from_residual.result ≡ refused_answer (number_of f.refusal) f.part f.position = search rules in
    let y = opening_refused c.args.register.now c.args.scheme.now c.args.plan.now c.args.out.now c.in_err-quadratization.ensures in
    record { value = e ∙ y.0; out_after = y.1 }

pub returns : goal.returns
returns c =
    let y = opening_accepted c.args.register.now c.args.scheme.now c.args.plan.now c.args.out.now c.in_ok-quadratization.ensures in
    record { value = c.plain_certificate.ensures.value ∙ y.0; out_after = c.plain_certificate.ensures.out_after ∙ y.1 }
