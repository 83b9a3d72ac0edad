-- By what the test of the two numbers gives.
use mathlib.Core.Path.{◌≡◌, ◌∙◌, ap}
use borrow.Author.Rules.{rules}
use Rattle.wire.specs.Outcome.{answer_by}
use Rattle.wire.specs.Results.{number_of}
use Rattle.wire.specs.Writer.{refused_answer, writer_answer, bytes_answer, with_front}
use Rattle.costliest.specs.Costliest.{costliest_bytes}
use Rattle.costliest.proofs.Answers.{answer_from, buffer_from}
use Rattle.costliest.proofs.write_costliest.Goals as goal

pub returns-in_err-shape-clause-answer : goal.returns-in_err-shape-clause-answer
returns-in_err-shape-clause-answer c =
    let a = c.args in
    let f = c.in_err-shape.field-0.0 in
    let said : writer_answer c.from_residual.result ≡ refused_answer (number_of f.refusal) f.part f.position = search rules in
    said ∙ ap (answer_by refused_answer (λ s. bytes_answer (costliest_bytes s.0 s.1) a.out.now)) c.in_err-shape.ensures ∙ answer_from a.m a.d a.out.now

pub returns-in_err-shape-clause-buffer : goal.returns-in_err-shape-clause-buffer
returns-in_err-shape-clause-buffer c =
    let a = c.args in
    ap (answer_by (λ number part at. a.out.now) (λ s. with_front (costliest_bytes s.0 s.1) a.out.now)) c.in_err-shape.ensures ∙ buffer_from a.m a.d a.out.now

pub returns-clause-answer : goal.returns-clause-answer
returns-clause-answer c =
    let a = c.args in
    c.write_register.ensures.answer ∙ ap (answer_by refused_answer (λ s. bytes_answer (costliest_bytes s.0 s.1) a.out.now)) c.in_ok-shape.ensures ∙ answer_from a.m a.d a.out.now

pub returns-clause-buffer : goal.returns-clause-buffer
returns-clause-buffer c =
    let a = c.args in
    c.write_register.ensures.buffer
    ∙ ap (answer_by (λ number part at. a.out.now) (λ s. with_front (costliest_bytes s.0 s.1) a.out.now)) c.in_ok-shape.ensures
    ∙ buffer_from a.m a.d a.out.now
