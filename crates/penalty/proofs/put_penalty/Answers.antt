-- By the table's length, and what reading the two parts by themselves leads to.
use mathlib.Core.Path.{◌≡◌, sym, ap, ◌∙◌}
use native.Mathlib.Omega.{arith}
use borrow.Author.Rules.{rules}
use Rattle.wire.specs.Results.{number_of}
use Rattle.scheme.proofs.Opened.{opened}
use Rattle.penalty.specs.Answer.{answer, answer_of}
use Rattle.penalty.proofs.Answers.{short, part_refused, parts_accepted}
use Rattle.penalty.proofs.put_penalty.Goals as goal

pub returns-then-table-lt-NUMBERS : goal.returns-then-table-lt-NUMBERS
returns-then-table-lt-NUMBERS c =
    let x = short c.args.register.now c.args.scheme.now c.args.table.now (omega arith) in
    record { value = ap (λ f. answer (number_of f.refusal) f.part f.position) c.nowhere.ensures ∙ x.answers; table_after = x.holds }

pub returns-in_err-quadratization : goal.returns-in_err-quadratization
returns-in_err-quadratization c =
    let f = c.in_err-quadratization.field-0.0 in
    let e : answer_of c.from_residual.result ≡ answer (number_of f.refusal) f.part f.position = search rules in
    let x = part_refused _ _ _ (omega arith) _ _ _ (sym c.in_err-quadratization.ensures) in
    record { value = e ∙ x.answers; table_after = x.holds }

pub returns : goal.returns
returns c =
    let x = parts_accepted c.args.register.now c.args.scheme.now c.args.table.now (omega arith) _ _ (opened _ _ _ _ (sym c.in_ok-quadratization.ensures)) in
    record { value = x.answers; table_after = c.penalty_form.ensures ∙ x.holds }
