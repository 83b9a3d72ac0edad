-- By the table's length, what opening the first two parts leads to, and what the check of the third does.
use mathlib.Core.Path.{◌≡◌, ◌∙◌, ap}
use native.Mathlib.Omega.{arith}
use borrow.Author.Rules.{rules}
use Rattle.wire.specs.Part.{by_itself}
use Rattle.wire.specs.Outcome.{refuses}
use Rattle.wire.specs.Results.{number_of, outcome_of, whole_of}
use Rattle.bound.proofs.Answers.{short, opening_refused, opening_accepted}
use Rattle.bound.proofs.check.check_parts.Goals as goal

pub returns-then-table-lt-NUMBERS-clause-table_after : goal.returns-then-table-lt-NUMBERS-clause-table_after
returns-then-table-lt-NUMBERS-clause-table_after c =
    (short c.args.register.now c.args.scheme.now c.args.certificate.now c.args.plan.now c.args.table.now (omega arith)).holds

pub returns-in_err-quadratization : goal.returns-in_err-quadratization
returns-in_err-quadratization c =
    let f = c.in_err-quadratization.field-0.0 in
    let (value, table_after) = opening_refused c.args.register.now c.args.scheme.now c.args.certificate.now c.args.plan.now c.args.table.now (omega arith) c.in_err-quadratization.ensures in
    let said : outcome_of c.from_residual.result ≡ refuses (number_of f.refusal) f.part f.position = search rules in
    record { value = said ∙ value; table_after = table_after }

pub returns : goal.returns
returns c =
    let (value, table_after) = opening_accepted c.args.register.now c.args.scheme.now c.args.certificate.now c.args.plan.now c.args.table.now (omega arith) c.in_ok-quadratization.ensures in
    record {
      value = c.by_itself.ensures ∙ ap (λ x. whole_of 3 (by_itself c.args.certificate.now x)) c.check_certificate.ensures.value ∙ value;
      table_after = c.check_certificate.ensures.table_after ∙ table_after;
    }
