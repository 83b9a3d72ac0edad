-- What a multiplier command's kind asks, by the kind.
use Rattle.std.proofs.Common.{◌≤◌}
use mathlib.Core.Logic.{⊎_elim}
use native.Mathlib.Omega.{arith}
use Rattle.certificate.specs.Answer.{rule_asked}
use Rattle.certificate.proofs.Asks.{no_rule_lem, tests_31, tests_32, tests_33, tests_34, tests_product, tests_variable, tests_row}
use Rattle.certificate.proofs.checks.rule_of.Goals as goal
use Rattle.certificate.proofs.checks.rule_of.Goals.{in_default-via-then-kind-lt49, in_default-via-else-kind-lt49+else-kind-lt56+else-kind-lt58}

pub returns-in-49 : goal.returns-in-49
unfolding rule_asked
returns-in-49 c = λ reg sch h.
    let t = c.args.t in
    rw (c.in-49.is, c.null_form.ensures, ← h.variables_is) (tests_31 reg sch c.args.sets.now t.i t.j t.k t.l (rw h.variables_is h.sets_are))

pub returns-in-50 : goal.returns-in-50
unfolding rule_asked
returns-in-50 c = λ reg sch h.
    let t = c.args.t in
    rw (c.in-50.is, c.null_form-in-50.ensures, c.is_proper_subset.ensures, c.set_of-b.ensures, c.set_of-a.ensures, ← h.variables_is)
    (tests_32 reg sch c.args.sets.now t.i t.j t.k t.l (rw h.variables_is h.sets_are))

pub returns-in-51 : goal.returns-in-51
unfolding rule_asked
returns-in-51 c = λ reg sch h.
    let t = c.args.t in
    rw (c.in-51.is, c.null_form-in-51.ensures, c.set_of-c.ensures, c.set_of-b.ensures, c.set_of-a.ensures, ← h.variables_is)
    (tests_33 reg sch c.args.sets.now t.i t.j t.k t.l (rw h.variables_is h.sets_are))

pub returns-in-52 : goal.returns-in-52
unfolding rule_asked
returns-in-52 c = λ reg sch h.
    let t = c.args.t in
    rw (c.in-52.is, c.null_form-in-52.ensures, c.set_of-d.ensures, c.set_of-c.ensures, c.set_of-b.ensures, c.set_of-a.ensures, ← h.variables_is)
    (tests_34 reg sch c.args.sets.now t.i t.j t.k t.l (rw h.variables_is h.sets_are))

pub returns-in-53-to-55 : goal.returns-in-53-to-55
unfolding rule_asked
returns-in-53-to-55 c = λ reg sch h.
    let t = c.args.t in
    rw (c.subtracted.ensures, ← h.variables_is, ← h.choices_is) (tests_product reg sch c.args.sets.now t.i t.j t.k t.l t.kind (omega arith) (omega arith))

pub returns-in-56-to-57 : goal.returns-in-56-to-57
unfolding rule_asked
returns-in-56-to-57 c = λ reg sch h.
    let t = c.args.t in
    rw (c.subtracted-in-56-to-57.ensures, ← h.variables_is) (tests_variable reg sch c.args.sets.now t.i t.j t.k t.l t.kind (omega arith) (omega arith))

pub returns-in-59 : goal.returns-in-59
unfolding rule_asked
returns-in-59 c = λ reg sch h.
    let t = c.args.t in
    rw (c.in-59.is, c.row_form.ensures, ← h.variables_is, ← h.rows_is) (tests_row reg sch c.args.sets.now t.i t.j t.k t.l)

pub returns-in_default : goal.returns-in_default
unfolding rule_asked
returns-in_default c = λ reg sch h.
    let t = c.args.t in
    let none : (0x31 ≤ t.kind) × (t.kind ≤ 0x39) → ⊥ = λ r. elim c.in_default.branch [
      | in_default-via-then-kind-lt49 w ↦ omega arith
      | in_default-via-else-kind-lt49+else-kind-lt56+else-kind-lt58 w ↦ omega arith
    ] in
    rw c.null_form-in_default.ensures (no_rule_lem reg sch c.args.sets.now t.i t.j t.k t.l t.kind (⊎_elim none (λ e. omega arith)))
