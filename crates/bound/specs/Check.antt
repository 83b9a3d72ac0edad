-- What the check answers and what its lent table then holds.
use Rattle.std.specs.Prelude.{ℕ, cond, List, ltb, ℤ, pos, length}
use Rattle.wire.specs.Part.{Reading, refused, accepted}
use Rattle.wire.specs.Rows.{Progress}
use Rattle.wire.specs.Outcome.{Outcome, refuses, accepts, given, and_then, answer_by}
use Rattle.forms.specs.Table.{table_numbers, with_table}
use Rattle.register.specs.declared.Register.{Register}
use Rattle.scheme.specs.declared.Scheme.{Scheme}
use Rattle.scheme.specs.Scheme.{side}
use Rattle.plan.specs.Chosen.{chosen}
use Rattle.bound.specs.declared.CheckAnswer.{CheckAnswer}
use Rattle.certificate.specs.Certificate.{Certificate}
use Rattle.residual.specs.Residual.{R}
use Rattle.bound.specs.Bound.{bound}
use Rattle.certificate.specs.Format.{commands_in_job}
use Rattle.bound.specs.Format.{certificate_by_itself}
use Rattle.bound.specs.Opening.{open_chosen}

-- R at the front of a lent run where `3F` is reached without 1 to 8, also after 9 or 12; else the run as it was. c t is the coefficient of
-- term t
abbrev pub with_residual : (ℕ → ℤ) → Register → Scheme → Reading (Progress Certificate) → List ℤ → List ℤ
with_residual c reg sch (refused number at) lent = lent
with_residual c reg sch (accepted p end) lent = with_table (side reg.choices sch) (R c reg sch p.parsed) lent

-- of the call: number, part and position of a refusal, other fields 0; or zeros and the bound

abbrev pub refused_answer : ℕ → ℕ → ℕ → CheckAnswer
refused_answer number part at = record { number = number; part = part; position = at; bound = pos 0 }

abbrev pub accepted_answer : Certificate → CheckAnswer
accepted_answer cert = record { number = 0; part = 0; position = 0; bound = bound cert }

-- parts 1 to 3, and of a register with a range part 4 before part 3, each a run of bytes by itself
abbrev pub open_certificate : (register scheme certificate plan : List ℕ) → Outcome Certificate
open_certificate register scheme certificate plan =
    and_then (open_chosen register scheme plan) λ (reg, sch, p). given 3 (certificate_by_itself (chosen reg p) reg sch certificate)

-- what these and the lent run lead to: a table below 4,225 numbers is found before all else
abbrev pub check_outcome : (register scheme certificate plan : List ℕ) → List ℤ → Outcome ℤ
check_outcome register scheme certificate plan lent =
    cond (ltb (length lent) table_numbers) (refuses 11 0 0) (and_then (open_certificate register scheme certificate plan) λ cert. accepts (bound cert))

-- of the bytes of the parts and the lent run: a table below 4,225 numbers is found before all else
unfoldable pub check_answer : (register scheme certificate plan : List ℕ) → List ℤ → CheckAnswer
check_answer register scheme certificate plan lent =
    cond (ltb (length lent) table_numbers) (refused_answer 11 0 0)
    (answer_by refused_answer accepted_answer (open_certificate register scheme certificate plan))

-- and the table after it: the other parts are accepted, and then as the certificate's commands are read
unfoldable pub check_table : (register scheme certificate plan : List ℕ) → List ℤ → List ℤ
check_table register scheme certificate plan lent =
    cond (ltb (length lent) table_numbers) lent
    (answer_by (λ number part at. lent) (λ (reg, sch, p). with_residual (chosen reg p) reg sch (commands_in_job reg sch certificate) lent) (open_chosen register scheme plan))
