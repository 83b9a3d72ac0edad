-- What the penalty call answers and what its lent table then holds, by what reading the two parts leads to.
use Rattle.std.specs.Prelude.{ℕ, cond, List, ltb, ℤ, length, Result, Ok, Err}
use Rattle.wire.specs.declared.refusals.Fault.{Fault}
use Rattle.wire.specs.Outcome.{answer_by}
use Rattle.wire.specs.Results.{number_of}
use Rattle.forms.specs.Form.{entry}
use Rattle.forms.specs.Table.{table_numbers, with_table}
use Rattle.register.specs.declared.Register.{Register}
use Rattle.register.specs.Register.{coefficient}
use Rattle.scheme.specs.declared.Scheme.{Scheme}
use Rattle.scheme.specs.Scheme.{side}
use Rattle.scheme.specs.Answer.{open_parts}
use Rattle.penalty.specs.declared.PenaltyAnswer.{PenaltyAnswer}
use Rattle.penalty.specs.Penalty.{h}

abbrev pub answer : ℕ → ℕ → ℕ → PenaltyAnswer
answer number part at = record { number = number; part = part; position = at }

-- what the code's result answers
abbrev pub answer_of : Result (Unit {0}) Fault → PenaltyAnswer
answer_of (Ok a) = answer 0 0 0
answer_of (Err fault) = answer (number_of fault.refusal) fault.part fault.position

-- number, part and position of a refusal, or zeros, of the bytes of parts 1 and 2 and the lent run: a table below 4,225 numbers
-- is found before all else
unfoldable pub penalty_answer : List ℕ → List ℕ → List ℤ → PenaltyAnswer
penalty_answer register scheme lent =
    cond (ltb (length lent) table_numbers) (answer 11 0 0)
    (answer_by answer (λ parts. answer 0 0 0) (open_parts register scheme))

-- the table of h at the front of a lent run; the rest of it is kept
abbrev pub with_penalty : Register → Scheme → List ℤ → List ℤ
with_penalty reg sch = with_table (side reg.choices sch) (entry (h (coefficient reg) reg sch))

-- the table holds h where both parts are accepted, and else is unchanged
unfoldable pub penalty_table : List ℕ → List ℕ → List ℤ → List ℤ
penalty_table register scheme lent =
    cond (ltb (length lent) table_numbers) lent
    (answer_by (λ number part at. lent) (λ (reg, sch). with_penalty reg sch lent) (open_parts register scheme))
