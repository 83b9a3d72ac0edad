-- The job call as it was when there were no suppliers: one pair of counters for all jobs. What a job leads to (`outcome`), the table
-- after it and how a count rises are those of today.
use Rattle.std.specs.Prelude.{ℕ, cond, List, ltb, ℤ, pos, length}
use Rattle.wire.specs.Outcome.{Outcome, answer_by}
use Rattle.forms.specs.Table.{table_numbers}
use Rattle.job.specs.declared.Counters.{Counters}
use Rattle.job.specs.declared.Tally.{Tally}
use Rattle.job.specs.declared.JobAnswer.{JobAnswer}
use Rattle.job.specs.Outcome.{Parts, outcome, bound_of, cost_of, gap_of, table_after}
use Rattle.job.specs.Tally.{with_accepted, with_refused}

pub record AnswerBeforeSuppliers : Type 0 where
  pub number : ℕ
  pub part : ℕ
  pub position : ℕ
  pub bound : ℤ
  pub cost : ℤ
  pub gap : ℤ
  pub tally : Counters

abbrev pub refused_before_suppliers : ℕ → ℕ → ℕ → Counters → AnswerBeforeSuppliers
refused_before_suppliers number part at tally =
    record { number = number; part = part; position = at; bound = pos 0; cost = pos 0; gap = pos 0; tally = with_refused tally }

abbrev pub accepted_before_suppliers : Parts → Counters → AnswerBeforeSuppliers
accepted_before_suppliers p tally =
    record { number = 0; part = 0; position = 0; bound = bound_of p; cost = cost_of p; gap = gap_of p; tally = with_accepted tally }

abbrev pub after_job_before_suppliers : Outcome Parts → Counters → AnswerBeforeSuppliers
after_job_before_suppliers x tally = answer_by (λ number part at. refused_before_suppliers number part at tally) (λ p. accepted_before_suppliers p tally) x

unfoldable pub answer_before_suppliers : List ℕ → List ℤ → Counters → AnswerBeforeSuppliers
answer_before_suppliers job lent tally = cond (ltb (length lent) table_numbers) (refused_before_suppliers 11 0 0 tally) (after_job_before_suppliers (outcome job) tally)

unfoldable pub table_before_suppliers : List ℕ → List ℤ → List ℤ
table_before_suppliers job lent = cond (ltb (length lent) table_numbers) lent (table_after job lent)

-- the same answer with the tally of all suppliers in place of its pair
abbrev pub with_tally : AnswerBeforeSuppliers → Tally → JobAnswer
with_tally a tally =
    record { number = a.number; part = a.part; position = a.position; bound = a.bound; cost = a.cost; gap = a.gap; tally = tally }
