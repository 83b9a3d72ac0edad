-- What the job's calls answer, by the job's outcome, and the table after the call.
use Rattle.std.specs.Prelude.{ℕ, cond, List, ltb, ℤ, pos, ◌-ℤ◌, length}
use Rattle.wire.specs.Outcome.{Outcome, refuses, accepts, and_then, answer_by}
use Rattle.forms.specs.Table.{table_numbers}
use Rattle.register.specs.declared.Register.{Register}
use Rattle.plan.specs.Plan.{cost}
use Rattle.plan.specs.Chosen.{chosen}
use Rattle.job.specs.declared.Counters.{Counters}
use Rattle.job.specs.declared.Tally.{Tally}
use Rattle.job.specs.declared.JobRead.{JobRead}
use Rattle.job.specs.declared.JobAnswer.{JobAnswer}
use Rattle.job.specs.Outcome.{Parts, outcome, bound_of, cost_of, gap_of, table_after}
use Rattle.job.specs.Tally.{suppliers, with_accepted, with_refused, moved}

-- what an accepted job gives: the register, the plan, bound, cost and gap

abbrev pub accepted_read : Register → ℕ → ℤ → JobRead
accepted_read reg plan bound =
    let z = cost (chosen reg plan) reg plan in
    record { register = reg; plan = plan; bound = bound; cost = z; gap = z -ℤ bound }

abbrev pub job_read : Outcome Parts → Outcome JobRead
job_read x = and_then x λ p. accepts (accepted_read p.register p.plan (bound_of p))

-- of the call: number, part and position of a refusal, other fields 0; or zeros, bound, cost and gap. The tally is carried in
-- and out

abbrev pub refused_answer : ℕ → ℕ → ℕ → Tally → JobAnswer
refused_answer number part at tally = record { number = number; part = part; position = at; bound = pos 0; cost = pos 0; gap = pos 0; tally = tally }

abbrev pub accepted_answer : Parts → Tally → JobAnswer
accepted_answer p tally = record { number = 0; part = 0; position = 0; bound = bound_of p; cost = cost_of p; gap = gap_of p; tally = tally }

-- the pair of a supplier after a job of it: an accepted job raises the first count, a refused one the second
abbrev pub pair_after : Outcome Parts → Counters → Counters
pair_after (refuses number part at) = with_refused
pair_after (accepts p) = with_accepted

-- the other pairs stay
abbrev pub after_job : Outcome Parts → ℕ → Tally → JobAnswer
after_job x supplier tally =
    let next = moved (pair_after x) supplier tally in
    answer_by (λ number part at. refused_answer number part at next) (λ p. accepted_answer p next) x

-- of the job's bytes and the lent run: a table below 4,225 numbers is found before the job is read
abbrev pub outcome_with : List ℕ → List ℤ → Outcome Parts
outcome_with job lent = cond (ltb (length lent) table_numbers) (refuses 11 0 0) (outcome job)

-- and of the supplier's number and the tally: a number above 15 is found before all else, and no pair moves
unfoldable pub job_answer : List ℕ → List ℤ → ℕ → Tally → JobAnswer
job_answer job lent supplier tally =
    cond (ltb supplier suppliers)
    (after_job (outcome_with job lent) supplier tally)
    (refused_answer 17 0 0 tally)

-- the table after a job of a supplier that there is
abbrev pub table_with : List ℕ → List ℤ → List ℤ
table_with job lent = cond (ltb (length lent) table_numbers) lent (table_after job lent)

-- and of any number
unfoldable pub job_table : List ℕ → List ℤ → ℕ → List ℤ
job_table job lent supplier = cond (ltb supplier suppliers) (table_with job lent) lent
