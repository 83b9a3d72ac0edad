-- The rest of a job from a part on.
use Rattle.std.specs.Prelude.{ℕ, List, [], ◌∷◌, ℤ, drop, Result, Ok, Err}
use Rattle.wire.specs.declared.refusals.Refused.{Refused}
use Rattle.wire.specs.declared.refusals.Read.{Read}
use Rattle.wire.specs.Outcome.{Outcome, accepts, next, and_then, starting_at, added_by}
use Rattle.register.specs.declared.Register.{Register}
use Rattle.scheme.specs.declared.Scheme.{Scheme}
use Rattle.bound.specs.Bound.{bound}
use Rattle.bound.specs.Format.{certificate_in_job}
use Rattle.plan.specs.Format.{plan_in_job}
use Rattle.job.specs.Outcome.{Parts, of_register, with_scheme, JobPart, part_three, part_four, before, in_turn, last_of, ended, table_by}

-- these parts from a position on, with those before them, and the job's end
abbrev pub rest : List ℕ → List JobPart → Parts → ℕ → Outcome Parts
rest s ks p from = and_then (in_turn ks s p from) (ended (last_of 1 ks) s)

-- and what the table then is
abbrev pub table_of_rest : List ℕ → List JobPart → Parts → ℕ → List ℤ → List ℤ
table_of_rest s ks p from lent = table_by s lent (in_turn (before 3 ks) s p from)

-- ---- with parts 1 and 2

-- the others in their order, the plan last and the plan first

abbrev pub first_two : Register → Scheme → Parts
first_two reg sch = with_scheme (of_register reg) sch

abbrev pub plan_last : List JobPart
plan_last = part_three ∷ part_four ∷ []

abbrev pub plan_first : List JobPart
plan_first = part_four ∷ part_three ∷ []

-- ---- what reading one of them at a position leads to, and where it ends

abbrev pub certificate_at : List ℕ → Register → Scheme → (c : ℕ → ℤ) → ℕ → Outcome (Read ℤ)
certificate_at s reg sch c from = next 3 (starting_at from (added_by bound (certificate_in_job c reg sch (drop from s)))) λ value end. accepts (record { value = value; end = end })

abbrev pub plan_at : List ℕ → Register → ℕ → Outcome (Read ℕ)
plan_at s reg from = next 4 (starting_at from (added_by (λ plan. plan) (plan_in_job reg (drop from s)))) λ value end. accepts (record { value = value; end = end })

-- where a part's reading ends, or where it is refused
abbrev pub end_of : {A : Type 0} → Result (Read A) Refused → ℕ
end_of (Ok read) = read.end
end_of (Err refused) = refused.position
