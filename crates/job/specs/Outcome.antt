-- The parts of a job after each other, positions from the job's start, and the table after a job.
use Rattle.std.specs.Prelude.{ℕ, cond, List, [], ◌∷◌, ltb, eqb, ℤ, ◌-ℤ◌, length, drop}
use Rattle.wire.specs.Part.{Reading}
use Rattle.wire.specs.Outcome.{Outcome, refuses, accepts, next, and_then, answer_by, starting_at, added_by}
use Rattle.register.specs.declared.Register.{Register}
use Rattle.register.specs.Register.{has_range}
use Rattle.register.specs.Format.{register_in_job}
use Rattle.scheme.specs.declared.Scheme.{Scheme}
use Rattle.scheme.specs.Scheme as S
use Rattle.scheme.specs.Format.{scheme_in_job}
use Rattle.certificate.specs.Certificate.{Certificate}
use Rattle.certificate.specs.Certificate as C
use Rattle.bound.specs.Bound.{bound}
use Rattle.certificate.specs.Format.{commands_in_job}
use Rattle.bound.specs.Format.{certificate_in_job}
use Rattle.bound.specs.Check.{with_residual}
use Rattle.plan.specs.Plan.{cost}
use Rattle.plan.specs.Chosen.{chosen}
use Rattle.plan.specs.Format.{plan_in_job}

-- the parts of a job; a part that is not read yet is empty
pub record Parts : Type 0 where
  pub register : Register
  pub scheme : Scheme
  pub certificate : Certificate
  pub plan : ℕ

abbrev pub of_register : Register → Parts
of_register reg = record { register = reg; scheme = S.fresh; certificate = C.fresh; plan = 0 }

abbrev pub with_scheme : Parts → Scheme → Parts
with_scheme p sch = record p { scheme = sch }

abbrev pub with_certificate : Parts → Certificate → Parts
with_certificate p cert = record p { certificate = cert }

abbrev pub with_plan : Parts → ℕ → Parts
with_plan p plan = record p { plan = plan }

-- the coefficient of each term: those that the plan chooses. Where no term has a range nothing is chosen, and the plan need not be read
abbrev pub coefficients : Parts → ℕ → ℤ
coefficients p = chosen p.register p.plan

-- ---- the parts after the register

-- a part: its number, and how it is read at the front of a run of bytes, with the parts before it
pub record JobPart : Type 0 where
  pub number : ℕ
  pub reads : Parts → List ℕ → Reading Parts

abbrev pub part_two : JobPart
part_two = record { number = 2; reads = λ p s. added_by (with_scheme p) (scheme_in_job p.register s) }

abbrev pub part_three : JobPart
part_three = record { number = 3; reads = λ p s. added_by (with_certificate p) (certificate_in_job (coefficients p) p.register p.scheme s) }

abbrev pub part_four : JobPart
part_four = record { number = 4; reads = λ p s. added_by (with_plan p) (plan_in_job p.register s) }

-- their order: where a term has a range, the certificate is of the coefficients that the plan chooses, so the plan comes before it
abbrev pub order : Register → List JobPart
order reg = cond (has_range reg) (part_two ∷ part_four ∷ part_three ∷ []) (part_two ∷ part_three ∷ part_four ∷ [])

-- ---- a job

-- parts of a job s after each other: each is read with the parts before it, and the next starts where it ends
abbrev pub in_turn : List JobPart → List ℕ → Parts → ℕ → Outcome (Parts × ℕ)
in_turn [] s p from = accepts (p, from)
in_turn (k ∷ ks) s p from = next k.number (starting_at from (k.reads p (drop from s))) (in_turn ks s)

-- the number of the last part, n where there are none
abbrev pub last_of : ℕ → List JobPart → ℕ
last_of n [] = n
last_of n (k ∷ ks) = last_of k.number ks

-- bytes after the last part are refused 12
abbrev pub ended : ℕ → List ℕ → Parts × ℕ → Outcome Parts
ended last s (p, end) = cond (ltb end (length s)) (refuses 12 last end) (accepts p)

-- part 1, and then the others in their order: a refusal's number, part and position from the job's start, or the parts
unfoldable pub outcome : List ℕ → Outcome Parts
outcome s =
    next 1 (register_in_job s) λ one end.
    let reg = one.parsed in
    and_then (in_turn (order reg) s (of_register reg) end) (ended (last_of 1 (order reg)) s)

-- the bound, the cost of the plan, and the gap

abbrev pub bound_of : Parts → ℤ
bound_of p = bound p.certificate

abbrev pub cost_of : Parts → ℤ
cost_of p = cost (coefficients p) p.register p.plan

-- the gap (the paper's own term), how far the cost is above the bound: cost − bound
abbrev pub gap_of : Parts → ℤ
gap_of p = cost_of p -ℤ bound_of p

-- ---- the table after a job: R once the certificate's commands are read to their end, whatever follows; else unchanged

-- the parts before the one with a number
abbrev pub before : ℕ → List JobPart → List JobPart
before n [] = []
before n (k ∷ ks) = cond (eqb k.number n) [] (k ∷ before n ks)

-- once the parts before it are read, and part 3 starts at a position
abbrev pub table_from_certificate : List ℕ → Parts → ℕ → List ℤ → List ℤ
table_from_certificate s p from lent = with_residual (coefficients p) p.register p.scheme (commands_in_job p.register p.scheme (drop from s)) lent

-- by what the parts before part 3 lead to
abbrev pub table_by : List ℕ → List ℤ → Outcome (Parts × ℕ) → List ℤ
table_by s lent x = answer_by (λ number part at. lent) (λ (p, from). table_from_certificate s p from lent) x

unfoldable pub table_after : List ℕ → List ℤ → List ℤ
table_after s lent = table_by s lent (next 1 (register_in_job s) λ one end. let reg = one.parsed in in_turn (before 3 (order reg)) s (of_register reg) end)
