-- Which bytes each call accepts, and what it then answers, of any calls: just the bytes of parts that meet the paper's conditions.
-- Each statement has two directions, `all` and `only`. The second alone asks that the numbers lent are bytes: an encoding is bytes
-- by itself, and so is every slice that code can lend (`lent_bytes`).
use Rattle.std.specs.Prelude.{ℕ, ◌≤◌, ◌<◌, ◌≡◌, List, ℤ, ◌-ℤ◌, length}
use Rattle.wire.specs.Number.{Bytes}
use Rattle.forms.specs.Table.{table_numbers}
use Rattle.register.specs.declared.Register.{Register}
use Rattle.register.specs.declared.RegisterAnswer.{RegisterAnswer}
use Rattle.register.specs.Register.{coefficient}
use Rattle.scheme.specs.declared.Scheme.{Scheme}
use Rattle.scheme.specs.declared.SchemeAnswer.{SchemeAnswer}
use Rattle.bound.specs.declared.CheckAnswer.{CheckAnswer}
use Rattle.certificate.specs.Certificate.{Certificate}
use Rattle.bound.specs.Bound.{bound}
use Rattle.penalty.specs.Answer.{with_penalty}
use Rattle.plan.specs.declared.CostAnswer.{CostAnswer}
use Rattle.plan.specs.Plan.{cost}
use Rattle.plan.specs.Chosen.{chosen}
use Rattle.plan.specs.Fits.{Fits}
use Rattle.job.specs.declared.Tally.{Tally}
use Rattle.job.specs.declared.JobAnswer.{JobAnswer}
use Rattle.job.specs.Outcome.{Parts, coefficients}
use Rattle.job.specs.Valid.{Valid, Encodes}
use Rattle.job.specs.Tally.{suppliers, with_accepted, moved}
use Rattle.search.specs.declared.SearchAnswer.{SearchAnswer}
use Rattle.search.specs.Answer.{search}
use Rattle.soundness.specs.Calls.{RegisterCall, SchemeCall, CostCall, PenaltyCall, CheckCall, JobCall, SearchCall}
use Rattle.soundness.specs.Parts.{Part1, Part2, Part3, Part4, Choosing, with_r}

-- ---- the parts that a call is lent, and the values that it answers for them

-- parts 1 and 2: the scheme
pub record OfScheme (register scheme : List ℕ) (sch : Scheme) : Type 0 where
  pub reg : Register
  pub part_1 : Part1 register reg
  pub part_2 : Part2 reg scheme sch

-- parts 1 and 4: the cost of the plan, with the coefficients that it chooses
pub record OfCost (register plan : List ℕ) (z : ℤ) : Type 0 where
  pub reg : Register
  pub fed : ℕ
  pub part_1 : Part1 register reg
  pub part_4 : Part4 reg plan fed
  pub cost_is : z ≡ cost (chosen reg fed) reg fed

-- parts 1 to 3, and of a register with a range part 4: the bound of the certificate, which is one of the coefficients that the plan chooses
pub record OfCheck (register scheme certificate plan : List ℕ) (b : ℤ) : Type 0 where
  pub reg : Register
  pub sch : Scheme
  pub fed : ℕ
  pub cert : Certificate
  pub part_1 : Part1 register reg
  pub part_2 : Part2 reg scheme sch
  pub choosing : Choosing reg plan fed
  pub part_3 : Part3 (chosen reg fed) reg sch certificate cert
  pub bound_is : b ≡ bound cert

-- a job is the four parts, one after the other: the bound and the cost
pub record OfJob (job : List ℕ) (b z : ℤ) : Type 0 where
  pub parts : Parts
  pub conditions : Valid parts
  pub bytes : Encodes parts job
  pub bound_is : b ≡ bound parts.certificate
  pub cost_is : z ≡ cost (coefficients parts) parts.register parts.plan

-- part 1, and a limit that the visits of the rule do not pass: the plan that the rule comes to, which fits, its cost and the visits
pub record OfSearch (register : List ℕ) (limit plan : ℕ) (z : ℤ) (visits : ℕ) : Type 0 where
  pub reg : Register
  pub part_1 : Part1 register reg
  pub plan_is : plan ≡ (search (coefficient reg) reg).plan
  pub fits : Fits reg plan
  pub cost_is : z ≡ (search (coefficient reg) reg).cost
  pub visits_are : visits ≡ (search (coefficient reg) reg).visits
  pub within : visits ≤ limit

-- ---- an accepted answer: number, part and position are 0, and the other fields have their values

abbrev pub register_accepted : Register → RegisterAnswer
register_accepted reg = record { number = 0; part = 0; position = 0; register = reg }

abbrev pub scheme_accepted : Scheme → SchemeAnswer
scheme_accepted sch = record { number = 0; part = 0; position = 0; scheme = sch }

abbrev pub cost_accepted : ℤ → CostAnswer
cost_accepted z = record { number = 0; part = 0; position = 0; cost = z }

abbrev pub check_accepted : ℤ → CheckAnswer
check_accepted b = record { number = 0; part = 0; position = 0; bound = b }

-- the gap is cost − bound, and the tally has one accepted job more of this supplier
abbrev pub job_accepted : ℤ → ℤ → ℕ → Tally → JobAnswer
job_accepted b z supplier tally =
    record { number = 0; part = 0; position = 0; bound = b; cost = z; gap = z -ℤ b; tally = moved with_accepted supplier tally }

abbrev pub search_accepted : ℕ → ℤ → ℕ → SearchAnswer
search_accepted plan z visits = record { number = 0; part = 0; position = 0; plan = plan; cost = z; visits = visits }

-- ---- acceptance: `all` such bytes, `only` such bytes; number 0 stands in no other answer

pub record RegisterAcceptance (call : RegisterCall) : Type 0 where
  pub all : (register : List ℕ) (reg : Register) → Part1 register reg → call register ≡ register_accepted reg
  pub only : (register : List ℕ) (reg : Register) → Bytes register → call register ≡ register_accepted reg → Part1 register reg
  pub number_0 : (register : List ℕ) → (call register).number ≡ 0 → call register ≡ register_accepted (call register).register

pub record SchemeAcceptance (call : SchemeCall) : Type 0 where
  pub all : (register scheme : List ℕ) (sch : Scheme) → OfScheme register scheme sch → call register scheme ≡ scheme_accepted sch
  pub only : (register scheme : List ℕ) (sch : Scheme) → Bytes register → Bytes scheme → call register scheme ≡ scheme_accepted sch → OfScheme register scheme sch
  pub number_0 : (register scheme : List ℕ) → (call register scheme).number ≡ 0 → call register scheme ≡ scheme_accepted (call register scheme).scheme

pub record CostAcceptance (call : CostCall) : Type 0 where
  pub all : (register plan : List ℕ) (z : ℤ) → OfCost register plan z → call register plan ≡ cost_accepted z
  pub only : (register plan : List ℕ) (z : ℤ) → Bytes register → Bytes plan → call register plan ≡ cost_accepted z → OfCost register plan z
  pub number_0 : (register plan : List ℕ) → (call register plan).number ≡ 0 → call register plan ≡ cost_accepted (call register plan).cost

-- a table of 4,225 numbers is asked, and of a job the number of a supplier that there is; a shorter table is never accepted, nor is
-- another number

pub record CheckAcceptance (call : CheckCall) : Type 0 where
  pub all : (register scheme certificate plan : List ℕ) (table : List ℤ) (b : ℤ) → table_numbers ≤ length table →
      OfCheck register scheme certificate plan b → (call register scheme certificate plan table).0 ≡ check_accepted b
  pub table_back : (register scheme certificate plan : List ℕ) (table : List ℤ) (b : ℤ) → table_numbers ≤ length table →
      (p : OfCheck register scheme certificate plan b) → (call register scheme certificate plan table).1 ≡ with_r (chosen p.reg p.fed) p.reg p.sch p.cert table
  pub only : (register scheme certificate plan : List ℕ) (table : List ℤ) (b : ℤ) → Bytes register → Bytes scheme → Bytes certificate → Bytes plan →
      (call register scheme certificate plan table).0 ≡ check_accepted b → OfCheck register scheme certificate plan b
  pub number_0 : (register scheme certificate plan : List ℕ) (table : List ℤ) → (call register scheme certificate plan table).0.number ≡ 0 →
      (call register scheme certificate plan table).0 ≡ check_accepted (call register scheme certificate plan table).0.bound
  pub short : (register scheme certificate plan : List ℕ) (table : List ℤ) → length table < table_numbers → (call register scheme certificate plan table).0.number ≡ 0 → ⊥

pub record JobAcceptance (call : JobCall) : Type 0 where
  pub all : (job : List ℕ) (table : List ℤ) (supplier : ℕ) (tally : Tally) (b z : ℤ) → supplier < suppliers → table_numbers ≤ length table →
      OfJob job b z → (call job table supplier tally).0 ≡ job_accepted b z supplier tally
  pub table_back : (job : List ℕ) (table : List ℤ) (supplier : ℕ) (tally : Tally) (b z : ℤ) → supplier < suppliers → table_numbers ≤ length table →
      (p : OfJob job b z) → (call job table supplier tally).1 ≡ with_r (coefficients p.parts) p.parts.register p.parts.scheme p.parts.certificate table
  pub only : (job : List ℕ) (table : List ℤ) (supplier : ℕ) (tally : Tally) (b z : ℤ) → Bytes job →
      (call job table supplier tally).0 ≡ job_accepted b z supplier tally → OfJob job b z
  pub number_0 : (job : List ℕ) (table : List ℤ) (supplier : ℕ) (tally : Tally) → (call job table supplier tally).0.number ≡ 0 →
      (call job table supplier tally).0 ≡ job_accepted (call job table supplier tally).0.bound (call job table supplier tally).0.cost supplier tally
  pub short : (job : List ℕ) (table : List ℤ) (supplier : ℕ) (tally : Tally) → length table < table_numbers → (call job table supplier tally).0.number ≡ 0 → ⊥
  pub unknown_supplier : (job : List ℕ) (table : List ℤ) (supplier : ℕ) (tally : Tally) → suppliers ≤ supplier → (call job table supplier tally).0.number ≡ 0 → ⊥

-- the penalty form is made, in the table, of parts 1 and 2, and of nothing else
pub record PenaltyAcceptance (call : PenaltyCall) : Type 0 where
  pub all : (register scheme : List ℕ) (table : List ℤ) (sch : Scheme) → table_numbers ≤ length table → (p : OfScheme register scheme sch) →
      call register scheme table ≡ (record { number = 0; part = 0; position = 0 }, with_penalty p.reg sch table)
  pub only : (register scheme : List ℕ) (table : List ℤ) → Bytes register → Bytes scheme → (call register scheme table).0.number ≡ 0 → (sch : Scheme) × OfScheme register scheme sch

-- a limit is asked that the visits do not pass: as many visits as the limit are accepted
pub record SearchAcceptance (call : SearchCall) : Type 0 where
  pub all : (register : List ℕ) (limit plan : ℕ) (z : ℤ) (visits : ℕ) → OfSearch register limit plan z visits → call register limit ≡ search_accepted plan z visits
  pub only : (register : List ℕ) (limit plan : ℕ) (z : ℤ) (visits : ℕ) → Bytes register →
      call register limit ≡ search_accepted plan z visits → OfSearch register limit plan z visits
  pub number_0 : (register : List ℕ) (limit : ℕ) → (call register limit).number ≡ 0 →
      call register limit ≡ search_accepted (call register limit).plan (call register limit).cost (call register limit).visits

-- of the seven calls that read parts and write no bytes
pub record Acceptance (register_call : RegisterCall) (scheme_call : SchemeCall) (cost_call : CostCall) (penalty_call : PenaltyCall) (check_call : CheckCall) (job_call : JobCall) (search_call : SearchCall) : Type 0 where
  pub of_register : RegisterAcceptance register_call
  pub of_scheme : SchemeAcceptance scheme_call
  pub of_cost : CostAcceptance cost_call
  pub of_penalty : PenaltyAcceptance penalty_call
  pub of_check : CheckAcceptance check_call
  pub of_job : JobAcceptance job_call
  pub of_search : SearchAcceptance search_call
