-- What a refusal says and hands back, of every call that is given bytes: which part it is, that the parts before it are right, that number
-- and position are those of the first command of the part that is not right, and within it the lowest number (`wire/specs/Refused`,
-- `bound/specs/Refused`), that the answer's other fields are 0, and what table and buffer then hold. 10, 11, 12, 14, 16 and 17, which no
-- wrong command causes, have cases of their own. The bytes settle number and position: `refused_iff` in `wire/proofs/Lowest`. The call that
-- is given two numbers, and its 18: `CostliestRegister`.
use Rattle.std.specs.Prelude.{ℕ, ◌+◌, ◌≤◌, ◌<◌, ◌≡◌, ◌⊎◌, true, false, List, ◌++◌, ℤ, pos, length}
use Rattle.std.proofs.Common.{inl, inr}
use Rattle.wire.specs.Number.{Bytes}
use Rattle.wire.specs.Refused.{RefusedAt, RefusedByItself}
use Rattle.wire.specs.Walk.{Stands}
use Rattle.forms.specs.Table.{table_numbers}
use Rattle.register.specs.declared.Register.{Register}
use Rattle.register.specs.Register.{coefficient, has_range}
use Rattle.register.specs.Register as OfRegister
use Rattle.register.specs.Format.{register_part}
use Rattle.register.specs.Encoding.{term_kind}
use Rattle.register.specs.Position.{term_position}
use Rattle.scheme.specs.declared.Scheme.{Scheme}
use Rattle.scheme.specs.Scheme as SchemeOf
use Rattle.scheme.specs.Format.{scheme_part}
use Rattle.scheme.specs.Encoding.{encode_scheme}
use Rattle.builder.specs.Builder.{stopped, built, build}
use Rattle.certificate.specs.Certificate.{Certificate}
use Rattle.bound.specs.Refused.{CertificateRefused, CertificateRefusedByItself}
use Rattle.plain.specs.Encoding.{encode_plain}
use Rattle.plan.specs.Format.{plan_part}
use Rattle.plan.specs.Chosen.{chosen}
use Rattle.job.specs.declared.Tally.{Tally}
use Rattle.job.specs.Tally.{suppliers, with_refused, moved}
use Rattle.job.specs.Outcome.{outcome, table_after}
use Rattle.listing.specs.Listing.{PlanLines, plan_lines, supplier_lines, listed}
use Rattle.search.specs.Answer.{search}
use Rattle.soundness.specs.Calls.{RegisterCall, SchemeCall, CostCall, PenaltyCall, CheckCall, PlainCall, BuildCall, JobCall, ListingCall, SearchCall}
use Rattle.soundness.specs.Parts.{Part1, Part2, Part3, Part4, WithPlan, NoneFit, with_r}

-- ---- the parts before the one that is refused

pub record Before2 (register : List ℕ) : Type 0 where
  pub reg : Register
  pub part_1 : Part1 register reg

pub record Before3 (register scheme : List ℕ) : Type 0 where
  pub reg : Register
  pub sch : Scheme
  pub part_1 : Part1 register reg
  pub part_2 : Part2 reg scheme sch

-- in a job whose register has no range, where the plan comes last
pub record Before4 (register scheme certificate : List ℕ) : Type 0 where
  pub reg : Register
  pub sch : Scheme
  pub cert : Certificate
  pub no_range : has_range reg ≡ false
  pub part_1 : Part1 register reg
  pub part_2 : Part2 reg scheme sch
  pub part_3 : Part3 (coefficient reg) reg sch certificate cert

-- in a job whose register has one, where the certificate comes last
pub record BeforeLast (register scheme plan : List ℕ) : Type 0 where
  pub reg : Register
  pub sch : Scheme
  pub fed : ℕ
  pub ranged : has_range reg ≡ true
  pub part_1 : Part1 register reg
  pub part_2 : Part2 reg scheme sch
  pub part_4 : Part4 reg plan fed

-- ---- the table after a refused certificate: as it was lent where a command is refused, 1 to 8, and else, `3F` being reached, with R

module _ (c : ℕ → ℤ) (reg : Register) (sch : Scheme) (lent : List ℤ) where
  -- a command is refused, or R falls short
  abbrev pub table_refused : {s : List ℕ} {number at : ℕ} → CertificateRefused c reg sch s number at → List ℤ
  table_refused (inl command) = lent
  table_refused (inr short) = with_r c reg sch short.certificate lent

  -- or bytes stand after the end
  abbrev pub table_refused_by_itself : {s : List ℕ} {number at : ℕ} → CertificateRefusedByItself c reg sch s number at → List ℤ
  table_refused_by_itself (inl inside) = table_refused inside
  table_refused_by_itself (inr past) = with_r c reg sch past.certificate lent

-- ---- parts that are runs of bytes by themselves, refused with this number in this part at this position of its bytes

module _ (number part at : ℕ) where
  pub record InRegister (register : List ℕ) : Type 0 where
    pub part_is : part ≡ 1
    pub refused : RefusedByItself register_part register number at

  pub record InScheme (register scheme : List ℕ) : Type 0 where
    pub part_is : part ≡ 2
    pub before : Before2 register
    pub refused : RefusedByItself (scheme_part before.reg) scheme number at

  -- with the coefficients that the plan chooses
  pub record InCertificate (register scheme plan certificate : List ℕ) (lent table : List ℤ) : Type 0 where
    pub part_is : part ≡ 3
    pub before : WithPlan register scheme plan
    pub refused : CertificateRefusedByItself (chosen before.reg before.fed) before.reg before.sch certificate number at
    pub table_is : table ≡ table_refused_by_itself (chosen before.reg before.fed) before.reg before.sch lent refused

  -- the plan that chooses them, of a register with a range
  pub record InChoosing (register scheme plan : List ℕ) : Type 0 where
    pub part_is : part ≡ 4
    pub before : Before3 register scheme
    pub ranged : has_range before.reg ≡ true
    pub refused : RefusedByItself (plan_part before.reg) plan number at

  pub record InPlan (register plan : List ℕ) : Type 0 where
    pub part_is : part ≡ 4
    pub before : Before2 register
    pub refused : RefusedByItself (plan_part before.reg) plan number at

  -- the builder, with a register that is right: the command of the term that needs a 33rd product or a 65th variable, in whichever form it
  -- stands there
  pub record InTerm (register : List ℕ) : Type 0 where
    pub number_is : number ≡ 10
    pub part_is : part ≡ 1
    pub before : Before2 register
    pub term : ℕ
    pub stops : build before.reg ≡ stopped term
    pub position_is : at ≡ term_position register term
    pub stands : Stands register_part term_kind before.reg term before.part_1.bytes.commands at

  -- a buffer below the bytes to be written
  pub record ShortBuffer (bytes lent : List ℕ) : Type 0 where
    pub number_is : number ≡ 11
    pub part_is : part ≡ 0
    pub position_is : at ≡ 0
    pub short : length lent < length bytes

  -- the scheme that is built
  pub record SchemeTooLong (register lent : List ℕ) : Type 0 where
    pub before : Before2 register
    pub scheme : Scheme
    pub builds : build before.reg ≡ built scheme
    pub buffer : ShortBuffer (encode_scheme before.reg.choices scheme) lent

  -- the certificate of our own
  pub record PlainTooLong (register scheme plan lent : List ℕ) : Type 0 where
    pub before : WithPlan register scheme plan
    pub buffer : ShortBuffer (encode_plain (chosen before.reg before.fed) before.reg before.sch) lent

  -- the search, with a register that is right: the rule visits more partial plans than the limit
  pub record PastLimit (register : List ℕ) (limit : ℕ) : Type 0 where
    pub number_is : number ≡ 14
    pub part_is : part ≡ 0
    pub position_is : at ≡ 0
    pub before : Before2 register
    pub passed : limit < (search (coefficient before.reg) before.reg).visits

  -- the search, with a register that is right and visits within the limit: no plan fits the rows
  pub record NoneFits (register : List ℕ) (limit : ℕ) : Type 0 where
    pub number_is : number ≡ 16
    pub part_is : part ≡ 0
    pub position_is : at ≡ 0
    pub before : Before2 register
    pub within : (search (coefficient before.reg) before.reg).visits ≤ limit
    pub none : NoneFit before.reg

-- ---- a job, refused with this number in this part at this position of the job

-- some bytes stand at the front of a job, and what is refused behind them is refused at a position from there on
pub record Behind (front job : List ℕ) (position : ℕ) (Refused : List ℕ → ℕ → Type 0) : Type 0 where
  pub rest : List ℕ
  pub job_is : job ≡ front ++ rest
  pub at : ℕ
  pub position_is : position ≡ length front + at
  pub refused : Refused rest at

module _ (number part position : ℕ) (job : List ℕ) (lent table : List ℤ) where
  pub record FromRegister : Type 0 where
    pub part_is : part ≡ 1
    pub refused : RefusedAt register_part job number position
    pub table_is : table ≡ lent

  pub record FromScheme : Type 0 where
    pub part_is : part ≡ 2
    pub register : List ℕ
    pub before : Before2 register
    pub behind : Behind register job position (λ rest at. RefusedAt (scheme_part before.reg) rest number at)
    pub table_is : table ≡ lent

  -- where the register has no range, the certificate comes before the plan
  pub record FromCertificate : Type 0 where
    pub part_is : part ≡ 3
    pub register : List ℕ
    pub scheme : List ℕ
    pub before : Before3 register scheme
    pub no_range : has_range before.reg ≡ false
    pub behind : Behind (register ++ scheme) job position
        (λ rest at. CertificateRefused (coefficient before.reg) before.reg before.sch rest number at)
    pub table_is : table ≡ table_refused (coefficient before.reg) before.reg before.sch lent behind.refused

  -- the plan is then the last part: all that is left of the job is the plan by itself
  pub record FromPlan : Type 0 where
    pub part_is : part ≡ 4
    pub register : List ℕ
    pub scheme : List ℕ
    pub certificate : List ℕ
    pub before : Before4 register scheme certificate
    pub behind : Behind ((register ++ scheme) ++ certificate) job position
        (λ rest at. RefusedByItself (plan_part before.reg) rest number at)
    pub table_is : table ≡ with_r (coefficient before.reg) before.reg before.sch before.cert lent

  -- where the register has a range, the plan comes before the certificate
  pub record FromPlanFirst : Type 0 where
    pub part_is : part ≡ 4
    pub register : List ℕ
    pub scheme : List ℕ
    pub before : Before3 register scheme
    pub ranged : has_range before.reg ≡ true
    pub behind : Behind (register ++ scheme) job position (λ rest at. RefusedAt (plan_part before.reg) rest number at)
    pub table_is : table ≡ lent

  -- the certificate is then the last part, and is of the coefficients that the plan chooses
  pub record FromCertificateLast : Type 0 where
    pub part_is : part ≡ 3
    pub register : List ℕ
    pub scheme : List ℕ
    pub plan : List ℕ
    pub before : BeforeLast register scheme plan
    pub behind : Behind ((register ++ scheme) ++ plan) job position
        (λ rest at. CertificateRefusedByItself (chosen before.reg before.fed) before.reg before.sch rest number at)
    pub table_is : table ≡ table_refused_by_itself (chosen before.reg before.fed) before.reg before.sch lent behind.refused

-- ---- the calls. A table that is too short is refused 11 with part and position 0, before all else, and is left as it was lent

abbrev pub RegisterRefusals : RegisterCall → Type 0
RegisterRefusals call = (register : List ℕ) → Bytes register →
    let a = call register in
    (a.number ≡ 0 → ⊥) → (a.register ≡ OfRegister.fresh) × InRegister a.number a.part a.position register

abbrev pub SchemeRefusals : SchemeCall → Type 0
SchemeRefusals call = (register scheme : List ℕ) → Bytes register → Bytes scheme →
    let a = call register scheme in
    (a.number ≡ 0 → ⊥) →
    (a.scheme ≡ SchemeOf.fresh)
    × (InRegister a.number a.part a.position register
    ⊎ InScheme a.number a.part a.position register scheme)

-- its buffer is left as it was lent
abbrev pub BuildRefusals : BuildCall → Type 0
BuildRefusals call = (register : List ℕ) → Bytes register → (lent : List ℕ) →
    let a = (call register lent).0 in
    (a.number ≡ 0 → ⊥) →
    (a.count ≡ 0)
    × ((call register lent).1 ≡ lent)
    × (InRegister a.number a.part a.position register
    ⊎ (InTerm a.number a.part a.position register
    ⊎ SchemeTooLong a.number a.part a.position register lent))

abbrev pub CostRefusals : CostCall → Type 0
CostRefusals call = (register plan : List ℕ) → Bytes register → Bytes plan →
    let a = call register plan in
    (a.number ≡ 0 → ⊥) →
    (a.cost ≡ pos 0)
    × (InRegister a.number a.part a.position register
    ⊎ InPlan a.number a.part a.position register plan)

-- its table is left as it was lent
pub record PenaltyRefusals (call : PenaltyCall) : Type 0 where
  pub short : (register scheme : List ℕ) (lent : List ℤ) → length lent < table_numbers →
      call register scheme lent ≡ (record { number = 11; part = 0; position = 0 }, lent)
  pub refused : (register scheme : List ℕ) → Bytes register → Bytes scheme → (lent : List ℤ) → table_numbers ≤ length lent →
      let a = (call register scheme lent).0 in
      (a.number ≡ 0 → ⊥) →
      ((call register scheme lent).1 ≡ lent)
      × (InRegister a.number a.part a.position register
      ⊎ InScheme a.number a.part a.position register scheme)

pub record CheckRefusals (call : CheckCall) : Type 0 where
  pub short : (register scheme certificate plan : List ℕ) (lent : List ℤ) → length lent < table_numbers →
      call register scheme certificate plan lent ≡ (record { number = 11; part = 0; position = 0; bound = pos 0 }, lent)
  pub refused : (register scheme certificate plan : List ℕ) → Bytes register → Bytes scheme → Bytes certificate → Bytes plan → (lent : List ℤ) → table_numbers ≤ length lent →
      let a = (call register scheme certificate plan lent).0 in
      let table = (call register scheme certificate plan lent).1 in
      (a.number ≡ 0 → ⊥) →
      (a.bound ≡ pos 0)
      × ((InRegister a.number a.part a.position register × (table ≡ lent))
      ⊎ ((InScheme a.number a.part a.position register scheme × (table ≡ lent))
      ⊎ ((InChoosing a.number a.part a.position register scheme plan × (table ≡ lent))
      ⊎ InCertificate a.number a.part a.position register scheme plan certificate lent table)))

-- its buffer is left as it was lent
abbrev pub PlainRefusals : PlainCall → Type 0
PlainRefusals call = (register scheme plan : List ℕ) → Bytes register → Bytes scheme → Bytes plan → (lent : List ℕ) →
    let a = (call register scheme plan lent).0 in
    (a.number ≡ 0 → ⊥) →
    (a.count ≡ 0)
    × ((call register scheme plan lent).1 ≡ lent)
    × (InRegister a.number a.part a.position register
    ⊎ (InScheme a.number a.part a.position register scheme
    ⊎ (InChoosing a.number a.part a.position register scheme plan
    ⊎ PlainTooLong a.number a.part a.position register scheme plan lent)))

-- the tally is no field that is 0: a refused job is counted for its supplier, whatever refuses it. Where there is no such supplier
-- nothing is counted, and nothing else is looked at
pub record JobRefusals (call : JobCall) : Type 0 where
  pub unknown_supplier : (job : List ℕ) (lent : List ℤ) (supplier : ℕ) (tally : Tally) → suppliers ≤ supplier →
      call job lent supplier tally
      ≡ (record { number = 17; part = 0; position = 0; bound = pos 0; cost = pos 0; gap = pos 0; tally = tally }, lent)
  pub short : (job : List ℕ) (lent : List ℤ) (supplier : ℕ) (tally : Tally) → supplier < suppliers → length lent < table_numbers →
      call job lent supplier tally
      ≡ (record { number = 11; part = 0; position = 0; bound = pos 0; cost = pos 0; gap = pos 0; tally = moved with_refused supplier tally }, lent)
  pub refused : (job : List ℕ) → Bytes job → (lent : List ℤ) → table_numbers ≤ length lent → (supplier : ℕ) → supplier < suppliers → (tally : Tally) →
      let a = (call job lent supplier tally).0 in
      let table = (call job lent supplier tally).1 in
      (a.number ≡ 0 → ⊥) →
      (a.bound ≡ pos 0)
      × (a.cost ≡ pos 0)
      × (a.gap ≡ pos 0)
      × (a.tally ≡ moved with_refused supplier tally)
      × (FromRegister a.number a.part a.position job lent table
      ⊎ (FromScheme a.number a.part a.position job lent table
      ⊎ (FromCertificate a.number a.part a.position job lent table
      ⊎ (FromPlan a.number a.part a.position job lent table
      ⊎ (FromPlanFirst a.number a.part a.position job lent table
      ⊎ FromCertificateLast a.number a.part a.position job lent table)))))

-- of a listing with these lines of a register and a plan the only refusal is 11; a buffer below the lines is found after the job is
-- read, and the table is then the one after the job
pub record ListingRefusals (lines : PlanLines) (call : ListingCall) : Type 0 where
  pub short : (job : List ℕ) (table : List ℤ) (buffer : List ℕ) → length table < table_numbers →
      call job table buffer ≡ (record { number = 11; part = 0; position = 0; count = 0 }, (table, buffer))
  pub refused : (job : List ℕ) (table : List ℤ) → table_numbers ≤ length table → (buffer : List ℕ) →
      let a = (call job table buffer).0 in
      (a.number ≡ 0 → ⊥) →
      (a.count ≡ 0)
      × ((call job table buffer).1 ≡ (table_after job table, buffer))
      × ShortBuffer a.number a.part a.position (listed lines (outcome job)) buffer

abbrev pub SearchRefusals : SearchCall → Type 0
SearchRefusals call = (register : List ℕ) → Bytes register → (limit : ℕ) →
    let a = call register limit in
    (a.number ≡ 0 → ⊥) →
    (a.plan ≡ 0)
    × (a.cost ≡ pos 0)
    × (a.visits ≡ 0)
    × (InRegister a.number a.part a.position register
    ⊎ (PastLimit a.number a.part a.position register limit
    ⊎ NoneFits a.number a.part a.position register limit))

-- every call that is given bytes
pub record Refusals (register : RegisterCall) (scheme : SchemeCall) (builder : BuildCall) (cost : CostCall) (penalty : PenaltyCall) (check : CheckCall) (plain : PlainCall) (job : JobCall) (lines supplier : ListingCall) (cheapest : SearchCall) : Type 0 where
  pub of_register : RegisterRefusals register
  pub of_scheme : SchemeRefusals scheme
  pub of_builder : BuildRefusals builder
  pub of_cost : CostRefusals cost
  pub of_penalty : PenaltyRefusals penalty
  pub of_check : CheckRefusals check
  pub of_plain : PlainRefusals plain
  pub of_job : JobRefusals job
  pub of_listing : ListingRefusals plan_lines lines
  pub of_supplier_listing : ListingRefusals supplier_lines supplier
  pub of_search : SearchRefusals cheapest
