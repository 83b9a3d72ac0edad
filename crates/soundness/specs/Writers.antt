-- What the calls write that are given bytes, of any such calls: the bytes of the scheme built or of the certificate meant, which read back,
-- or the lines of a job, and all else of the lent buffer as it was. The costliest register: `CostliestRegister`.
use Rattle.std.specs.Prelude.{ℕ, ◌≤◌, ◌<◌, ◌≡◌, cond, List, ◌++◌, ℤ, length, drop}
use Rattle.wire.specs.declared.WriterAnswer.{WriterAnswer}
use Rattle.wire.specs.Number.{Bytes}
use Rattle.wire.specs.Writer.{refused_answer, written_answer}
use Rattle.forms.specs.Table.{table_numbers}
use Rattle.register.specs.declared.Register.{Register}
use Rattle.register.specs.Register.{has_range}
use Rattle.register.specs.Position.{term_position}
use Rattle.scheme.specs.declared.Scheme.{Scheme}
use Rattle.scheme.specs.Encoding.{encode_scheme}
use Rattle.builder.specs.Builder.{stopped, built, build}
use Rattle.builder.specs.Answer.{built_room}
use Rattle.certificate.specs.Certificate.{Certificate}
use Rattle.bound.specs.Bound.{bound}
use Rattle.plain.specs.Plain.{plain}
use Rattle.plan.specs.Plan.{cost}
use Rattle.plan.specs.Chosen.{chosen}
use Rattle.job.specs.declared.Tally.{Tally}
use Rattle.job.specs.Tally.{suppliers}
use Rattle.job.specs.Outcome.{outcome}
use Rattle.listing.specs.Listing.{PlanLines, plan_lines, supplier_lines, listed}
use Rattle.listing.specs.Answer.{listing_room}
use Rattle.plain.specs.Answer.{own_bytes, own_room}
use Rattle.soundness.specs.Calls.{SchemeCall, CheckCall, PlainCall, BuildCall, JobCall, ListingCall, front}
use Rattle.soundness.specs.Parts.{Part1, Part3, Part4, WithPlan, with_r}
use Rattle.soundness.specs.Acceptance.{scheme_accepted, check_accepted, job_accepted}

-- ---- a call that writes: from a lent buffer to its answer and the buffer handed back

abbrev pub Writer : Type 0
Writer = List ℕ → WriterAnswer × List ℕ

-- bytes are written: number, part and position 0, their count, and they stand at the front of the buffer, its rest as lent
abbrev pub handed_back : List ℕ → Writer
handed_back bytes lent = (written_answer (length bytes), bytes ++ drop (length bytes) lent)

-- a refusal: count 0, and the buffer as lent
abbrev pub refused_back : ℕ → ℕ → ℕ → Writer
refused_back number part at lent = (refused_answer number part at, lent)

-- these bytes are written where they fit, and a buffer below them is refused 11; so many bytes are room for them
pub record Writes (writer : Writer) (bytes : List ℕ) (room : ℕ) : Type 0 where
  pub fits : (lent : List ℕ) → length bytes ≤ length lent → writer lent ≡ handed_back bytes lent
  pub short : (lent : List ℕ) → length lent < length bytes → writer lent ≡ refused_back 11 0 0 lent
  pub enough : (lent : List ℕ) → room ≤ length lent → (writer lent).0.number ≡ 0

-- whatever the parts, a call that refuses counts and changes nothing
abbrev pub KeepsRefused : Writer → Type 0
KeepsRefused writer = (lent : List ℕ) → ((writer lent).0.number ≡ 0 → ⊥) → ((writer lent).0.count ≡ 0) × ((writer lent).1 ≡ lent)

-- ---- the builder

-- part 1, and the scheme that the paper's rules build of it
pub record OfBuild (register : List ℕ) (reg : Register) (sch : Scheme) : Type 0 where
  pub part_1 : Part1 register reg
  pub builds : build reg ≡ built sch

pub record BuildWrites (build_call : BuildCall) (scheme_call : SchemeCall) : Type 0 where
  pub writes : (register : List ℕ) (reg : Register) (sch : Scheme) → OfBuild register reg sch → Writes (build_call register) (encode_scheme reg.choices sch) built_room
  -- the scheme's call reads, from what is handed back, the scheme that was built
  pub reads_back : (register : List ℕ) (reg : Register) (sch : Scheme) → OfBuild register reg sch →
      (lent : List ℕ) → (build_call register lent).0.number ≡ 0 → scheme_call register (front (build_call register lent)) ≡ scheme_accepted sch
  -- 10 at the term that needs a product too many (`InTerm` in `Refusals` says what stands there)
  pub full : (register : List ℕ) (reg : Register) (term : ℕ) → Part1 register reg → build reg ≡ stopped term →
      (lent : List ℕ) → build_call register lent ≡ refused_back 10 1 (term_position register term) lent
  -- 0 is answered for no other register
  pub only : (register lent : List ℕ) → Bytes register → (build_call register lent).0.number ≡ 0 → (reg : Register) × ((sch : Scheme) × OfBuild register reg sch)
  pub keeps : (register : List ℕ) → KeepsRefused (build_call register)

-- ---- our own certificate

-- with the coefficients that a plan chooses
abbrev pub own_certificate : Register → Scheme → (fed : ℕ) → Certificate
own_certificate reg sch fed = plain (chosen reg fed) reg sch

pub record PlainWrites (plain_call : PlainCall) (check_call : CheckCall) : Type 0 where
  pub writes : (register scheme plan : List ℕ) (k : WithPlan register scheme plan) → Writes (plain_call register scheme plan) (own_bytes k.reg k.sch k.fed) own_room
  -- what is handed back is an encoding of our own certificate, which meets its conditions
  pub reads_back : (register scheme plan : List ℕ) (k : WithPlan register scheme plan) → (lent : List ℕ) → (plain_call register scheme plan lent).0.number ≡ 0 →
      Part3 (chosen k.reg k.fed) k.reg k.sch (front (plain_call register scheme plan lent)) (own_certificate k.reg k.sch k.fed)
  -- and the check accepts it beside the plan that it was written for, with its bound and its residual
  pub checks : (register scheme plan : List ℕ) (k : WithPlan register scheme plan) → (lent : List ℕ) → (plain_call register scheme plan lent).0.number ≡ 0 → (table : List ℤ) → table_numbers ≤ length table →
      check_call register scheme (front (plain_call register scheme plan lent)) plan table
      ≡ (check_accepted (bound (own_certificate k.reg k.sch k.fed)), with_r (chosen k.reg k.fed) k.reg k.sch (own_certificate k.reg k.sch k.fed) table)
  -- 0 is answered for no other parts
  pub only : (register scheme plan lent : List ℕ) → Bytes register → Bytes scheme → Bytes plan → (plain_call register scheme plan lent).0.number ≡ 0 → WithPlan register scheme plan
  pub keeps : (register scheme plan : List ℕ) → KeepsRefused (plain_call register scheme plan)

-- ---- a job of what these two write

-- part 1, a plan of it that fits, and what the builder and then the plain call, which is given this plan, hand back, in the order of a
-- job's parts: a job that is accepted, with the bound of our own certificate
abbrev pub OwnJobs : BuildCall → PlainCall → JobCall → Type 0
OwnJobs build_call plain_call job_call =
    (register plan : List ℕ) (reg : Register) (sch : Scheme) (fed : ℕ) → OfBuild register reg sch → Part4 reg plan fed →
    (lent lent' : List ℕ) → let scheme = front (build_call register lent) in let certificate = front (plain_call register scheme plan lent') in
    (build_call register lent).0.number ≡ 0 → (plain_call register scheme plan lent').0.number ≡ 0 →
    (table : List ℤ) (supplier : ℕ) (tally : Tally) → supplier < suppliers → table_numbers ≤ length table →
    (job_call (register ++ (scheme ++ cond (has_range reg) (plan ++ certificate) (certificate ++ plan))) table supplier tally).0
    ≡ job_accepted (bound (own_certificate reg sch fed)) (cost (chosen reg fed) reg fed) supplier tally

-- ---- the listings

-- one that has these lines of a register and a plan before the last line
pub record ListingWrites (lines : PlanLines) (listing_call : ListingCall) (job_call : JobCall) : Type 0 where
  -- with a table that is long enough: the lines of what the job leads to (`Jobs` and `SupplierListing` say which they are)
  pub writes : (job : List ℕ) (table : List ℤ) → table_numbers ≤ length table →
      Writes (λ lent. ((listing_call job table lent).0, (listing_call job table lent).1.1)) (listed lines (outcome job)) listing_room
  -- the table is the one that the job call hands back, for each supplier, whatever buffer is lent
  pub table_back : (job : List ℕ) (table : List ℤ) (lent : List ℕ) (supplier : ℕ) (tally : Tally) → supplier < suppliers →
      (listing_call job table lent).1.0 ≡ (job_call job table supplier tally).1

-- of the four calls, and of those that read what two of them write
pub record Writers (build_call : BuildCall) (scheme_call : SchemeCall) (plain_call : PlainCall) (check_call : CheckCall) (listing_call supplier_call : ListingCall) (job_call : JobCall) : Type 0 where
  pub of_build : BuildWrites build_call scheme_call
  pub of_plain : PlainWrites plain_call check_call
  pub own_jobs : OwnJobs build_call plain_call job_call
  pub of_listing : ListingWrites plan_lines listing_call job_call
  pub of_supplier_listing : ListingWrites supplier_lines supplier_call job_call
