-- R-7, what a supplier may read of a job: its lines, what equal lines tell it, and what the lines of an accepted job hide. A predicate
-- of any job call, any listing call of a farm and any listing call of a supplier. Whether a job is accepted, and the line of a refused
-- one, may depend on what is hidden.
use Rattle.std.specs.Prelude.{ℕ, ◌<◌, ◌≤◌, ◌≡◌, ◌↔◌, List, ◌++◌, ℤ, length}
use Rattle.wire.specs.Number.{Bytes}
use Rattle.forms.specs.Table.{table_numbers}
use Rattle.job.specs.declared.Tally.{Tally}
use Rattle.job.specs.Tally.{suppliers}
use Rattle.listing.specs.Listing.{supplier_lines, bound_line, refusal_line}
use Rattle.listing.specs.Answer.{listing_room}
use Rattle.hidden.specs.Hidden.{Agree}
use Rattle.soundness.specs.Calls.{JobCall, ListingCall, front}
use Rattle.soundness.specs.Jobs.{answered, Accepted, Listed, shown, AcceptedJob}

-- ---- what is told

module _ (job_call : JobCall) (listing_call supplier_call : ListingCall) where
  -- of an accepted job: a `C` line for each choice, and a `B` line of the numbers that the job call answers
  pub record SupplierJob (job : List ℕ) (table : List ℤ) (supplier : ℕ) (tally : Tally) : Type 0 where
    pub accepted : AcceptedJob job_call listing_call job table supplier tally
    pub lines : (lent : List ℤ) (buffer : List ℕ) → Listed job_call supplier_call job lent buffer →
        let a = answered job_call listing_call job table supplier tally in
        shown job_call supplier_call job lent buffer ≡ supplier_lines accepted.parts.register accepted.parts.plan ++ bound_line a.bound a.cost a.gap

  -- two accepted jobs have as many choices, the same plan, and the same bound, cost and gap
  pub record SameResult {job job' : List ℕ} {table table' : List ℤ} {supplier supplier' : ℕ} {tally tally' : Tally} (j : SupplierJob job table supplier tally) (j' : SupplierJob job' table' supplier' tally') : Type 0 where
    pub choices : j.accepted.parts.register.choices ≡ j'.accepted.parts.register.choices
    pub plan : j.accepted.parts.plan ≡ j'.accepted.parts.plan
    pub bound : (answered job_call listing_call job table supplier tally).bound ≡ (answered job_call listing_call job' table' supplier' tally').bound
    pub cost : (answered job_call listing_call job table supplier tally).cost ≡ (answered job_call listing_call job' table' supplier' tally').cost
    pub gap : (answered job_call listing_call job table supplier tally).gap ≡ (answered job_call listing_call job' table' supplier' tally').gap

-- ---- what is hidden

-- the job call accepts a job, of some supplier, with some table and some tally
pub record IsAccepted (call : JobCall) (job : List ℕ) : Type 0 where
  pub table : List ℤ
  pub supplier : ℕ
  pub tally : Tally
  pub accepted : (call job table supplier tally).0.number ≡ 0

-- two calls of a listing show the same and leave the same
pub record Indistinguishable (call : ListingCall) (job job' : List ℕ) (table table' : List ℤ) (buffer buffer' : List ℕ) : Type 0 where
  -- number, part, position and count
  pub answers : (call job table buffer).0 ≡ (call job' table' buffer').0
  -- the bytes written
  pub written : front ((call job table buffer).0, (call job table buffer).1.1) ≡ front ((call job' table' buffer').0, (call job' table' buffer').1.1)
  -- and, with equal contents lent, every number of the table and every byte of the buffer
  pub numbers : table ≡ table' → (call job table buffer).1.0 ≡ (call job' table' buffer').1.0
  pub bytes : buffer ≡ buffer' → (call job table buffer).1.1 ≡ (call job' table' buffer').1.1

-- noninterference, of two accepted jobs that agree in every byte that is not hidden, with tables and buffers of equal lengths. Hidden
-- are the tank, minute, "from" and "to" operands of part 1 (`is_hidden` in `hidden/specs/Hidden`)
abbrev pub Hides : JobCall → ListingCall → Type 0
Hides job_call call =
    (job job' : List ℕ) (table table' : List ℤ) (buffer buffer' : List ℕ) → Bytes job → Bytes job' → IsAccepted job_call job → IsAccepted job_call job' →
    Agree job job' → length table ≡ length table' → length buffer ≡ length buffer' → Indistinguishable call job job' table table' buffer buffer'

-- ---- the promises

module _ (job_call : JobCall) (listing_call supplier_call : ListingCall) where
  pub record SupplierListing : Type 0 where
    -- what an accepted job shows
    pub accepted : (job : List ℕ) (table : List ℤ) (supplier : ℕ) (tally : Tally) → Accepted job_call listing_call job table supplier tally → SupplierJob job_call listing_call supplier_call job table supplier tally
    -- a job that is refused, and not for a short table or its supplier's number, has only the line of that refusal, as for a farm
    pub refused : (job : List ℕ) (table : List ℤ) (supplier : ℕ) (tally : Tally) → supplier < suppliers → table_numbers ≤ length table → (Accepted job_call listing_call job table supplier tally → ⊥) →
        (lent : List ℤ) (buffer : List ℕ) → Listed job_call supplier_call job lent buffer →
        let a = answered job_call listing_call job table supplier tally in
        shown job_call supplier_call job lent buffer ≡ refusal_line a.number a.position
    -- whatever is lent, the call does with such a job what the farm's does
    pub refused_same : (job : List ℕ) → (IsAccepted job_call job → ⊥) → (table : List ℤ) (buffer : List ℕ) → supplier_call job table buffer ≡ listing_call job table buffer
    -- every job is listed, where table and buffer are long enough
    pub room : (job : List ℕ) (lent : List ℤ) (buffer : List ℕ) → table_numbers ≤ length lent → listing_room ≤ length buffer → Listed job_call supplier_call job lent buffer
    -- the table is the one that the farm's call hands back, whatever buffers are lent
    pub table_back : (job : List ℕ) (table : List ℤ) (buffer buffer' : List ℕ) → (supplier_call job table buffer).1.0 ≡ (listing_call job table buffer').1.0
    -- two accepted jobs show the same just where their results are the same, whatever their registers. So equal listings for one register
    -- and two plans mean the same plan
    pub tells : (job job' : List ℕ) (table table' : List ℤ) (supplier supplier' : ℕ) (tally tally' : Tally)
        (j : SupplierJob job_call listing_call supplier_call job table supplier tally) (j' : SupplierJob job_call listing_call supplier_call job' table' supplier' tally') →
        (lent lent' : List ℤ) (buffer buffer' : List ℕ) → Listed job_call supplier_call job lent buffer → Listed job_call supplier_call job' lent' buffer' →
        (shown job_call supplier_call job lent buffer ≡ shown job_call supplier_call job' lent' buffer') ↔ SameResult job_call listing_call supplier_call j j'
    -- and they show nothing that is hidden
    pub hides : Hides job_call supplier_call
