-- What a farm reads of a job: the numbers that the job call answers and the lines that the listing call writes, as a predicate of
-- any two such calls. Each may be lent a table of its own.
use Rattle.std.specs.Prelude.{ℕ, ◌<◌, ◌≤◌, ◌≡◌, ◌↔◌, false, cond, List, [], ◌∷◌, ◌++◌, eqb, ℤ, pos, ◌-ℤ◌, length, take, ◌≤ℤ◌}
use Rattle.wire.specs.Number.{Bytes}
use Rattle.forms.specs.Table.{table_numbers}
use Rattle.register.specs.Register.{coefficient, has_range}
use Rattle.plan.specs.Plan as P
use Rattle.plan.specs.Fits.{Fits}
use Rattle.job.specs.declared.Tally.{Tally}
use Rattle.job.specs.declared.JobAnswer.{JobAnswer}
use Rattle.job.specs.Tally.{suppliers}
use Rattle.job.specs.Outcome.{Parts, coefficients}
use Rattle.job.specs.Valid.{Valid, Encodes}
use Rattle.listing.specs.Listing.{plan_lines, bound_line, refusal_line}
use Rattle.listing.specs.Answer.{listing_room}
use Rattle.listing.specs.Same.{SamePlan}
use Rattle.soundness.specs.Calls.{JobCall, ListingCall}

-- the cost of any plan, with the coefficients that the plan of a job chooses
abbrev pub job_cost : Parts → ℕ → ℤ
job_cost parts plan = P.cost (coefficients parts) parts.register plan

-- what bound and cost of an answer say of the parts of a job, with coefficients c
pub record JobCosts (c : ℕ → ℤ) (parts : Parts) (answer : JobAnswer) : Type 0 where
  -- no plan of their register that fits costs less than the bound, and without rows none at all
  pub bounds : (plan : P.Plan parts.register.choices) → Fits parts.register plan.fed → answer.bound ≤ℤ P.cost c parts.register plan.fed
  pub bounds_every : parts.register.rows ≡ 0 → (plan : P.Plan parts.register.choices) → answer.bound ≤ℤ P.cost c parts.register plan.fed
  -- the cost is that of their plan
  pub cost_is : answer.cost ≡ P.cost c parts.register parts.plan

-- the bytes before the first that is a given one, all where none is
unfoldable pub before : ℕ → List ℕ → List ℕ
before byte [] = []
before byte (b ∷ bs) = cond (eqb b byte) [] (b ∷ before byte bs)

module _ (job_call : JobCall) (listing_call : ListingCall) where
  -- what the job call answers; a job is accepted where this is no refusal

  abbrev pub answered : List ℕ → List ℤ → ℕ → Tally → JobAnswer
  answered job table supplier tally = (job_call job table supplier tally).0

  abbrev pub Accepted : List ℕ → List ℤ → ℕ → Tally → Type 0
  Accepted job table supplier tally = (answered job table supplier tally).number ≡ 0

  -- a job is listed where the listing call answers no refusal; what it shows are the first bytes of the buffer handed back, as many
  -- as the answer counts

  abbrev pub Listed : List ℕ → List ℤ → List ℕ → Type 0
  Listed job table buffer = (listing_call job table buffer).0.number ≡ 0

  abbrev pub shown : List ℕ → List ℤ → List ℕ → List ℕ
  shown job table buffer = take (listing_call job table buffer).0.count (listing_call job table buffer).1.1

  -- those before the `B` line
  abbrev pub shown_plan : List ℕ → List ℤ → List ℕ → List ℕ
  shown_plan job table buffer = before 0x42 (shown job table buffer)

  -- of an accepted job
  pub record AcceptedJob (job : List ℕ) (table : List ℤ) (supplier : ℕ) (tally : Tally) : Type 0 where
    -- it has four parts that meet their conditions. The job is their bytes, and those of no other four that do
    pub parts : Parts
    pub conditions : Valid parts
    pub bytes : Bytes job → Encodes parts job
    pub no_other : Bytes job → (others : Parts) → Valid others → Encodes others job → others ≡ parts
    -- its plan fits the rows of its register
    pub fits : Fits parts.register parts.plan
    -- bound and cost are of the coefficients that its plan chooses; where its register has no range, of the low ones, as before there were any
    pub costs : JobCosts (coefficients parts) parts (answered job table supplier tally)
    pub costs_known : has_range parts.register ≡ false → JobCosts (coefficient parts.register) parts (answered job table supplier tally)
    -- the gap says how far the cost is above the bound
    pub gap_is : (answered job table supplier tally).gap ≡ (answered job table supplier tally).cost -ℤ (answered job table supplier tally).bound
    pub gap_not_negative : pos 0 ≤ℤ (answered job table supplier tally).gap
    -- its lines are those of its choices and its plan, and a `B` line of these three numbers
    pub lines : (lent : List ℤ) (buffer : List ℕ) → Listed job lent buffer →
        shown job lent buffer ≡ plan_lines parts.register parts.plan
        ++ bound_line (answered job table supplier tally).bound (answered job table supplier tally).cost (answered job table supplier tally).gap

  -- Only what is said of the bytes of the parts asks that those of the job are below 256, as they are in a lent `&[u8]`.
  pub record JobsSound : Type 0 where
    pub accepted : (job : List ℕ) (table : List ℤ) (supplier : ℕ) (tally : Tally) → Accepted job table supplier tally → AcceptedJob job table supplier tally
    -- two accepted jobs show the same bytes before the `B` line just where they have the same choices and feed the same ones
    pub same_lines : (job job' : List ℕ) (table table' : List ℤ) (supplier supplier' : ℕ) (tally tally' : Tally) (j : AcceptedJob job table supplier tally) (j' : AcceptedJob job' table' supplier' tally') →
        (lent lent' : List ℤ) (buffer buffer' : List ℕ) → Listed job lent buffer → Listed job' lent' buffer' →
        (shown_plan job lent buffer ≡ shown_plan job' lent' buffer') ↔ SamePlan j.parts.register j.parts.plan j'.parts.register j'.parts.plan
    -- a job that is refused, and not for a short table or its supplier's number, has only the line of that refusal
    pub refused : (job : List ℕ) (table : List ℤ) (supplier : ℕ) (tally : Tally) → supplier < suppliers → table_numbers ≤ length table → (Accepted job table supplier tally → ⊥) →
        (lent : List ℤ) (buffer : List ℕ) → Listed job lent buffer →
        shown job lent buffer ≡ refusal_line (answered job table supplier tally).number (answered job table supplier tally).position
    -- every job is listed, where table and buffer are long enough
    pub room : (job : List ℕ) (lent : List ℤ) (buffer : List ℕ) → table_numbers ≤ length lent → listing_room ≤ length buffer → Listed job lent buffer
