-- What the job call does with the tally, written without the tally's own definition. Counts are u32, so each is below
-- 4,294,967,295 or at it.
use Rattle.std.specs.Prelude.{ℕ, suc, ◌^◌, ◌<◌, ◌≡◌, List, ℤ, length, get_or}
use Rattle.forms.specs.Table.{table_numbers}
use Rattle.job.specs.declared.Counters.{Counters}
use Rattle.job.specs.declared.Tally.{Tally}
use Rattle.job.specs.Tally.{max_count, suppliers}
use Rattle.job.specs.Answer.{job_answer}
use Rattle.job.specs.BeforeSuppliers.{answer_before_suppliers}

-- the count that a job belongs to, before the job and after it
pub record Counts (before after : ℕ) : Type 0 where
  -- below 4,294,967,295 it rises by exactly 1
  pub rises : before < max_count → after ≡ suc before
  -- at it, it stays
  pub stays : before ≡ max_count → after ≡ before

-- a pair of counters, and the same after an answer: one count moves, the other is unchanged
pub record Counted (number : ℕ) (before after : Counters) : Type 0 where
  pub accepted : number ≡ 0 → Counts before.accepted after.accepted × (after.refused ≡ before.refused)
  pub refused : (number ≡ 0 → ⊥) → Counts before.refused after.refused × (after.accepted ≡ before.accepted)

-- a tally has a pair for each supplier
abbrev pub Whole : Tally → Type 0
Whole tally = length tally.pairs ≡ suppliers

-- Supplier k's pair is entry k of the pairs; which pair stands for one past the end (`none`) makes no difference.
pub record Counting : Type 0 where
  -- the pair of the job's supplier moves, with every job
  pub of_every_job : (job : List ℕ) (lent : List ℤ) (supplier : ℕ) (tally : Tally) → supplier < suppliers → Whole tally → (none : Counters) →
      let a = job_answer job lent supplier tally in
      Counted a.number (get_or tally.pairs supplier none) (get_or a.tally.pairs supplier none)
  -- and no other does
  pub of_no_other : (job : List ℕ) (lent : List ℤ) (supplier other : ℕ) (tally : Tally) → (other ≡ supplier → ⊥) → (none : Counters) →
      get_or (job_answer job lent supplier tally).tally.pairs other none ≡ get_or tally.pairs other none
  pub whole : (job : List ℕ) (lent : List ℤ) (supplier : ℕ) (tally : Tally) → Whole tally → Whole (job_answer job lent supplier tally).tally
  -- a table that is too short is a refusal as well
  pub of_short_table : (job : List ℕ) (lent : List ℤ) (supplier : ℕ) (tally : Tally) → supplier < suppliers → length lent < table_numbers →
      (job_answer job lent supplier tally).number ≡ 11
  -- so it was with the only pair there was before
  pub of_one_pair : (job : List ℕ) (lent : List ℤ) (pair : Counters) →
      let a = answer_before_suppliers job lent pair in
      Counted a.number pair a.tally
  -- the limit is the largest u32
  pub limit : suc max_count ≡ 2 ^ 32
