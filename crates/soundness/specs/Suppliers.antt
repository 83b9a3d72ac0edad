-- R-6, tallies by supplier: what lists of jobs lead to, as a predicate of any job call. A list may have jobs of all suppliers, in any
-- order, and jobs with a supplier number that there is not.
use Rattle.std.specs.Prelude.{ℕ, ◌≤◌, ◌<◌, ◌≡◌, ◌↔◌, min, cond, List, [], ◌∷◌, filter, sum_by, get_or, eqb, ℤ}
use Rattle.job.specs.declared.Counters.{Counters}
use Rattle.job.specs.declared.Tally.{Tally}
use Rattle.job.specs.declared.JobAnswer.{JobAnswer}
use Rattle.job.specs.Tally.{max_count, suppliers, fresh_pair, fresh, pair_of, with_pair}
use Rattle.job.specs.Counting.{Counted, Whole}
use Rattle.job.specs.BeforeSuppliers.{answer_before_suppliers, table_before_suppliers, with_tally}
use Rattle.soundness.specs.Calls.{JobCall}

-- ---- lists of jobs

-- what is handed to the call besides the tally
pub record Sent : Type 0 where
  pub supplier : ℕ
  pub job : List ℕ
  pub table : List ℤ

-- those that one supplier sends
abbrev pub own : ℕ → List Sent → List Sent
own supplier sent = filter (λ s. eqb s.supplier supplier) sent

module _ (call : JobCall) where
  abbrev pub answer_to : Tally → Sent → JobAnswer
  answer_to tally s = (call s.job s.table s.supplier tally).0

  -- the tally after a list, each job being handed the tally that the one before it left
  unfoldable pub after : Tally → List Sent → Tally
  after tally [] = tally
  after tally (s ∷ sent) = after (answer_to tally s).tally sent

  -- those of a list that are not refused 17
  unfoldable pub not17 : Tally → List Sent → List Sent
  not17 tally [] = []
  not17 tally (s ∷ sent) =
      let a = answer_to tally s in
      let rest = not17 a.tally sent in
      cond (eqb a.number 17) rest (s ∷ rest)

-- the only pair after a list, as the call left it before there were suppliers
unfoldable pub after_before_suppliers : Counters → List Sent → Counters
after_before_suppliers pair [] = pair
after_before_suppliers pair (s ∷ sent) = after_before_suppliers (answer_before_suppliers s.job s.table pair).tally sent

-- ---- totals

-- no count goes beyond 4,294,967,295
abbrev pub held : ℕ → ℕ
held count = min max_count count

-- the sums over the suppliers, held there
abbrev pub totals : Tally → Counters
totals tally = record { accepted = held (sum_by (λ p. p.accepted) tally.pairs); refused = held (sum_by (λ p. p.refused) tally.pairs) }

-- ---- the promises

-- an answer with another tally
abbrev pub exchanged : JobAnswer → Tally → JobAnswer
exchanged a tally = record { number = a.number; part = a.part; position = a.position; bound = a.bound; cost = a.cost; gap = a.gap; tally = tally }

pub record SuppliersKept (call : JobCall) : Type 0 where
  -- ---- one call
  -- for a supplier that there is, the answer, its pair and the table are those of the call before there were suppliers; the other
  -- pairs are as they were
  pub known : (job : List ℕ) (table : List ℤ) (supplier : ℕ) (tally : Tally) → supplier < suppliers →
      let a = answer_before_suppliers job table (pair_of tally supplier) in
      call job table supplier tally ≡ (with_tally a (with_pair supplier a.tally tally), table_before_suppliers job table)
  -- beside the tally nothing depends on which supplier it is, nor on the tally so far
  pub alike : (job : List ℕ) (table : List ℤ) (supplier supplier' : ℕ) (tally tally' : Tally) → supplier < suppliers → supplier' < suppliers →
      let (a, t) = call job table supplier tally in
      let (a', t') = call job table supplier' tally' in
      (a ≡ exchanged a' a.tally) × (t ≡ t')
  -- 17 is answered just where there is no such supplier (`JobRefusals` has the whole answer), and changes nothing at all
  pub refused_17 : (job : List ℕ) (table : List ℤ) (supplier : ℕ) (tally : Tally) → ((call job table supplier tally).0.number ≡ 17) ↔ (suppliers ≤ supplier)
  pub nothing_moves : (job : List ℕ) (table : List ℤ) (supplier : ℕ) (tally : Tally) → (call job table supplier tally).0.number ≡ 17 →
      ((call job table supplier tally).0.tally ≡ tally) × ((call job table supplier tally).1 ≡ table)
  -- the supplier's pair, the entry with its number, moves: one count rises by 1 or stays at the limit, the other is unchanged
  pub counted : (job : List ℕ) (table : List ℤ) (supplier : ℕ) (tally : Tally) → supplier < suppliers → Whole tally → (none : Counters) →
      let a = (call job table supplier tally).0 in
      Counted a.number (get_or tally.pairs supplier none) (get_or a.tally.pairs supplier none)
  -- no other does
  pub others : (job : List ℕ) (table : List ℤ) (supplier other : ℕ) (tally : Tally) → (other ≡ supplier → ⊥) → (none : Counters) →
      get_or (call job table supplier tally).0.tally.pairs other none ≡ get_or tally.pairs other none
  -- ---- a list
  -- there are as many pairs after it as suppliers
  pub whole : (tally : Tally) → Whole tally → (sent : List Sent) → Whole (after call tally sent)
  -- each supplier's pair is the one after its own jobs by themselves
  pub by_themselves : (tally : Tally) (sent : List Sent) (supplier : ℕ) →
      pair_of (after call tally sent) supplier ≡ pair_of (after call tally (own supplier sent)) supplier
  -- and as before there were suppliers
  pub as_before : (tally : Tally) → Whole tally → (sent : List Sent) (supplier : ℕ) → supplier < suppliers →
      pair_of (after call tally sent) supplier ≡ after_before_suppliers (pair_of tally supplier) (own supplier sent)
  -- the totals are the pair of all jobs that are not refused 17, as before there were suppliers, from a fresh tally and from any
  -- other with a pair for each
  pub totals_fresh : (sent : List Sent) → totals (after call fresh sent) ≡ after_before_suppliers fresh_pair (not17 call fresh sent)
  pub totals_on : (tally : Tally) → Whole tally → (sent : List Sent) → totals (after call tally sent) ≡ after_before_suppliers (totals tally) (not17 call tally sent)
  -- a job that is refused 17 changes nothing for those after it
  pub without_17 : (tally : Tally) (sent : List Sent) → after call tally (not17 call tally sent) ≡ after call tally sent
