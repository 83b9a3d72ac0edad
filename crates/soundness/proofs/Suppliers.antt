-- The promises on tallies by supplier hold of our job call.
use Prim.Native.Nat.{ℕ, suc, ◌+◌, ◌≤◌, ◌<◌}
use mathlib.Core.Path.{◌≡◌, refl, sym, ◌∙◌, ap, ap₂, subst}
use mathlib.Core.List.{List, [], ◌∷◌}
use native.Mathlib.Omega.{arith}
use native.Mathlib.Decide.{ℕ_discrete, dec_lt}
use lib.IntN.{ℤ}
use lib.ListN.{length, get_or}
use lib.Dec.{ltb, eqb}
use Rattle.integers.proofs.Lists.{flag}
use mathlib.Core.Bool.{cond, ◌&&◌}
use borrow.Author.Tests.{eq-eqb, ne_eqb, lt-ltb, le-ltb}
use Rattle.std.specs.Prelude.{sum_by}
use Rattle.std.proofs.lemmas.List.Sums.{sum_by-set, get_or-le-sum_by}
use Rattle.std.proofs.lemmas.List.{set_past}
use Rattle.wire.specs.Outcome.{Outcome, refuses, accepts}
use Rattle.job.specs.declared.Counters.{Counters}
use Rattle.job.specs.declared.Tally.{Tally}
use Rattle.job.specs.declared.JobAnswer.{JobAnswer}
use Rattle.job.specs.Outcome.{Parts}
use Rattle.job.specs.Tally.{max_count, suppliers, raised, with_accepted, with_refused, fresh_pair, fresh, pair_of, moved}
use Rattle.job.specs.Answer.{pair_after, after_job, outcome_with, job_answer, job_table}
use Rattle.job.specs.BeforeSuppliers.{answer_before_suppliers}
use Rattle.job.specs.Counting.{Whole}
use Rattle.job.proofs.Suppliers as Job
use Rattle.job.proofs.BeforeSuppliers.{pair_before, answer_before, table_before}
use Rattle.job.proofs.Counting.{counting_holds}
use Rattle.soundness.specs.Calls.{job_call}
use Rattle.soundness.specs.Suppliers.{Sent, own, answer_to, after, not17, after_before_suppliers, held, totals, exchanged, SuppliersKept}

-- ---- one call

-- all that an answer says beside the tally
alike_after : (x : Outcome Parts) (supplier supplier' : ℕ) (tally tally' : Tally) →
    let a = after_job x supplier tally in
    a ≡ exchanged (after_job x supplier' tally') a.tally
alike_after (refuses number part at) supplier supplier' tally tally' = refl
alike_after (accepts p) supplier supplier' tally tally' = refl

alike : (job : List ℕ) (table : List ℤ) (supplier supplier' : ℕ) (tally tally' : Tally) → supplier < suppliers → supplier' < suppliers →
    (job_answer job table supplier tally ≡ exchanged (job_answer job table supplier' tally') (job_answer job table supplier tally).tally)
    × (job_table job table supplier ≡ job_table job table supplier')
alike job table supplier supplier' tally tally' l l' =
    let (a, t) = Job.known job table supplier tally l in
    let (a', t') = Job.known job table supplier' tally' l' in
    (rw (a, a') (alike_after (outcome_with job table) supplier supplier' tally tally'), t ∙ sym t')

-- ---- each pair by its own jobs

-- there are as many pairs after a list as before it
pairs_after : (sent : List Sent) (t : Tally) → length (after job_call t sent).pairs ≡ length t.pairs
unfolding after
pairs_after [] t = refl
pairs_after (s ∷ sent) t = pairs_after sent (answer_to job_call t s).tally ∙ Job.pairs_kept s.job s.table s.supplier t

module _ (supplier : ℕ) where
  -- what a job of this supplier makes of its pair, where there are so many pairs; past them, and for a number above 15, nothing
  abbrev pair_next : ℕ → Counters → Sent → Counters
  pair_next pairs pair s = cond (ltb supplier suppliers && ltb supplier pairs) (pair_after (outcome_with s.job s.table) pair) pair

  -- and a list of its jobs
  pair_run : ℕ → Counters → List Sent → Counters
  pair_run pairs pair [] = pair
  pair_run pairs pair (s ∷ sent) = pair_run pairs (pair_next pairs pair s) sent

pair_next_lem : (s : Sent) (t : Tally) → pair_of (answer_to job_call t s).tally s.supplier ≡ pair_next s.supplier (length t.pairs) (pair_of t s.supplier) s
pair_next_lem s t = by (dec_lt s.supplier suppliers) (dec_lt s.supplier (length t.pairs))
  where
    moves : s.supplier < suppliers → pair_of (answer_to job_call t s).tally s.supplier ≡ pair_of (moved (pair_after (outcome_with s.job s.table)) s.supplier t) s.supplier
    moves l = ap (λ t. pair_of t s.supplier) (Job.tally_moved s.job s.table s.supplier t l)

    by : Dec (s.supplier < suppliers) → Dec (s.supplier < length t.pairs) → pair_of (answer_to job_call t s).tally s.supplier ≡ pair_next s.supplier (length t.pairs) (pair_of t s.supplier) s
    by (yes l) (yes m) = rw (lt-ltb s.supplier suppliers l, lt-ltb s.supplier (length t.pairs) m) (moves l ∙ Job.pair_moved (pair_after (outcome_with s.job s.table)) t fresh_pair s.supplier m)
    by (yes l) (no n) = rw (lt-ltb s.supplier suppliers l, le-ltb s.supplier (length t.pairs) (omega arith)) (moves l ∙ ap (λ pairs. get_or pairs s.supplier fresh_pair) (set_past t.pairs s.supplier _ (omega arith)))
    by (no n) m = rw (le-ltb s.supplier suppliers (omega arith)) (ap (λ (a : JobAnswer). pair_of a.tally s.supplier) (Job.unknown s.job s.table s.supplier t (omega arith)).0)

module _ (supplier : ℕ) where
  -- of a list, a supplier's own jobs alone bear on its pair
  pair_run_lem : (sent : List Sent) (t : Tally) → pair_of (after job_call t sent) supplier ≡ pair_run supplier (length t.pairs) (pair_of t supplier) (own supplier sent)
  unfolding after pair_run
  pair_run_lem [] t = refl
  pair_run_lem (s ∷ sent) t = by (ℕ_discrete s.supplier supplier) (pair_run_lem sent (answer_to job_call t s).tally)
    where
      next : Tally
      next = (answer_to job_call t s).tally

      then : {pair : Counters} → pair_of next supplier ≡ pair →
          pair_run supplier (length next.pairs) (pair_of next supplier) (own supplier sent) ≡ pair_run supplier (length t.pairs) pair (own supplier sent)
      then e = ap₂ (λ n p. pair_run supplier n p (own supplier sent)) (Job.pairs_kept s.job s.table s.supplier t) e

      by : Dec (s.supplier ≡ supplier) → pair_of (after job_call next sent) supplier ≡ pair_run supplier (length next.pairs) (pair_of next supplier) (own supplier sent) →
          pair_of (after job_call t (s ∷ sent)) supplier ≡ pair_run supplier (length t.pairs) (pair_of t supplier) (own supplier (s ∷ sent))
      by (yes e) more = rw (eq-eqb s.supplier supplier e) (more ∙ then (subst (λ k. pair_of next k ≡ pair_next k (length t.pairs) (pair_of t k) s) e (pair_next_lem s t)))
      by (no d) more = rw (ne_eqb s.supplier supplier d) (more ∙ then (Job.others_kept s.job s.table s.supplier t fresh_pair supplier (λ e. d (sym e))))

  own_own : (sent : List Sent) → own supplier (own supplier sent) ≡ own supplier sent
  own_own [] = refl
  own_own (s ∷ sent) = let more = own_own sent in flag (eqb s.supplier supplier) (λ e. rw (e, e, more)) (λ e. rw (e, more))

  by_own : (sent : List Sent) (t : Tally) → pair_of (after job_call t sent) supplier ≡ pair_of (after job_call t (own supplier sent)) supplier
  by_own sent t = pair_run_lem sent t ∙ ap (pair_run supplier (length t.pairs) (pair_of t supplier)) (sym (own_own sent)) ∙ sym (pair_run_lem (own supplier sent) t)

  -- as before there were suppliers
  run_before : supplier < suppliers → (sent : List Sent) (pair : Counters) → pair_run supplier suppliers pair sent ≡ after_before_suppliers pair sent
  unfolding pair_run after_before_suppliers
  run_before l [] pair = refl
  run_before l (s ∷ sent) pair =
      let next : pair_next supplier suppliers pair s ≡ (answer_before_suppliers s.job s.table pair).tally = rw (lt-ltb supplier suppliers l) (sym (pair_before s.job s.table pair)) in
      ap (λ p. pair_run supplier suppliers p sent) next ∙ run_before l sent (answer_before_suppliers s.job s.table pair).tally

  as_before : supplier < suppliers → (sent : List Sent) (t : Tally) → Whole t → pair_of (after job_call t sent) supplier ≡ after_before_suppliers (pair_of t supplier) (own supplier sent)
  as_before l sent t w = pair_run_lem sent t ∙ ap (λ n. pair_run supplier n (pair_of t supplier) (own supplier sent)) w ∙ run_before l (own supplier sent) (pair_of t supplier)

-- ---- the totals

-- a count is raised to one more, but not beyond the limit
raised_below : (count : ℕ) → count < max_count → raised count ≡ suc count
unfolding raised
raised_below count l = rw (lt-ltb count max_count l)

raised_past : (count : ℕ) → max_count ≤ count → raised count ≡ count
unfolding raised
raised_past count l = rw (le-ltb count max_count l)

-- a count that is raised, and a sum that it stands in, before and after
held_raised : (before after count : ℕ) → after + count ≡ before + raised count → count ≤ before → held after ≡ raised (held before)
held_raised before after count e m = by (dec_lt count max_count) (dec_lt before max_count)
  where
    by : Dec (count < max_count) → Dec (before < max_count) → held after ≡ raised (held before)
    by (yes k) (yes l) = omega (arith, e, raised_below count k, raised_below (held before) (omega arith))
    by (yes k) (no l) = omega (arith, e, raised_below count k, raised_past (held before) (omega arith))
    by (no k) l = omega (arith, e, m, raised_past count (omega arith), raised_past (held before) (omega (arith, m)))

-- one of the two counters of each pair
module _ (of : Counters → ℕ) where
  abbrev total : Tally → ℕ
  total t = sum_by of t.pairs

  module _ (change : Counters → Counters) (supplier : ℕ) (t : Tally) (l : supplier < length t.pairs) where
    -- what the sum loses and gains
    abbrev balance : total (moved change supplier t) + of (pair_of t supplier) ≡ total t + of (change (pair_of t supplier))
    balance = sum_by-set of t.pairs supplier (change (pair_of t supplier)) fresh_pair l

    total_kept : of (change (pair_of t supplier)) ≡ of (pair_of t supplier) → held (total (moved change supplier t)) ≡ held (total t)
    total_kept e = ap held (omega (arith, balance, e))

    total_raised : of (change (pair_of t supplier)) ≡ raised (of (pair_of t supplier)) → held (total (moved change supplier t)) ≡ raised (held (total t))
    total_raised e =
        held_raised (total t) (total (moved change supplier t)) (of (pair_of t supplier)) (balance ∙ ap (λ n. total t + n) e) (get_or-le-sum_by of t.pairs supplier fresh_pair l)

-- a job adds to the totals what it added to the only pair
totals_next : (s : Sent) (t : Tally) → Whole t → s.supplier < suppliers → totals (answer_to job_call t s).tally ≡ pair_after (outcome_with s.job s.table) (totals t)
totals_next s t w l = ap totals (Job.tally_moved s.job s.table s.supplier t l) ∙ by (outcome_with s.job s.table)
  where
    k : s.supplier < length t.pairs
    k = omega (arith, w, l)

    by : (x : Outcome Parts) → totals (moved (pair_after x) s.supplier t) ≡ pair_after x (totals t)
    by (refuses number part at) = rw (total_kept (λ p. p.accepted) with_refused s.supplier t k refl, total_raised (λ p. p.refused) with_refused s.supplier t k refl) refl
    by (accepts p) = rw (total_raised (λ p. p.accepted) with_accepted s.supplier t k refl, total_kept (λ p. p.refused) with_accepted s.supplier t k refl) refl

totals_on : (sent : List Sent) (t : Tally) → Whole t → totals (after job_call t sent) ≡ after_before_suppliers (totals t) (not17 job_call t sent)
unfolding after after_before_suppliers not17
totals_on [] t w = refl
totals_on (s ∷ sent) t w = by (dec_lt s.supplier suppliers) (totals_on sent (answer_to job_call t s).tally (Job.pairs_kept s.job s.table s.supplier t ∙ w))
  where
    next : Tally
    next = (answer_to job_call t s).tally

    by : Dec (s.supplier < suppliers) → totals (after job_call next sent) ≡ after_before_suppliers (totals next) (not17 job_call next sent) →
        totals (after job_call t (s ∷ sent)) ≡ after_before_suppliers (totals t) (not17 job_call t (s ∷ sent))
    by (yes l) more =
        let n = ne_eqb (answer_to job_call t s).number 17 (λ e. absurd (omega (arith, l, Job.only_17 s.job s.table s.supplier t e))) in
        rw n (more ∙ ap (λ p. after_before_suppliers p (not17 job_call next sent)) (totals_next s t w l ∙ sym (pair_before s.job s.table (totals t))))
    by (no n) more =
        let u = (Job.unknown s.job s.table s.supplier t (omega arith)).0 in
        rw (eq-eqb (answer_to job_call t s).number 17 (ap (λ (a : JobAnswer). a.number) u)) (more ∙ ap (λ t. after_before_suppliers (totals t) (not17 job_call next sent)) (ap (λ (a : JobAnswer). a.tally) u))

-- ---- without the jobs refused 17

without_17 : (sent : List Sent) (t : Tally) → after job_call t (not17 job_call t sent) ≡ after job_call t sent
unfolding after not17
without_17 [] t = refl
without_17 (s ∷ sent) t = by (dec_lt s.supplier suppliers) (without_17 sent (answer_to job_call t s).tally)
  where
    next : Tally
    next = (answer_to job_call t s).tally

    by : Dec (s.supplier < suppliers) → after job_call next (not17 job_call next sent) ≡ after job_call next sent → after job_call t (not17 job_call t (s ∷ sent)) ≡ after job_call next sent
    by (yes l) more = rw (ne_eqb (answer_to job_call t s).number 17 (λ e. absurd (omega (arith, l, Job.only_17 s.job s.table s.supplier t e)))) more
    by (no n) more =
        let u = (Job.unknown s.job s.table s.supplier t (omega arith)).0 in
        rw (eq-eqb (answer_to job_call t s).number 17 (ap (λ (a : JobAnswer). a.number) u))
        (ap (λ u. after job_call u (not17 job_call next sent)) (sym (ap (λ (a : JobAnswer). a.tally) u)) ∙ more)

pub suppliers_kept : SuppliersKept job_call
suppliers_kept = record {
  known = λ job table supplier tally l. rw (answer_before job table supplier tally l, table_before job table supplier tally l);
  alike = alike;
  refused_17 = λ job table supplier tally. (Job.only_17 job table supplier tally, λ l. ap (λ (a : JobAnswer). a.number) (Job.unknown job table supplier tally l).0);
  nothing_moves = λ job table supplier tally e.
      let (a, t) = Job.unknown job table supplier tally (Job.only_17 job table supplier tally e) in
      (ap (λ (a : JobAnswer). a.tally) a, t);
  counted = λ job table supplier tally l w none. counting_holds.of_every_job job table supplier tally l w none;
  others = λ job table supplier other tally d none. counting_holds.of_no_other job table supplier other tally d none;
  whole = λ tally w sent. pairs_after sent tally ∙ w;
  by_themselves = λ tally sent supplier. by_own supplier sent tally;
  as_before = λ tally w sent supplier l. as_before supplier l sent tally w;
  totals_fresh = λ sent. totals_on sent fresh refl;
  totals_on = λ tally w sent. totals_on sent tally w;
  without_17 = λ tally sent. without_17 sent tally;
}
