-- The call by its supplier: with a number above 15 nothing moves, else that supplier's pair does, by what the job comes to.
use Prim.Native.Nat.{ℕ, ◌≤◌, ◌<◌}
use mathlib.Core.Path.{◌≡◌, refl, sym, ◌∙◌, ap, subst}
use mathlib.Core.List.{List}
use native.Mathlib.Omega.{arith}
use native.Mathlib.Decide.{dec_lt}
use lib.IntN.{ℤ}
use lib.ListN.{length, get_or, length-set}
use lib.Seq.{get_or-set_same, get_or-set_other}
use borrow.Author.Tests.{lt-ltb, le-ltb}
use Rattle.wire.specs.Outcome.{Outcome, refuses, accepts}
use Rattle.forms.specs.Table.{table_numbers}
use Rattle.job.specs.declared.Counters.{Counters}
use Rattle.job.specs.declared.Tally.{Tally}
use Rattle.job.specs.declared.JobAnswer.{JobAnswer}
use Rattle.job.specs.Outcome.{Parts, outcome, table_after}
use Rattle.job.specs.Tally.{suppliers, with_refused, pair_of, moved}
use Rattle.job.specs.Answer.{refused_answer, pair_after, after_job, outcome_with, table_with, job_answer, job_table}
use Rattle.job.proofs.Ranges.{Ranged, outcome_ranged}
use Rattle.job.proofs.Prefix.{job_reach}

-- ---- a tally by its pairs

module _ (change : Counters → Counters) (tally : Tally) (none : Counters) where
  pub pair_moved : (supplier : ℕ) → supplier < length tally.pairs →
      get_or (moved change supplier tally).pairs supplier none ≡ change (pair_of tally supplier)
  pair_moved supplier l = get_or-set_same tally.pairs supplier _ none l

  pub pair_kept : (supplier other : ℕ) → (other ≡ supplier → ⊥) → get_or (moved change supplier tally).pairs other none ≡ get_or tally.pairs other none
  pair_kept supplier other d = get_or-set_other tally.pairs supplier other _ none d

-- ---- what the call makes of them

tally_after : (x : Outcome Parts) (supplier : ℕ) (tally : Tally) → (after_job x supplier tally).tally ≡ moved (pair_after x) supplier tally
tally_after (refuses number part at) supplier tally = refl
tally_after (accepts p) supplier tally = refl

module _ (job : List ℕ) (lent : List ℤ) (supplier : ℕ) (tally : Tally) where
  abbrev answer : JobAnswer
  answer = job_answer job lent supplier tally

  pub unknown : suppliers ≤ supplier → (answer ≡ refused_answer 17 0 0 tally) × (job_table job lent supplier ≡ lent)
  unfolding job_answer job_table
  unknown l = let e = le-ltb supplier suppliers l in (rw e, rw e)

  pub known : supplier < suppliers → (answer ≡ after_job (outcome_with job lent) supplier tally) × (job_table job lent supplier ≡ table_with job lent)
  unfolding job_answer job_table
  known l = let e = lt-ltb supplier suppliers l in (rw e, rw e)

  pub table_short : supplier < suppliers → length lent < table_numbers → (answer ≡ refused_answer 11 0 0 (moved with_refused supplier tally)) × (job_table job lent supplier ≡ lent)
  table_short l m =
      let (a, t) = known l in
      let e = lt-ltb (length lent) table_numbers m in
      (rw (a, e), rw (t, e))

  pub table_enough : supplier < suppliers → table_numbers ≤ length lent → (answer ≡ after_job (outcome job) supplier tally) × (job_table job lent supplier ≡ table_after job lent)
  table_enough l m =
      let (a, t) = known l in
      let e = le-ltb (length lent) table_numbers m in
      (rw (a, e), rw (t, e))

  -- so what holds of the three answers holds of the call's
  pub of_three : (P : JobAnswer → Type 0) → (suppliers ≤ supplier → P (refused_answer 17 0 0 tally)) →
      (supplier < suppliers → length lent < table_numbers → P (refused_answer 11 0 0 (moved with_refused supplier tally))) →
      (supplier < suppliers → table_numbers ≤ length lent → P (after_job (outcome job) supplier tally)) → P answer
  of_three P none short long = by (dec_lt supplier suppliers) (dec_lt (length lent) table_numbers)
    where
      by : Dec (supplier < suppliers) → Dec (length lent < table_numbers) → P answer
      by (no n) m = subst P (sym (unknown (omega arith)).0) (none (omega arith))
      by (yes l) (yes m) = subst P (sym (table_short l m).0) (short l m)
      by (yes l) (no m) = subst P (sym (table_enough l (omega arith)).0) (long l (omega arith))

  pub tally_moved : supplier < suppliers → answer.tally ≡ moved (pair_after (outcome_with job lent)) supplier tally
  tally_moved l = ap (λ (a : JobAnswer). a.tally) (known l).0 ∙ tally_after (outcome_with job lent) supplier tally

  -- no other pair moves, and none where there is no such supplier
  pub others_kept : (none : Counters) (other : ℕ) → (other ≡ supplier → ⊥) → get_or answer.tally.pairs other none ≡ get_or tally.pairs other none
  others_kept none other d = by (dec_lt supplier suppliers)
    where
      by : Dec (supplier < suppliers) → get_or answer.tally.pairs other none ≡ get_or tally.pairs other none
      by (yes l) = ap (λ (t : Tally). get_or t.pairs other none) (tally_moved l) ∙ pair_kept (pair_after (outcome_with job lent)) tally none supplier other d
      by (no n) = ap (λ (a : JobAnswer). get_or a.tally.pairs other none) (unknown (omega arith)).0

  -- there are as many pairs as before
  pub pairs_kept : length answer.tally.pairs ≡ length tally.pairs
  pairs_kept = by (dec_lt supplier suppliers)
    where
      by : Dec (supplier < suppliers) → length answer.tally.pairs ≡ length tally.pairs
      by (yes l) = ap (λ (t : Tally). length t.pairs) (tally_moved l) ∙ length-set tally.pairs supplier _
      by (no n) = ap (λ (a : JobAnswer). length a.tally.pairs) (unknown (omega arith)).0

-- 17 is the answer where there is no such supplier, and nowhere else
pub only_17 : (job : List ℕ) (lent : List ℤ) (supplier : ℕ) (tally : Tally) → (job_answer job lent supplier tally).number ≡ 17 → suppliers ≤ supplier
only_17 job lent supplier tally =
    of_three job lent supplier tally (λ a. a.number ≡ 17 → suppliers ≤ supplier) (λ l e. l) (λ l m e. absurd (omega arith)) (λ l m. below (outcome job) (outcome_ranged job))
  where
    below : (x : Outcome Parts) → Ranged job_reach x → (after_job x supplier tally).number ≡ 17 → suppliers ≤ supplier
    below (refuses number part at) h e = absurd (omega (arith, h.0, e))
    below (accepts p) h e = absurd (omega arith)
