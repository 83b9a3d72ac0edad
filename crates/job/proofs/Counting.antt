-- The laws of the tally hold: by what the job comes to for one pair, and so for each supplier's.
use Prim.Native.Nat.{ℕ, ◌<◌}
use mathlib.Core.Path.{◌≡◌, refl, ◌∙◌, ap}
use mathlib.Core.Bool.{Bool, true, false, cond}
use mathlib.Core.List.{List}
use native.Mathlib.Omega.{arith}
use lib.Dec.{ltb}
use lib.IntN.{ℤ}
use lib.ListN.{length, get_or}
use lib.Seq.{get_or-set_same}
use borrow.Author.Tests.{lt-ltb, le-ltb}
use Rattle.std.proofs.lemmas.List.{get_or_default}
use Rattle.wire.specs.Outcome.{Outcome, refuses, accepts}
use Rattle.forms.specs.Table.{table_numbers}
use Rattle.job.specs.declared.Counters.{Counters}
use Rattle.job.specs.declared.Tally.{Tally}
use Rattle.job.specs.declared.JobAnswer.{JobAnswer}
use Rattle.job.specs.Outcome.{Parts, outcome}
use Rattle.job.specs.Tally.{max_count, suppliers, raised, fresh_pair, pair_of}
use Rattle.job.specs.Answer.{job_answer}
use Rattle.job.specs.BeforeSuppliers.{refused_before_suppliers, after_job_before_suppliers, answer_before_suppliers}
use Rattle.job.specs.Counting.{Counts, Counted, Whole, Counting}
use Rattle.job.proofs.Sound.{Sound, outcome_sound}
use Rattle.job.proofs.Suppliers.{table_short, others_kept, pairs_kept}
use Rattle.job.proofs.BeforeSuppliers.{answer_before}

raised_counts : (count : ℕ) → Counts count (raised count)
unfolding raised
raised_counts count = record {
  rises = λ l. rw (lt-ltb count max_count l);
  stays = λ e. rw (le-ltb count max_count (omega arith));
}

-- the law of a pair, by what the job comes to
of_outcome : (x : Outcome Parts) → Sound x → (pair : Counters) → let a = after_job_before_suppliers x pair in Counted a.number pair a.tally
of_outcome (refuses number part at) n pair = record { accepted = λ z. absurd (n z); refused = λ _. (raised_counts pair.refused, refl) }
of_outcome (accepts p) v pair = record { accepted = λ _. (raised_counts pair.accepted, refl); refused = λ n. absurd (n refl) }

module _ (job : List ℕ) (lent : List ℤ) where
  of_pair : (pair : Counters) → let a = answer_before_suppliers job lent pair in Counted a.number pair a.tally
  unfolding answer_before_suppliers
  of_pair pair = by (ltb (length lent) table_numbers)
    where
      by : (short : Bool) → let a = cond short (refused_before_suppliers 11 0 0 pair) (after_job_before_suppliers (outcome job) pair) in Counted a.number pair a.tally
      by true = of_outcome (refuses 11 0 0) (λ z. absurd (omega arith)) pair
      by false = of_outcome (outcome job) (outcome_sound job) pair

  module _ (supplier : ℕ) (tally : Tally) (l : supplier < suppliers) where
    -- so the pair of a supplier
    of_job : Whole tally → (none : Counters) → let a = job_answer job lent supplier tally in Counted a.number (get_or tally.pairs supplier none) (get_or a.tally.pairs supplier none)
    of_job w none =
        let k : supplier < length tally.pairs = omega (arith, w) in
        let old = get_or_default tally.pairs supplier none fresh_pair k in
        let new = get_or-set_same tally.pairs supplier (answer_before_suppliers job lent (pair_of tally supplier)).tally none k in
        rw (answer_before job lent supplier tally l, old, new) (of_pair (pair_of tally supplier))

    of_short : length lent < table_numbers → (job_answer job lent supplier tally).number ≡ 11
    of_short m = ap (λ (a : JobAnswer). a.number) (table_short job lent supplier tally l m).0

pub counting_holds : Counting
counting_holds = record {
  of_every_job = λ job lent supplier tally l w none. of_job job lent supplier tally l w none;
  of_no_other = λ job lent supplier other tally d none. others_kept job lent supplier tally none other d;
  whole = λ job lent supplier tally w. pairs_kept job lent supplier tally ∙ w;
  of_short_table = λ job lent supplier tally l m. of_short job lent supplier tally l m;
  of_one_pair = of_pair;
  limit = refl;
}
