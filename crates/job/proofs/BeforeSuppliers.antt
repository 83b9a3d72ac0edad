-- The call leads, for a supplier's pair, to what the earlier call leads to for its only one.
use Prim.Native.Nat.{ℕ, ◌<◌}
use mathlib.Core.Path.{◌≡◌, refl, ◌∙◌}
use mathlib.Core.Bool.{Bool, true, false, cond}
use mathlib.Core.List.{List}
use lib.Dec.{ltb}
use lib.IntN.{ℤ}
use lib.ListN.{length}
use Rattle.wire.specs.Outcome.{Outcome, refuses, accepts}
use Rattle.forms.specs.Table.{table_numbers}
use Rattle.job.specs.declared.Counters.{Counters}
use Rattle.job.specs.declared.Tally.{Tally}
use Rattle.job.specs.Outcome.{Parts, outcome}
use Rattle.job.specs.Tally.{suppliers, pair_of, with_pair}
use Rattle.job.specs.Answer.{pair_after, after_job, outcome_with, job_answer, job_table}
use Rattle.job.specs.BeforeSuppliers.{refused_before_suppliers, after_job_before_suppliers, answer_before_suppliers, table_before_suppliers, with_tally}
use Rattle.job.proofs.Suppliers.{known}

module _ (job : List ℕ) (lent : List ℤ) where
  -- what it makes of its pair
  pub pair_before : (pair : Counters) → (answer_before_suppliers job lent pair).tally ≡ pair_after (outcome_with job lent) pair
  unfolding answer_before_suppliers
  pair_before pair = by (ltb (length lent) table_numbers)
    where
      of : (x : Outcome Parts) → (after_job_before_suppliers x pair).tally ≡ pair_after x pair
      of (refuses number part at) = refl
      of (accepts p) = refl

      by : (short : Bool) → (cond short (refused_before_suppliers 11 0 0 pair) (after_job_before_suppliers (outcome job) pair)).tally ≡ pair_after (cond short (refuses 11 0 0) (outcome job)) pair
      by true = refl
      by false = of (outcome job)

  module _ (supplier : ℕ) (tally : Tally) (l : supplier < suppliers) where
    pub answer_before : let a = answer_before_suppliers job lent (pair_of tally supplier) in job_answer job lent supplier tally ≡ with_tally a (with_pair supplier a.tally tally)
    unfolding answer_before_suppliers
    answer_before = (known job lent supplier tally l).0 ∙ by (ltb (length lent) table_numbers)
      where
        pair : Counters
        pair = pair_of tally supplier

        of : (x : Outcome Parts) → let a = after_job_before_suppliers x pair in after_job x supplier tally ≡ with_tally a (with_pair supplier a.tally tally)
        of (refuses number part at) = refl
        of (accepts p) = refl

        by : (short : Bool) → let a = cond short (refused_before_suppliers 11 0 0 pair) (after_job_before_suppliers (outcome job) pair) in
            after_job (cond short (refuses 11 0 0) (outcome job)) supplier tally ≡ with_tally a (with_pair supplier a.tally tally)
        by true = refl
        by false = of (outcome job)

    pub table_before : job_table job lent supplier ≡ table_before_suppliers job lent
    unfolding table_before_suppliers
    table_before = (known job lent supplier tally l).1
