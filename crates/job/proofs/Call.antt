-- What the call answers and what its table then holds, from what reading the job comes to.
use Prim.Native.Nat.{ℕ, ◌≤◌, ◌<◌}
use mathlib.Core.Path.{◌≡◌, sym, ◌∙◌}
use mathlib.Core.List.{List}
use lib.IntN.{ℤ}
use Rattle.wire.specs.Outcome.{Outcome, refuses, accepts}
use Rattle.wire.proofs.Outcome.{not_both}
use Rattle.job.specs.declared.Tally.{Tally}
use Rattle.job.specs.declared.JobRead.{JobRead}
use Rattle.job.specs.declared.JobAnswer.{JobAnswer}
use Rattle.job.specs.Outcome.{Parts}
use Rattle.job.specs.Tally.{suppliers, with_accepted, with_refused, moved}
use Rattle.job.specs.Answer.{job_read, refused_answer, after_job, outcome_with, table_with, job_answer, job_table}
use Rattle.job.proofs.Suppliers.{unknown, known}

-- what it answers and what the table then holds
pub record Answered (s : List ℕ) (lent : List ℤ) (supplier : ℕ) (tally : Tally) (a : JobAnswer) (table : List ℤ) : Type 0 where
  pub answers : a ≡ job_answer s lent supplier tally
  pub holds : table ≡ job_table s lent supplier

-- zeros, what an accepted job gives, and a tally
abbrev pub answered : JobRead → Tally → JobAnswer
answered read tally = record { number = 0; part = 0; position = 0; bound = read.bound; cost = read.cost; gap = read.gap; tally = tally }

module _ (s : List ℕ) (lent : List ℤ) (supplier : ℕ) (tally : Tally) where
  -- a supplier that there is not
  pub none : suppliers ≤ supplier → Answered s lent supplier tally (refused_answer 17 0 0 tally) lent
  none k = let (a, t) = unknown s lent supplier tally k in record { answers = sym a; holds = sym t }

  -- and one that there is
  module _ (k : supplier < suppliers) (table : List ℤ) (d : table ≡ table_with s lent) where
    by_outcome : (a : JobAnswer) → a ≡ after_job (outcome_with s lent) supplier tally → Answered s lent supplier tally a table
    by_outcome a q = let (b, t) = known s lent supplier tally k in record { answers = q ∙ sym b; holds = d ∙ sym t }

    pub call_refused : {n part at : ℕ} → refuses n part at ≡ job_read (outcome_with s lent) → Answered s lent supplier tally (refused_answer n part at (moved with_refused supplier tally)) table
    call_refused {n} {part} {at} e = by_outcome _ (go (outcome_with s lent) e)
      where
        go : (x : Outcome Parts) → refuses n part at ≡ job_read x → refused_answer n part at (moved with_refused supplier tally) ≡ after_job x supplier tally
        go (refuses n' part' at') f = cc
        go (accepts p) f = absurd (not_both f)

    pub call_accepted : {read : JobRead} → accepts read ≡ job_read (outcome_with s lent) → Answered s lent supplier tally (answered read (moved with_accepted supplier tally)) table
    call_accepted {read} e = by_outcome _ (go (outcome_with s lent) e)
      where
        go : (x : Outcome Parts) → accepts read ≡ job_read x → answered read (moved with_accepted supplier tally) ≡ after_job x supplier tally
        go (refuses n part at) f = absurd (not_both (sym f))
        go (accepts p) f = cc
