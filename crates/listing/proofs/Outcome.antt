-- What the reader of a job gives, by the job's outcome, and how long the lines are.
use Prim.Native.Nat.{ℕ, ◌^◌, ◌≤◌, ◌<◌}
use native.Mathlib.Omega.{arith}
use mathlib.Core.Path.{◌≡◌, refl, ◌∙◌, ap}
use mathlib.Core.List.{List}
use lib.ListN.{length}
use Rattle.integers.proofs.Order.{nat_abs_sub}
use Rattle.wire.specs.Outcome.{Outcome, refuses, accepts}
use Rattle.register.specs.Valid.{Within}
use Rattle.plan.proofs.Bounds.{chosen_small}
use Rattle.bound.proofs.Bound.{bound_small}
use Rattle.job.specs.declared.JobRead.{JobRead}
use Rattle.job.specs.Outcome.{Parts, outcome, bound_of, cost_of, gap_of}
use Rattle.job.specs.Answer.{job_read}
use Rattle.job.proofs.Sound.{Sound, outcome_sound}
use Rattle.job.proofs.Prefix.{job_reach, reach_is}
use Rattle.job.proofs.Ranges.{Ranged, outcome_ranged}
use Rattle.listing.specs.declared.Reader.{Reader}
use Rattle.listing.specs.Listing.{PlanLines, accepted_lines, refusal_line, listed}
use Rattle.listing.specs.Readers.{lines_for}
use Rattle.listing.specs.Answer.{longest_listing, listing_room}
use Rattle.listing.proofs.Lengths.{accepted_short, refusal_short, longest_fits}

-- the lines of what the reader of a job gives
pub lines_of : PlanLines → Outcome JobRead → List ℕ
lines_of lines (refuses number part at) = refusal_line number at
lines_of lines (accepts read) = accepted_lines lines read.register read.plan read.bound read.cost read.gap

pub read_lines : (lines : PlanLines) (o : Outcome Parts) → lines_of lines (job_read o) ≡ listed lines o
unfolding lines_of listed
read_lines lines (refuses number part at) = refl
read_lines lines (accepts p) = refl

module _ (s : List ℕ) where
  -- a job that is accepted
  module _ (read : JobRead) (e : accepts read ≡ job_read (outcome s)) where
    pub read_within : Within read.register
    read_within = by (outcome s) (outcome_sound s) e
      where
        by : (o : Outcome Parts) → Sound o → accepts read ≡ job_read o → Within read.register
        by (refuses number part at) h d = absurd cc
        by (accepts p) h d =
            let r : read.register ≡ p.register = cc in
            rw r h.register.within

    pub accepted_listed : (lines : PlanLines) → accepted_lines lines read.register read.plan read.bound read.cost read.gap ≡ listed lines (outcome s)
    unfolding lines_of
    accepted_listed lines = ap (lines_of lines) e ∙ read_lines lines (outcome s)

  -- a job that is refused
  module _ (number part at : ℕ) (e : refuses number part at ≡ job_read (outcome s)) where
    pub refused_position : at < 2 ^ 63
    refused_position = by (outcome s) (outcome_ranged s) e
      where
        by : (o : Outcome Parts) → Ranged job_reach o → refuses number part at ≡ job_read o → at < 2 ^ 63
        by (refuses n p a) k d =
            let q : at ≡ a = cc in
            omega (arith, k.1, reach_is)
        by (accepts p) k d = absurd cc

    pub refused_listed : (lines : PlanLines) → refusal_line number at ≡ listed lines (outcome s)
    unfolding lines_of
    refused_listed lines = ap (lines_of lines) e ∙ read_lines lines (outcome s)

-- the lines of every job, whoever reads them, are no longer than the longest
pub listing_longest : (reader : Reader) (s : List ℕ) → length (listed (lines_for reader) (outcome s)) ≤ longest_listing
unfolding listed
listing_longest reader s = by (outcome s) (outcome_sound s) (outcome_ranged s)
  where
    by : (o : Outcome Parts) → Sound o → Ranged job_reach o → length (listed (lines_for reader) o) ≤ longest_listing
    by (refuses number part at) h k = refusal_short number at (omega (arith, k.0)) (omega (arith, k.1, reach_is))
    by (accepts p) h k =
        let w = h.register.within in
        let c = chosen_small p.register p.plan w in
        let b = bound_small p.certificate h.certificate.within.scale_above h.certificate.within.target_within in
        accepted_short reader p.register p.plan (bound_of p) (cost_of p) (gap_of p) w (omega (arith, b)) (omega (arith, c)) (omega (arith, nat_abs_sub (cost_of p) (bound_of p), b, c))

-- and fit a buffer of 4,096 bytes
pub listing_short : (reader : Reader) (s : List ℕ) → length (listed (lines_for reader) (outcome s)) ≤ listing_room
listing_short reader s = omega (arith, listing_longest reader s, longest_fits)
