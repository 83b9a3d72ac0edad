-- What our job call and our listing call say of a job.
use Prim.Native.Nat.{ℕ, ◌≤◌, ◌<◌}
use native.Mathlib.Omega.{arith}
use mathlib.Core.Path.{◌≡◌, refl, sym, ◌∙◌, ap, subst}
use mathlib.Core.List.{List, [], ◌∷◌, ◌++◌}
use lib.IntN.{ℤ, pos, ◌-ℤ◌}
use lib.ListN.{length}
use lib.Signed.{◌≤ℤ◌}
use borrow.Author.Tests.{eq-eqb, ne_eqb}
use Rattle.integers.specs.Lists.{All}
use Rattle.integers.proofs.Diff.{diff₂, diffs}
use Rattle.forms.specs.Table.{table_numbers}
use Rattle.bound.proofs.Bound.{plan_bound, every_plan_bound}
use Rattle.plan.specs.Fits.{Fits}
use Rattle.text.specs.Text.{line}
use Rattle.job.specs.declared.Tally.{Tally}
use Rattle.wire.specs.Outcome.{Outcome, refuses, accepts}
use Rattle.wire.proofs.Outcome.{accepts_one}
use Rattle.job.specs.Outcome.{Parts, coefficients, outcome, bound_of, cost_of, gap_of}
use Rattle.job.specs.Tally.{suppliers}
use Rattle.job.specs.Answer.{after_job, job_answer}
use Rattle.job.proofs.Suppliers.{table_enough}
use Rattle.job.proofs.Sound.{accepted_valid}
use Rattle.job.proofs.Accept.{accepted_iff}
use Rattle.job.proofs.Accept as Job
use Rattle.listing.specs.declared.Reader.TheVariants.{Farm}
use Rattle.listing.specs.Listing.{PlanLines, plan_lines, refusal_line, accepted_lines, listed}
use Rattle.listing.proofs.Outcome.{listing_short}
use Rattle.listing.proofs.Answers.{enough, handed_back}
use Rattle.listing.proofs.Lines.{lines_without, same_plan, same_lines}
use Rattle.soundness.specs.Calls.{job_call, listing_call}
use Rattle.soundness.specs.Jobs.{before, shown_plan, job_cost, JobCosts, Listed, AcceptedJob, JobsSound}
use Rattle.soundness.proofs.Choosing.{chosen_low}

-- ---- the bytes before the first that is a given one

before_first : (byte : ℕ) (xs ys : List ℕ) → All (λ b. b ≡ byte → ⊥) xs → before byte (xs ++ (byte ∷ ys)) ≡ xs
unfolding before
before_first byte [] ys h = rw (eq-eqb byte byte refl)
before_first byte (x ∷ xs) ys h = rw (ne_eqb x byte h.0, before_first byte xs ys h.1)

-- ---- an accepted job

not_negative : (b c : ℤ) → b ≤ℤ c → pos 0 ≤ℤ (c -ℤ b)
not_negative = diff₂ _ λ p q r s. simp diffs (omega arith)

pub accepted_job : (job : List ℕ) (table : List ℤ) (supplier : ℕ) (tally : Tally) → (job_answer job table supplier tally).number ≡ 0 → AcceptedJob job_call listing_call job table supplier tally
unfolding listed accepted_lines
accepted_job job table supplier tally z =
    let r = Job.answered job table supplier tally z in
    let p = r.parts_are in
    let a = r.answers in
    let e = r.leads in
    let v = accepted_valid job p e in
    let bounds : (plan : ℕ) → Fits p.register plan → bound_of p ≤ℤ job_cost p plan = plan_bound (coefficients p) p.register p.scheme p.certificate v.scheme v.certificate in
    let costs : JobCosts (coefficients p) p (job_answer job table supplier tally) = record {
      bounds = λ plan f. rw a (bounds plan.fed f);
      bounds_every = λ none plan. rw a (every_plan_bound (coefficients p) p.register p.scheme p.certificate v.scheme v.certificate none plan.fed);
      cost_is = rw a;
    } in
    record {
      parts = p;
      conditions = v;
      bytes = λ b. ((accepted_iff job p b).0 e).1;
      no_other = λ b q w k. accepts_one (sym ((accepted_iff job q b).1 (w, k)) ∙ e);
      fits = v.plan.fits;
      costs = costs;
      costs_known = λ none. subst (λ c. JobCosts c p (job_answer job table supplier tally)) (chosen_low p.register v.register none p.plan) costs;
      gap_is = rw a;
      gap_not_negative = rw a (not_negative (bound_of p) (cost_of p) (bounds p.plan v.plan.fits));
      lines = λ lent buffer h. (handed_back plan_lines job lent buffer h).front ∙ ap (listed plan_lines) e ∙ rw a;
    }

-- its parts are those that reading it leads to
pub accepted_leads : (job : List ℕ) (table : List ℤ) (supplier : ℕ) (tally : Tally) (z : (job_answer job table supplier tally).number ≡ 0) → outcome job ≡ accepts (accepted_job job table supplier tally z).parts
unfolding accepted_job
accepted_leads job table supplier tally z = (Job.answered job table supplier tally z).leads

-- and the numbers that are answered are those of these parts
pub accepted_numbers : (job : List ℕ) (table : List ℤ) (supplier : ℕ) (tally : Tally) (z : (job_answer job table supplier tally).number ≡ 0) →
    let p = (accepted_job job table supplier tally z).parts in
    let a = job_answer job table supplier tally in
    (bound_of p ≡ a.bound) × ((cost_of p ≡ a.cost) × (gap_of p ≡ a.gap))
unfolding accepted_job
accepted_numbers job table supplier tally z = let a = (Job.answered job table supplier tally z).answers in rw a (refl, (refl, refl))

-- ---- two accepted jobs

module _ (job : List ℕ) (table : List ℤ) (supplier : ℕ) (tally : Tally) (j : AcceptedJob job_call listing_call job table supplier tally)
    (lent : List ℤ) (buffer : List ℕ) (h : Listed job_call listing_call job lent buffer) where
  plan_shown : shown_plan job_call listing_call job lent buffer ≡ plan_lines j.parts.register j.parts.plan
  unfolding line
  plan_shown =
      let r = j.parts.register in
      let plan = j.parts.plan in
      ap (before 0x42) (j.lines lent buffer h) ∙ before_first 0x42 (plan_lines r plan) _ (lines_without r plan)

-- ---- a refused job

-- whatever lines it would have

pub refusal_shown : (lines : PlanLines) (job : List ℕ) (table : List ℤ) (supplier : ℕ) (tally : Tally) → supplier < suppliers → table_numbers ≤ length table → ((job_answer job table supplier tally).number ≡ 0 → ⊥) →
    listed lines (outcome job) ≡ refusal_line (job_answer job table supplier tally).number (job_answer job table supplier tally).position
unfolding listed
refusal_shown lines job table supplier tally k l d = let e = (table_enough job table supplier tally k l).0 in rw e (go (outcome job) (rw e at d))
  where
    go : (x : Outcome Parts) → ((after_job x supplier tally).number ≡ 0 → ⊥) → listed lines x ≡ refusal_line (after_job x supplier tally).number (after_job x supplier tally).position
    go (refuses number part at) d = refl
    go (accepts p) d = absurd (d refl)

pub jobs_sound : JobsSound job_call listing_call
jobs_sound = record {
  accepted = accepted_job;
  same_lines = λ job job' table table' supplier supplier' tally tally' j j' lent lent' buffer buffer' h h'.
      let p = j.parts in
      let p' = j'.parts in
      let v = j.conditions.register in
      let v' = j'.conditions.register in
      let e = plan_shown job table supplier tally j lent buffer h in
      let e' = plan_shown job' table' supplier' tally' j' lent' buffer' h' in (
        (λ q. same_plan p.register p'.register v v' p.plan p'.plan (sym e ∙ q ∙ e')),
        (λ q. e ∙ same_lines p.register p'.register v v' p.plan p'.plan q ∙ sym e'),
      );
  refused = λ job table supplier tally k l d lent buffer h. (handed_back plan_lines job lent buffer h).front ∙ refusal_shown plan_lines job table supplier tally k l d;
  room = λ job lent buffer l m. ap (λ a. a.number) (enough plan_lines job lent buffer l m (listing_short Farm job)).0;
}
