-- Jobs of the same four valid parts but for the factor of the scheme are answered alike, in whichever of their forms the parts stand there.
use Prim.Native.Nat.{ℕ, ◌≤◌, ◌<◌}
use native.Mathlib.Omega.{arith}
use mathlib.Core.Path.{◌≡◌, refl, sym, ◌∙◌, ap, ap₂}
use mathlib.Core.Bool.{cond}
use mathlib.Core.List.{List}
use lib.Dec.{ltb}
use lib.IntN.{ℤ}
use lib.ListN.{length}
use borrow.Author.Tests.{ltb-false}
use Rattle.integers.proofs.Lists.{flag}
use Rattle.wire.specs.Outcome.{accepts}
use Rattle.forms.specs.Table.{table_numbers, with_table}
use Rattle.plan.specs.Plan.{cost}
use Rattle.scheme.specs.Scheme.{side}
use Rattle.scheme.specs.Valid.{Factor}
use Rattle.residual.proofs.OtherFactor.{R_with_factor}
use Rattle.bound.specs.Bound.{bound}
use Rattle.job.specs.declared.Tally.{Tally}
use Rattle.job.specs.Outcome.{Parts, coefficients, outcome, table_after}
use Rattle.job.specs.Valid as J
use Rattle.job.specs.Tally.{suppliers, fresh as fresh_tally}
use Rattle.job.specs.Answer.{job_answer, job_table}
use Rattle.job.proofs.OtherFactor.{parts_with_factor, parts_valid}
use Rattle.job.proofs.EachRead.{read_all}
use Rattle.job.proofs.Accept.{encoded_read}
use Rattle.job.proofs.Suppliers.{table_enough}
use Rattle.listing.specs.Listing.{listed}
use Rattle.listing.specs.Answer.{answer_with, listing_table, buffer_with}
use Rattle.soundness.specs.Calls.{job_call, listing_call, supplier_listing_call}
use Rattle.soundness.specs.Parts.{with_r}
use Rattle.soundness.specs.Acceptance.{OfJob}
use Rattle.soundness.specs.MoreChoices.{JobsAlike}
use Rattle.soundness.proofs.Acceptance.{acceptance}

-- the table after a job of valid parts
table_of_parts : (s : List ℕ) (p : Parts) → J.Valid p → J.Encodes p s → (lent : List ℤ) → table_numbers ≤ length lent → table_after s lent ≡ with_r (coefficients p) p.register p.scheme p.certificate lent
table_of_parts s p v b lent l =
    let of_parts : OfJob s (bound p.certificate) (cost (coefficients p) p.register p.plan) = record { parts = p; conditions = v; bytes = b; bound_is = refl; cost_is = refl } in
    let known : 0 < suppliers = omega arith in
    sym (table_enough s lent 0 fresh_tally known l).1 ∙ acceptance.of_job.table_back s lent 0 fresh_tally _ _ known l of_parts

module _ (job other : List ℕ) (p : Parts) (f : ℕ) (fits : Factor f) (v : J.Valid p) (e : J.Encodes p job) where
  abbrev q : Parts
  q = parts_with_factor f p

  q_valid : J.Valid q
  q_valid = parts_valid f fits p v

  module _ (d : J.Encodes q other) where
    job_read : outcome job ≡ accepts p
    job_read = read_all job p (encoded_read p v job e)

    other_read : outcome other ≡ accepts q
    other_read = read_all other q (encoded_read q q_valid other d)

    -- a table that is too short stays as it is
    tables_alike : (lent : List ℤ) → listing_table job lent ≡ listing_table other lent
    unfolding listing_table
    tables_alike lent = flag (ltb (length lent) table_numbers) (λ t. rw t refl) (λ t. rw t (long (omega (arith, ltb-false _ _ t))))
      where
        long : table_numbers ≤ length lent → table_after job lent ≡ table_after other lent
        long l =
            table_of_parts job p v e lent l
            ∙ sym (table_of_parts other q q_valid d lent l ∙ ap (λ r. with_table (side p.register.choices p.scheme) r lent) (R_with_factor p.register p.scheme f (coefficients p) p.certificate))

    answers_alike : (lent : List ℤ) (supplier : ℕ) (tally : Tally) → job_answer job lent supplier tally ≡ job_answer other lent supplier tally
    unfolding job_answer
    answers_alike lent supplier tally = flag (ltb (length lent) table_numbers) (λ t. rw t refl) (λ t. rw (t, job_read, other_read) refl)

    pub jobs_alike : JobsAlike job_call listing_call supplier_listing_call job other
    unfolding job_table answer_with buffer_with listing_table listed
    jobs_alike = record {
      jobs = λ table supplier tally. ap₂ (λ a b. (a, b)) (answers_alike table supplier tally) (ap (λ x. cond (ltb supplier suppliers) x table) (tables_alike table));
      listings = λ table buffer. rw (job_read, other_read, tables_alike table) refl;
      supplier_listings = λ table buffer. rw (job_read, other_read, tables_alike table) refl;
    }
