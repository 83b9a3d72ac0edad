-- Where part 1 is accepted and part 2 is refused: the scheme call answers that refusal, and the job call the same, at its place in the job.
use Prim.Native.Nat.{ℕ, ◌+◌, ◌≤◌, ◌<◌}
use mathlib.Core.Path.{◌≡◌, refl, ◌∙◌, ap}
use mathlib.Core.List.{List, ◌++◌}
use lib.IntN.{ℤ}
use lib.ListN.{length, drop}
use lib.Seq.{drop_at}
use Rattle.integers.proofs.Lists.{flag}
use Rattle.wire.specs.Part.{refused}
use Rattle.wire.specs.Outcome.{refuses}
use Rattle.wire.proofs.Outcome.{itself_refused}
use Rattle.forms.specs.Table.{table_numbers}
use Rattle.register.specs.declared.Register.{Register}
use Rattle.register.specs.Register.{has_range}
use Rattle.register.specs.Format.{register_in_job}
use Rattle.register.proofs.Accept.{register_accepted, encoding_accepted}
use Rattle.scheme.specs.Format.{scheme_in_job, scheme_by_itself}
use Rattle.scheme.specs.Answer.{refused_answer}
use Rattle.job.specs.declared.Tally.{Tally}
use Rattle.job.specs.Tally.{suppliers}
use Rattle.job.specs.Outcome.{outcome}
use Rattle.job.proofs.Suppliers.{table_enough}
use Rattle.soundness.specs.Calls.{scheme_call, job_call}
use Rattle.soundness.specs.Parts.{Part1}
use Rattle.soundness.specs.MoreChoices.{job_refused}

module _ (t s : List ℕ) (reg : Register) (p : Part1 t reg) (n at : ℕ) (second : scheme_in_job reg s ≡ refused n at) where
  pub second_refused : scheme_call t s ≡ refused_answer n 2 at
  unfolding scheme_by_itself
  second_refused = let e = itself_refused s second in rw (encoding_accepted t reg p.conditions p.bytes, e)

  module _ (job : List ℕ) (table : List ℤ) (supplier : ℕ) (tally : Tally) (known : supplier < suppliers) (long : table_numbers ≤ length table) (e : job ≡ t ++ s) where
    comes_to : outcome job ≡ refuses n 2 (length t + at)
    unfolding outcome
    comes_to =
        let first = ap register_in_job e ∙ register_accepted reg t s p.conditions p.bytes in
        let dropped : drop (length t) job ≡ s = ap (drop (length t)) e ∙ drop_at t s (length t) refl in
        let reads = ap (scheme_in_job reg) dropped ∙ second in
        rw first (flag (has_range reg) (λ f. rw (f, reads) refl) (λ f. rw (f, reads) refl))

    pub second_refused_in_job : (job_call job table supplier tally).0 ≡ job_refused n 2 (length t + at) supplier tally
    second_refused_in_job = (table_enough job table supplier tally known long).0 ∙ rw comes_to
