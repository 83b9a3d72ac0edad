-- 13 is for a choice outside the windows of its tank, and for nothing else, of our calls.
use Prim.Native.Nat.{ℕ, ◌≤◌, ◌<◌}
use native.Mathlib.Omega.{arith}
use mathlib.Core.Path.{◌≡◌, refl, ◌∙◌, ap}
use mathlib.Core.Logic.{◌⊎◌, inl, inr}
use mathlib.Core.List.{List}
use lib.IntN.{ℤ}
use lib.ListN.{length}
use Rattle.integers.specs.Lists.{All}
use Rattle.integers.proofs.Lists.{◌▹◌}
use Rattle.wire.specs.Number.{Bytes}
use Rattle.wire.specs.Part.{refused}
use Rattle.wire.specs.Refused.{RefusedAt, RefusedByItself}
use Rattle.wire.specs.Outcome.{refuses}
use Rattle.wire.proofs.Outcome.{itself_refused, refused_itself}
use Rattle.forms.specs.Table.{table_numbers}
use Rattle.register.specs.declared.Register.{Register}
use Rattle.register.specs.Register.{coefficient}
use Rattle.register.specs.Format.{register_in_job, register_by_itself}
use Rattle.register.specs.Outside.{ChoiceOutside}
use Rattle.register.specs.Answer.{refused_answer, register_answer}
use Rattle.register.proofs.Lowest.{register_refused}
use Rattle.register.proofs.Opened.{opened_refused}
use Rattle.register.proofs.Outside.{outside, only_outside}
use Rattle.scheme.specs.Format.{scheme_rows}
use Rattle.plan.specs.Chosen.{chosen}
use Rattle.plan.specs.Format.{plan_checks, plan_rows, plan_part}
use Rattle.job.specs.declared.Tally.{Tally}
use Rattle.job.specs.declared.JobAnswer.{JobAnswer}
use Rattle.job.specs.Tally.{suppliers}
use Rattle.job.specs.Outcome.{outcome}
use Rattle.job.specs.Answer.{job_answer}
use Rattle.job.proofs.Suppliers.{table_enough, of_three}
use Rattle.soundness.specs.Calls.{register_call, job_call}
use Rattle.soundness.specs.Refusals.{FromRegister, FromScheme, FromCertificate, FromPlan, FromPlanFirst, FromCertificateLast}
use Rattle.soundness.specs.Windows.{job_outside, RefusedOutside}
use Rattle.soundness.proofs.Refusals.{job_refusals}
use Rattle.soundness.proofs.Misfit.{Never, never, scheme_never, no_certificate, no_certificate_by_itself}

-- ---- by itself

by_itself_outside : (s : List ℕ) (at : ℕ) → ChoiceOutside s at → register_by_itself s ≡ refused 13 at
unfolding register_by_itself
by_itself_outside s at c = itself_refused s (outside s at c)

only_by_itself : (s : List ℕ) (at : ℕ) → Bytes s → register_by_itself s ≡ refused 13 at → ChoiceOutside s at
unfolding register_by_itself
only_by_itself s at b e = only_outside s at b (refused_itself s (register_in_job s) (λ n. omega arith) e)

pub outside_call : (register : List ℕ) (at : ℕ) → ChoiceOutside register at → register_call register ≡ refused_answer 13 at
outside_call s at c = ap register_answer (by_itself_outside s at c)

pub only_outside_call : (register : List ℕ) → Bytes register → (register_call register).number ≡ 13 → ChoiceOutside register (register_call register).position
only_outside_call s b z =
    let e = opened_refused s (register_call s) refl (λ n. omega arith) in
    only_by_itself s (register_call s).position b (e ∙ ap (λ n. refused n (register_call s).position) z)

-- ---- in a job

outcome_outside : (job : List ℕ) (at : ℕ) → ChoiceOutside job at → outcome job ≡ refuses 13 1 at
unfolding outcome
outcome_outside job at c = rw (outside job at c)

pub outside_in_job : (job : List ℕ) (table : List ℤ) (supplier : ℕ) (tally : Tally) (at : ℕ) → supplier < suppliers → table_numbers ≤ length table → ChoiceOutside job at → job_answer job table supplier tally ≡ job_outside at supplier tally
outside_in_job job table supplier tally at k l c = (table_enough job table supplier tally k l).0 ∙ rw (outcome_outside job at c)

-- none of part 4 is 13
plan_never : (reg : Register) (n : ℕ) → n ≡ 13 → All (Never n) (plan_rows reg)
unfolding plan_checks
plan_never reg n e = (λ r xs. (λ k. absurd (omega arith)) ▹ (λ k. absurd (omega arith)) ▹ tt) ▹ (λ r xs. (λ k. absurd (omega arith)) ▹ (λ k. absurd (omega arith)) ▹ tt) ▹ tt

no_plan : (reg : Register) (n : ℕ) → n ≡ 13 → (s : List ℕ) (at : ℕ) → RefusedAt (plan_part reg) s n at → ⊥
no_plan reg n e = never n _ (plan_rows reg) (plan_never reg n e) (omega arith)

pub only_outside_in_job : (job : List ℕ) (table : List ℤ) (supplier : ℕ) (tally : Tally) → Bytes job → table_numbers ≤ length table → (job_answer job table supplier tally).number ≡ 13 → ChoiceOutside job (job_answer job table supplier tally).position
only_outside_in_job s table supplier tally b l e = go (job_refusals.refused s b table l supplier known tally (λ z. absurd (omega arith))).4
  where
    a : JobAnswer
    a = job_answer s table supplier tally

    after : List ℤ
    after = (job_call s table supplier tally).1

    known : supplier < suppliers
    known = of_three s table supplier tally (λ a. a.number ≡ 13 → supplier < suppliers) (λ l z. absurd (omega arith)) (λ l m z. l) (λ l m z. l) e

    go : FromRegister a.number a.part a.position s table after
        ⊎ (FromScheme a.number a.part a.position s table after
        ⊎ (FromCertificate a.number a.part a.position s table after
        ⊎ (FromPlan a.number a.part a.position s table after
        ⊎ (FromPlanFirst a.number a.part a.position s table after
        ⊎ FromCertificateLast a.number a.part a.position s table after)))) → ChoiceOutside s a.position
    go (inl f) = only_outside s a.position b ((register_refused s b a.number a.position).1 f.refused ∙ ap (λ n. refused n a.position) e)
    go (inr (inl f)) =
        let k = f.behind in
        absurd (never a.number _ (scheme_rows f.before.reg) (scheme_never a.number (omega arith) f.before.reg) (omega arith) k.rest k.at k.refused)
    go (inr (inr (inl f))) =
        let k = f.behind in
        absurd (no_certificate a.number (omega arith) (coefficient f.before.reg) f.before.reg f.before.sch k.rest k.at k.refused)
    go (inr (inr (inr (inl f)))) = absurd (in_plan f.behind.refused)
      where
        in_plan : RefusedByItself (plan_part f.before.reg) f.behind.rest a.number f.behind.at → ⊥
        in_plan (inl r) = no_plan f.before.reg a.number e f.behind.rest f.behind.at r
        in_plan (inr (z, _)) = omega arith
    go (inr (inr (inr (inr (inl f))))) = absurd (no_plan f.before.reg a.number e f.behind.rest f.behind.at f.behind.refused)
    go (inr (inr (inr (inr (inr f))))) =
        let k = f.behind in
        let h = f.before in
        absurd (no_certificate_by_itself a.number (omega arith) (chosen h.reg h.fed) h.reg h.sch k.rest k.at k.refused)

-- ---- of no call in particular

pub refused_outside : RefusedOutside
refused_outside = record {
  in_job = λ s at b. (only_outside s at b, outside s at);
  by_itself = λ s at b. (only_by_itself s at b, by_itself_outside s at);
}
