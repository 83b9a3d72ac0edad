-- What acceptance of a job means, over all runs of bytes: its four parts are valid, and the job is encodings of them after each other.
use Prim.Native.Nat.{ℕ, ◌+◌, ◌≤◌, ◌<◌}
use mathlib.Core.Path.{◌≡◌, refl, sym, ◌∙◌, ap}
use mathlib.Core.Logic.{◌↔◌}
use mathlib.Core.Bool.{cond}
use mathlib.Core.List.{List, [], ◌++◌, append-nil}
use native.Mathlib.Nat.{zero-add}
use native.Mathlib.Omega.{arith}
use lib.IntN.{ℤ}
use lib.ListN.{length, take, drop, length-append, length-drop, take-append-drop}
use lib.Seq.{take_all, drop-drop}
use Rattle.integers.proofs.Lists.{flag}
use Rattle.wire.specs.Number.{Bytes}
use Rattle.wire.specs.Outcome.{Outcome, refuses, accepts}
use Rattle.wire.proofs.Number.{bytes_take, bytes_drop}
use Rattle.wire.proofs.Encoding.{after_first}
use Rattle.wire.proofs.Fronts.{front_whole}
use Rattle.forms.specs.Table.{table_numbers}
use Rattle.wire.proofs.Grammar.{last_from}
use Rattle.register.specs.Register.{has_range}
use Rattle.register.specs.Format.{register_in_job}
use Rattle.register.proofs.Accept as RA
use Rattle.scheme.specs.Format.{scheme_in_job}
use Rattle.scheme.proofs.Accept as SA
use Rattle.certificate.specs.Format.{certificate_part, commands_in_job}
use Rattle.certificate.specs.Encoding as CE
use Rattle.certificate.proofs.Accept.{encodes_accepted}
use Rattle.bound.specs.Format.{certificate_in_job}
use Rattle.bound.proofs.Accept as CA
use Rattle.plan.specs.Encoding as PE
use Rattle.plan.specs.Format.{plan_in_job}
use Rattle.plan.proofs.Accept as PA
use Rattle.job.specs.declared.Tally.{Tally}
use Rattle.job.specs.declared.JobAnswer.{JobAnswer}
use Rattle.job.specs.Outcome.{Parts, coefficients, outcome}
use Rattle.job.specs.Tally.{suppliers, with_accepted, moved}
use Rattle.job.specs.Answer.{accepted_answer, after_job, job_answer}
use Rattle.job.specs.Valid.{Valid, Encodes}
use Rattle.job.proofs.EachRead.{Reads, AllRead, all_read, read_all}
use Rattle.job.proofs.Sound.{Sound, outcome_sound, read_valid}
use Rattle.job.proofs.Suppliers.{table_enough, of_three}

-- ---- from the outcome to the parts

-- the bytes from a position on, split
split : (s : List ℕ) (from n : ℕ) → drop from s ≡ take n (drop from s) ++ drop (from + n) s
split s from n = sym (take-append-drop n (drop from s)) ∙ ap (λ x. take n (drop from s) ++ x) (drop-drop n from s)

-- those of the last part are all that is left
last_whole : (s : List ℕ) (from n : ℕ) → length s ≤ from + n → drop from s ≡ take n (drop from s)
last_whole s from n l = sym (take_all n (drop from s) (omega (arith, length-drop from s)))

module _ (s : List ℕ) (b : Bytes s) (p : Parts) (a : AllRead s p) where
  abbrev second : List ℕ
  second = drop a.one s

  abbrev third : List ℕ
  third = drop (cond (has_range p.register) (a.one + a.two + a.four) (a.one + a.two)) s

  abbrev fourth : List ℕ
  fourth = drop (cond (has_range p.register) (a.one + a.two) (a.one + a.two + a.three)) s

  valid : Valid p
  valid = read_valid s p a

  certificate_encodes : CE.Encodes p.certificate (take a.three third)
  unfolding commands_in_job
  certificate_encodes =
      let bt = bytes_drop (cond (has_range p.register) (a.one + a.two + a.four) (a.one + a.two)) s b in
      let (q, _) = CA.commands_accepted p.register p.scheme (coefficients p) third _ _ a.certificate.is in
      let (w, l) = front_whole (certificate_part p.register p.scheme) third _ a.three bt q in
      encodes_accepted p.register p.scheme (take a.three third) _ a.three w (bytes_take a.three third bt) (sym l)

  plan_encodes : PE.Encodes p.register p.plan (take a.four fourth)
  plan_encodes =
      (PA.bytes_accepted p.register valid.register.within.choices.few fourth _ a.four a.plan.is (bytes_drop (cond (has_range p.register) (a.one + a.two) (a.one + a.two + a.three)) s b)).0

  last_two : drop (a.one + a.two) s ≡ cond (has_range p.register) (take a.four fourth ++ take a.three third) (take a.three third ++ take a.four fourth)
  last_two =
      let n = a.one + a.two in
      flag (has_range p.register)
      (λ t. rw t (split s n a.four ∙ ap (λ x. take a.four (drop n s) ++ x) (last_whole s (n + a.four) a.three (omega (arith, a.ends)))))
      (λ t. rw t (split s n a.three ∙ ap (λ x. take a.three (drop n s) ++ x) (last_whole s (n + a.three) a.four (omega (arith, a.ends)))))

  job_encodes : Encodes p s
  job_encodes = record {
    first = take a.one s;
    second = take a.two second;
    third = take a.three third;
    fourth = take a.four fourth;
    register = (RA.bytes_accepted s _ a.one a.register.is b).0;
    scheme = (SA.bytes_accepted p.register valid.register second _ a.two a.scheme.is (bytes_drop a.one s b)).0;
    certificate = certificate_encodes;
    plan = plan_encodes;
    bytes = sym (take-append-drop a.one s) ∙ ap (λ x. take a.one s ++ x) (split s a.one a.two ∙ ap (λ x. take a.two second ++ x) last_two);
  }

job_from : (s : List ℕ) (p : Parts) → Bytes s → outcome s ≡ accepts p → Valid p × Encodes p s
job_from s p b e = let a = all_read s p e in (read_valid s p a, job_encodes s b p a)

-- ---- from the parts to the outcome

module _ (p : Parts) (v : Valid p) (s : List ℕ) (k : Encodes p s) where
  abbrev l₁ : ℕ
  l₁ = length k.first

  abbrev l₂ : ℕ
  l₂ = length k.second

  abbrev l₃ : ℕ
  l₃ = length k.third

  abbrev l₄ : ℕ
  l₄ = length k.fourth

  after_one : drop l₁ s ≡ k.second ++ cond (has_range p.register) (k.fourth ++ k.third) (k.third ++ k.fourth)
  after_one = rw (← (zero-add l₁)) (after_first s 0 l₁ k.first _ refl k.bytes)

  after_two : drop (l₁ + l₂) s ≡ cond (has_range p.register) (k.fourth ++ k.third) (k.third ++ k.fourth)
  after_two = after_first s l₁ l₂ k.second _ refl after_one

  certificate_read : (x rest : List ℕ) → x ≡ k.third ++ rest → Reads (certificate_in_job (coefficients p) p.register p.scheme x) p.certificate l₃
  certificate_read x rest e = record {
    previous = 0x3F;
    is = ap (certificate_in_job (coefficients p) p.register p.scheme) e ∙ CA.encoding_front p.register v.register p.scheme v.scheme (coefficients p) p.certificate k.third rest v.certificate k.certificate;
  }

  plan_read : (x rest : List ℕ) → x ≡ k.fourth ++ rest → Reads (plan_in_job p.register x) p.plan l₄
  plan_read x rest e = record {
    previous = last_from 0 k.plan.commands;
    is = ap (plan_in_job p.register) e ∙ PA.front_accepted p.register v.register.within.choices.few p.plan k.fourth rest v.plan k.plan;
  }

  -- the last part, with nothing after it
  alone : {x : List ℕ} (y : List ℕ) → x ≡ y → x ≡ y ++ []
  alone y e = e ∙ sym (append-nil y)

  size : length s ≡ l₁ + l₂ + l₃ + l₄
  size = rw k.bytes (flag (has_range p.register)
      (λ t. rw t (omega (arith, length-append k.first (k.second ++ (k.fourth ++ k.third)), length-append k.second (k.fourth ++ k.third), length-append k.fourth k.third)))
      (λ t. rw t (omega (arith, length-append k.first (k.second ++ (k.third ++ k.fourth)), length-append k.second (k.third ++ k.fourth), length-append k.third k.fourth))))

  pub encoded_read : AllRead s p
  encoded_read = record {
    one = l₁;
    two = l₂;
    three = l₃;
    four = l₄;
    register = record { previous = 0x1F; is = ap register_in_job k.bytes ∙ RA.register_accepted p.register k.first _ v.register k.register };
    scheme = record { previous = 0x2F; is = ap (scheme_in_job p.register) after_one ∙ SA.scheme_accepted p.register v.register p.scheme k.second _ v.scheme k.scheme };
    certificate = flag (has_range p.register)
        (λ t. rw t (certificate_read _ [] (alone k.third (after_first s (l₁ + l₂) l₄ k.fourth k.third refl (rw t at after_two)))))
        (λ t. rw t (certificate_read _ k.fourth (rw t at after_two)));
    plan = flag (has_range p.register)
        (λ t. rw t (plan_read _ k.third (rw t at after_two)))
        (λ t. rw t (plan_read _ [] (alone k.fourth (after_first s (l₁ + l₂) l₃ k.third k.fourth refl (rw t at after_two)))));
    ends = omega (arith, size);
  }

  to_job : outcome s ≡ accepts p
  to_job = read_all s p encoded_read

-- a job is accepted with just the parts that are valid and whose bytes, after each other, it is
pub accepted_iff : (s : List ℕ) (p : Parts) → Bytes s → (outcome s ≡ accepts p) ↔ (Valid p × Encodes p s)
accepted_iff s p b = (job_from s p b, λ h. to_job p h.0 s h.1)

-- so is the answer of the call, for each supplier, with a table that is long enough
module _ (s : List ℕ) (lent : List ℤ) (supplier : ℕ) (tally : Tally) where
  pub answer_accepted : (p : Parts) → supplier < suppliers → table_numbers ≤ length lent → Valid p → Encodes p s →
      job_answer s lent supplier tally ≡ accepted_answer p (moved with_accepted supplier tally)
  answer_accepted p u l v k = (table_enough s lent supplier tally u l).0 ∙ rw (to_job p v s k)

  -- an answer of no refusal: there is such a supplier, the table is long enough, and the job has its parts
  pub record Answered : Type 0 where
    pub parts_are : Parts
    pub there : supplier < suppliers
    pub long : table_numbers ≤ length lent
    pub leads : outcome s ≡ accepts parts_are
    pub answers : job_answer s lent supplier tally ≡ accepted_answer parts_are (moved with_accepted supplier tally)

  pub answered : (job_answer s lent supplier tally).number ≡ 0 → Answered
  answered h = of_three s lent supplier tally (λ a. job_answer s lent supplier tally ≡ a → Answered)
      (λ l e. absurd (omega (arith, number e))) (λ l m e. absurd (omega (arith, number e))) (go (outcome s) refl (outcome_sound s)) refl
    where
      number : {a : JobAnswer} → job_answer s lent supplier tally ≡ a → a.number ≡ 0
      number e = sym (ap (λ (a : JobAnswer). a.number) e) ∙ h

      go : (x : Outcome Parts) → outcome s ≡ x → Sound x → supplier < suppliers → table_numbers ≤ length lent → job_answer s lent supplier tally ≡ after_job x supplier tally → Answered
      go (refuses n part at) e d l m a = absurd (d (number a))
      go (accepts p) e d l m a = record { parts_are = p; there = l; long = m; leads = e; answers = a }

pub accepted_answer_lem : (s : List ℕ) → Bytes s → (lent : List ℤ) (supplier : ℕ) (tally : Tally) → (job_answer s lent supplier tally).number ≡ 0 →
    (p : Parts) × ((job_answer s lent supplier tally ≡ accepted_answer p (moved with_accepted supplier tally)) × (Valid p × Encodes p s))
accepted_answer_lem s b lent supplier tally h =
    let a = answered s lent supplier tally h in
    (a.parts_are, (a.answers, job_from s a.parts_are b a.leads))
