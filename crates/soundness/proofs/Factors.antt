-- Of our calls: which factor a scheme has, which bytes with a `23` are read and which are refused, and that the builder writes none.
use Prim.Native.Nat.{ℕ}
use mathlib.Core.Path.{◌≡◌, refl, ◌∙◌, ap}
use mathlib.Core.Logic.{⊎_elim}
use mathlib.Core.List.{List, ◌++◌}
use borrow.Author.Tests.{ne_eqb}
use Rattle.wire.specs.Part.{Reading, refused, accepted}
use Rattle.wire.specs.Rows.{Progress}
use Rattle.wire.specs.Outcome.{Outcome, refuses, accepts, given, and_then, answer_by}
use Rattle.wire.proofs.Part.{NumberedReading, read_part_numbered, by_itself_numbered}
use Rattle.register.specs.declared.Register.{Register}
use Rattle.register.specs.Format.{register_part, register_in_job, register_by_itself}
use Rattle.register.specs.Valid as R
use Rattle.scheme.specs.declared.Scheme.{Scheme}
use Rattle.scheme.specs.declared.SchemeAnswer.{SchemeAnswer}
use Rattle.scheme.specs.Scheme.{fresh}
use Rattle.scheme.specs.Format.{scheme_part, scheme_in_job, scheme_by_itself}
use Rattle.scheme.specs.Valid.{Factor}
use Rattle.scheme.specs.Encoding.{encode_factor, SaysFactor}
use Rattle.scheme.specs.Answer.{open_parts, refused_answer, accepted_answer}
use Rattle.scheme.proofs.Opened.{answer_opened}
use Rattle.scheme.proofs.RefusedAfter.{factor_misplaced_there}
use Rattle.scheme.proofs.Factors.{scheme_unsaid, factor_read, cut_factor_in_job, other_factor_in_job}
use Rattle.scheme.proofs.EachFactor.{with_header, each_factor}
use Rattle.builder.proofs.Factor.{built_factor}
use Rattle.builder.proofs.Call.{call_reads}
use Rattle.soundness.specs.Calls.{front, scheme_call, build_call, job_call}
use Rattle.soundness.specs.HeavierPenalties.{HasFactor, behind_factor, Misplaced, Another, Cut, FactorRefused, FactorsRead}
use Rattle.soundness.proofs.SecondRefused.{second_refused, second_refused_in_job}

-- ---- of an accepted scheme, and of a refusal

none_refused : (x : Outcome (Register × Scheme)) → let answer = answer_by refused_answer accepted_answer x in (answer.number ≡ 0 → ⊥) → answer.scheme.factor ≡ 0
unfolding fresh
none_refused (refuses n part at) d = refl
none_refused (accepts parts) d = absurd (d refl)

pub has_factor : (register scheme : List ℕ) → HasFactor scheme (scheme_call register scheme)
has_factor register scheme = record {
  accepted = λ z. let o = answer_opened register scheme z in (factor_read _ scheme o.scheme_reads, o.scheme_valid.within.factor);
  refused = none_refused (open_parts register scheme);
}

-- ---- before bytes that say none

-- by what reading part 2 leads to, and part 1 before it

module _ (f : ℕ) where
  abbrev answers : Register → Reading (Progress Scheme) → SchemeAnswer
  answers reg x = answer_by refused_answer accepted_answer (and_then (given 2 x) λ sch. accepts (reg, sch))

  second_behind : (reg : Register) (x : Reading (Progress Scheme)) → NumberedReading x → answers reg (with_header f x) ≡ behind_factor f (answers reg x)
  second_behind reg (refused n at) d = rw (ne_eqb n 0 d) refl
  second_behind reg (accepted p end) d = refl

  module _ (s : List ℕ) (fits : Factor f) (none : SaysFactor s → ⊥) where
    abbrev opens : List ℕ → Reading (Progress Register) → SchemeAnswer
    opens s x = answer_by refused_answer accepted_answer (and_then (given 1 x) λ reg. and_then (given 2 (scheme_by_itself reg s)) λ sch. accepts (reg, sch))

    first_behind : (x : Reading (Progress Register)) → NumberedReading x → opens (encode_factor f ++ s) x ≡ behind_factor f (opens s x)
    unfolding scheme_by_itself scheme_in_job
    first_behind (refused n at) d = rw (ne_eqb n 0 d) refl
    first_behind (accepted p end) d =
        let reg = p.parsed in
        ap (answers reg) (each_factor reg f s none fits) ∙ second_behind reg (scheme_by_itself reg s) (by_itself_numbered s (scheme_in_job reg s) (read_part_numbered (scheme_part reg) s))

call_behind : (register scheme : List ℕ) (f : ℕ) → Factor f → (SaysFactor scheme → ⊥) → scheme_call register (encode_factor f ++ scheme) ≡ behind_factor f (scheme_call register scheme)
unfolding register_by_itself register_in_job
call_behind register scheme f fits none = first_behind f scheme fits none (register_by_itself register) (by_itself_numbered register (register_in_job register) (read_part_numbered register_part register))

-- ---- refused

module _ (reg : Register) (valid : R.Valid reg) (s : List ℕ) where
  misplaced : {at : ℕ} → Misplaced reg s at → scheme_in_job reg s ≡ refused 1 at
  misplaced {at} k = factor_misplaced_there reg valid k.before k.within k.header k.header_is s at k.rest k.bytes k.position k.not_first

  cut : Cut s → scheme_in_job reg s ≡ refused 2 0
  cut k = rw k.bytes (cut_factor_in_job reg k.rest k.short)

  another : Another s → scheme_in_job reg s ≡ refused 4 0
  another k = rw k.bytes (other_factor_in_job reg k.f k.rest k.small k.other)

  refused_there : (number at : ℕ) → FactorRefused reg s number at → scheme_in_job reg s ≡ refused number at
  refused_there number at =
      ⊎_elim (λ (n, k). rw n (misplaced k)) (⊎_elim (λ (n, z, k). rw (n, z) (cut k)) (λ (n, z, k). rw (n, z) (another k)))

-- ---- the builder

says_none : (register lent : List ℕ) → (build_call register lent).0.number ≡ 0 → SaysFactor (front (build_call register lent)) → ⊥
says_none register lent z says = let w = call_reads register lent z in scheme_unsaid _ w.scheme (rw w.hands_back.front at says)

pub factors_read : FactorsRead scheme_call build_call job_call
factors_read = record {
  of_scheme = has_factor;
  each_factor = call_behind;
  refuses = λ register scheme reg number at p k. second_refused register scheme reg p number at (refused_there reg p.conditions scheme number at k);
  refuses_in_job = λ job table supplier tally register rest reg number at known long p e k.
      second_refused_in_job register rest reg p number at (refused_there reg p.conditions rest number at k) job table supplier tally known long e;
  built_one = built_factor;
  builder_says_none = says_none;
}
