-- What a job's outcome says: a refusal has a number that is not 0, and the parts of an accepted job meet the paper's conditions.
use Prim.Native.Nat.{ℕ}
use native.Mathlib.Omega.{arith}
use mathlib.Core.Path.{◌≡◌, refl}
use mathlib.Core.Bool.{Bool, true, false, cond}
use mathlib.Core.List.{List, [], ◌∷◌}
use lib.Dec.{ltb}
use lib.ListN.{length, drop}
use Rattle.integers.specs.Lists.{All}
use Rattle.wire.specs.Part.{Reading, refused, accepted}
use Rattle.wire.specs.Rows.{Progress}
use Rattle.wire.specs.Outcome.{Outcome, refuses, accepts, starting_at, added_by}
use Rattle.wire.proofs.Part.{NumberedReading, read_part_numbered}
use Rattle.wire.proofs.Outcome.{Numbered, next_numbered, then_numbered}
use Rattle.register.specs.Format.{register_part, register_in_job}
use Rattle.register.proofs.Accept as RA
use Rattle.scheme.specs.Format.{scheme_part, scheme_in_job}
use Rattle.scheme.proofs.Accept as SA
use Rattle.bound.specs.Format.{certificate_in_job}
use Rattle.bound.proofs.Accept as CA
use Rattle.bound.proofs.Answers.{job_numbered}
use Rattle.plan.specs.Format.{plan_part, plan_in_job}
use Rattle.plan.proofs.Accept as PA
use Rattle.job.specs.Outcome.{Parts, coefficients, of_register, JobPart, order, last_of, in_turn, ended, outcome}
use Rattle.job.specs.Valid.{Valid}
use Rattle.job.proofs.Turn.{of_order}
use Rattle.job.proofs.EachRead.{AllRead, all_read}

abbrev pub Sound : Outcome Parts → Type 0
Sound (refuses number part at) = number ≡ 0 → ⊥
Sound (accepts p) = Valid p

-- ---- a refusal's number

abbrev NumberedPart : JobPart → Type 0
NumberedPart k = (p : Parts) (s : List ℕ) → NumberedReading (k.reads p s)

added : {A B : Type 0} (add : A → B) (x : Reading (Progress A)) → NumberedReading x → NumberedReading (added_by add x)
added add (refused number at) d = d
added add (accepted p end) d = tt

placed : {S : Type 0} (from : ℕ) (x : Reading S) → NumberedReading x → NumberedReading (starting_at from x)
placed from (refused number at) d = d
placed from (accepted p end) d = tt

module _ (s : List ℕ) where
  turn_numbered : (ks : List JobPart) → All NumberedPart ks → (p : Parts) (from : ℕ) → Numbered (in_turn ks s p from)
  turn_numbered [] h p from = tt
  turn_numbered (k ∷ ks) h p from = next_numbered k.number _ (in_turn ks s) (placed from _ (h.0 p (drop from s))) (turn_numbered ks h.1)

  end_numbered : (last : ℕ) (x : Parts × ℕ) → Numbered (ended last s x)
  end_numbered last (p, end) = by (ltb end (length s))
    where
      by : (b : Bool) → Numbered {A = Parts} (cond b (refuses 12 last end) (accepts p))
      by true = λ e. absurd (omega arith)
      by false = tt

  outcome_numbered : Numbered (outcome s)
  unfolding outcome register_in_job scheme_in_job plan_in_job
  outcome_numbered = next_numbered 1 (register_in_job s) _ (read_part_numbered register_part s) λ one end.
      let reg = one.parsed in
      then_numbered (in_turn (order reg) s (of_register reg) end) (ended (last_of 1 (order reg)) s)
      (turn_numbered (order reg) (of_order NumberedPart
      (λ p s. added _ (scheme_in_job p.register s) (read_part_numbered (scheme_part p.register) s))
      (λ p s. added _ (certificate_in_job (coefficients p) p.register p.scheme s) (job_numbered (coefficients p) p.register p.scheme s))
      (λ p s. added _ (plan_in_job p.register s) (read_part_numbered (plan_part p.register) s))
      reg) (of_register reg) end)
      (end_numbered (last_of 1 (order reg)))

-- ---- the parts

pub read_valid : (s : List ℕ) (p : Parts) → AllRead s p → Valid p
read_valid s p a =
    let v = (RA.valid_accepted s _ _ a.register.is).0 in
    record {
      register = v;
      scheme = (SA.valid_accepted p.register v _ _ _ a.scheme.is).0;
      certificate = (CA.valid_accepted p.register p.scheme (coefficients p) _ _ _ a.certificate.is).0;
      plan = (PA.valid_accepted p.register v.within.choices.few _ _ _ a.plan.is).0;
    }

pub accepted_valid : (s : List ℕ) (p : Parts) → outcome s ≡ accepts p → Valid p
accepted_valid s p e = read_valid s p (all_read s p e)

pub outcome_sound : (s : List ℕ) → Sound (outcome s)
outcome_sound s = by (outcome s) refl (outcome_numbered s)
  where
    by : (x : Outcome Parts) → outcome s ≡ x → Numbered x → Sound x
    by (refuses number part at) e d = d
    by (accepts p) e d = accepted_valid s p e
