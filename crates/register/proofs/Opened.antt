-- For calls that open part 1 first: what its outcome, or the register's answer, says of its bytes.
use mathlib.Core.Path.{◌≡◌, refl, sym, ◌∙◌, ap, ap₂}
use mathlib.Core.List.{List}
use Prim.Native.Nat.{ℕ}
use lib.ListN.{length}
use Rattle.wire.specs.Part.{Reading, refused, accepted}
use Rattle.wire.specs.Rows.{Progress}
use Rattle.wire.specs.Outcome.{accepts, given}
use Rattle.wire.proofs.Part.{NumberedReading, read_part_numbered, by_itself_numbered}
use Rattle.wire.proofs.Encoding.{by_itself_end}
use Rattle.wire.proofs.Outcome.{accepts_one, not_both}
use Rattle.register.specs.declared.Register.{Register}
use Rattle.register.specs.declared.RegisterAnswer.{RegisterAnswer}
use Rattle.register.specs.Format.{register_part, register_in_job, register_by_itself}
use Rattle.register.specs.Opening.{open_register}
use Rattle.register.specs.Answer.{register_answer}
use Rattle.register.specs.Valid.{Valid}
use Rattle.wire.proofs.Accepting.{reached}
use Rattle.register.proofs.Accept.{valid_accepted}

-- an accepted register
pub record Opened (s : List ℕ) (r : Register) : Type 0 where
  pub reads : register_by_itself s ≡ accepted (reached 0x1F r) (length s)
  pub valid : Valid r

-- by the outcome

pub opened_by : (s : List ℕ) (r : Register) → accepts r ≡ open_register s → Opened s r
unfolding register_by_itself register_in_job
opened_by s r e = go (register_by_itself s) refl e
  where
    go : (x : Reading (Progress Register)) → register_by_itself s ≡ x → accepts r ≡ given 1 x → Opened s r
    go (refused n at) q f = absurd (not_both (sym f))
    go (accepted p end) q f =
        let same : r ≡ p.parsed = accepts_one f in
        let (in_job, whole) = by_itself_end register_part s p end q in
        let (v, l) = valid_accepted s p end in_job in
        record { reads = q ∙ ap₂ accepted (rw (same, ← l)) whole; valid = rw same v }

-- by the answer of the call
module _ (s : List ℕ) (first : RegisterAnswer) (e : first ≡ register_answer (register_by_itself s)) where
  pub opened_refused : (first.number ≡ 0 → ⊥) → register_by_itself s ≡ refused first.number first.position
  opened_refused h = go (register_by_itself s) e
    where
      go : (x : Reading (Progress Register)) → first ≡ register_answer x → x ≡ refused first.number first.position
      go (refused n at) f = sym (ap₂ refused (ap (λ r. r.number) f) (ap (λ r. r.position) f))
      go (accepted p end) f = absurd (h (ap (λ r. r.number) f))

  pub opened : first.number ≡ 0 → Opened s first.register
  unfolding register_by_itself register_in_job
  opened h = opened_by s first.register (go (register_by_itself s) e (by_itself_numbered s (register_in_job s) (read_part_numbered register_part s)))
    where
      go : (x : Reading (Progress Register)) → first ≡ register_answer x → NumberedReading x → accepts first.register ≡ given 1 x
      go (refused n at) f d = absurd (d (sym (ap (λ r. r.number) f) ∙ h))
      go (accepted p end) f d = ap (λ r. accepts r.register) f
