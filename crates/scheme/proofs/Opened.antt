-- For calls that open parts 1 and 2: what the outcome says of their bytes.
use mathlib.Core.Path.{◌≡◌, refl, sym, ◌∙◌, ap₂, subst}
use mathlib.Core.List.{List}
use Prim.Native.Nat.{ℕ}
use lib.ListN.{length}
use Rattle.std.specs.Prelude.{Err}
use Rattle.wire.specs.declared.refusals.Fault.{Fault}
use Rattle.wire.specs.Results.{number_of}
use Rattle.wire.specs.Number.{Bytes}
use Rattle.wire.specs.Part.{accepted}
use Rattle.wire.specs.Rows.{Progress}
use Rattle.wire.specs.Outcome.{Outcome, refuses, accepts, given, answer_by}
use Rattle.wire.proofs.Part.{read_part_numbered, by_itself_numbered}
use Rattle.wire.proofs.Encoding.{by_itself_end}
use Rattle.wire.proofs.Outcome.{accepts_one, then_accepts, given_accepts, Numbered, next_numbered, then_numbered}
use Rattle.register.specs.declared.Register.{Register}
use Rattle.register.specs.Format.{register_part, register_in_job, register_by_itself}
use Rattle.register.specs.Answer.{register_answer}
use Rattle.register.specs.Opening.{open_register}
use Rattle.register.specs.Valid as R
use Rattle.register.specs.Encoding as RE
use Rattle.register.proofs.Accept as A
use Rattle.wire.proofs.Accepting.{reached}
use Rattle.scheme.specs.declared.Scheme.{Scheme}
use Rattle.scheme.specs.Format.{scheme_part, scheme_in_job, scheme_by_itself}
use Rattle.scheme.specs.Answer.{open_parts, parts_of, refused_answer, accepted_answer, scheme_answer}
use Rattle.scheme.specs.Valid.{Valid}
use Rattle.scheme.specs.Encoding.{Encodes}
use Rattle.scheme.proofs.Accept.{whole_valid, encoding_accepted, accepted_iff}

-- an accepted scheme of an accepted register
pub record Opened (t s : List ℕ) (reg : Register) (sch : Scheme) : Type 0 where
  pub register_reads : register_by_itself t ≡ accepted (reached 0x1F reg) (length t)
  pub scheme_reads : scheme_by_itself reg s ≡ accepted (reached 0x2F sch) (length s)
  pub register_valid : R.Valid reg
  pub scheme_valid : Valid reg sch

-- ---- where both parts are accepted

pub opens : {t s : List ℕ} {reg : Register} {sch : Scheme} → Opened t s reg sch → open_parts t s ≡ accepts (reg, sch)
opens o = rw (o.register_reads, o.scheme_reads)

-- by encodings of a valid register and of a scheme that is valid for it
pub opened_encodings : (t s : List ℕ) (reg : Register) (sch : Scheme) → R.Valid reg → RE.Encodes reg t → Valid reg sch → Encodes reg sch s → Opened t s reg sch
opened_encodings t s reg sch v e v' e' = record {
  register_reads = A.encoding_accepted t reg v e;
  scheme_reads = encoding_accepted reg v s sch v' e';
  register_valid = v;
  scheme_valid = v';
}

module _ (t s : List ℕ) where
  by_readings : (p : Progress Register) (end : ℕ) (q : Progress Scheme) (end' : ℕ) →
      register_by_itself t ≡ accepted p end → scheme_by_itself p.parsed s ≡ accepted q end' → Opened t s p.parsed q.parsed
  unfolding register_by_itself register_in_job scheme_by_itself scheme_in_job
  by_readings p end q end' x y =
      let (_, whole) = by_itself_end register_part t p end x in
      let (v, l) = A.whole_valid t p end x in
      let (_, whole') = by_itself_end (scheme_part p.parsed) s q end' y in
      let (v', l') = whole_valid p.parsed v s q end' y in
      record {
        register_reads = x ∙ ap₂ accepted (rw (← l)) whole;
        scheme_reads = y ∙ ap₂ accepted (rw (← l')) whole';
        register_valid = v;
        scheme_valid = v';
      }

  by_parts : (reg : Register) (sch : Scheme) → open_register t ≡ accepts reg → given 2 (scheme_by_itself reg s) ≡ accepts sch → Opened t s reg sch
  by_parts reg sch e =
      given_accepts 1 (register_by_itself t) (λ reg. given 2 (scheme_by_itself reg s) ≡ accepts sch → Opened t s reg sch) e λ p end x f.
      given_accepts 2 (scheme_by_itself p.parsed s) (Opened t s p.parsed) f λ q end' y.
      by_readings p end q end' x y

  pub opened : (reg : Register) (sch : Scheme) → open_parts t s ≡ accepts (reg, sch) → Opened t s reg sch
  opened reg sch e =
      let (reg', (x, f)) = then_accepts (open_register t) _ e in
      let (sch', (y, g)) = then_accepts (given 2 (scheme_by_itself reg' s)) _ f in
      subst (λ z. Opened t s z.0 z.1) (accepts_one g) (by_parts reg' sch' x y)

  pub opening_numbered : Numbered (open_parts t s)
  unfolding register_by_itself register_in_job scheme_by_itself scheme_in_job
  opening_numbered =
      then_numbered (open_register t) _ (next_numbered 1 (register_by_itself t) _ (by_itself_numbered t (register_in_job t) (read_part_numbered register_part t)) λ p end. tt) λ reg.
      then_numbered (given 2 (scheme_by_itself reg s)) _ (next_numbered 2 (scheme_by_itself reg s) _ (by_itself_numbered s (scheme_in_job reg s) (read_part_numbered (scheme_part reg) s)) λ p end. tt) λ sch.
      tt

-- the bytes are encodings of the register and of the scheme
module _ (t s : List ℕ) (reg : Register) (sch : Scheme) (o : Opened t s reg sch) where
  pub register_bytes : Bytes t → RE.Encodes reg t
  register_bytes b = ((A.accepted_iff t reg b).0 o.register_reads).1

  pub scheme_bytes : Bytes s → Encodes reg sch s
  scheme_bytes b = ((accepted_iff reg o.register_valid s sch b).0 o.scheme_reads).1

-- ---- by what opening them gives

module _ (t s : List ℕ) where
  pub opened_refused : (fault : Fault) → parts_of (Err fault) ≡ open_parts t s → open_parts t s ≡ refuses (number_of fault.refusal) fault.part fault.position
  opened_refused fault e = sym e

-- the scheme's call answers 0, and the register's call answers the register
pub answer_opened : (t s : List ℕ) → (scheme_answer t s).number ≡ 0 → Opened t s (register_answer (register_by_itself t)).register (scheme_answer t s).scheme
answer_opened t s = go (open_parts t s) refl (opening_numbered t s)
  where
    go : (x : Outcome (Register × Scheme)) → open_parts t s ≡ x → Numbered x → (answer_by refused_answer accepted_answer x).number ≡ 0 →
        Opened t s (register_answer (register_by_itself t)).register (answer_by refused_answer accepted_answer x).scheme
    go (refuses n part at) x d z = absurd (d z)
    go (accepts (reg, sch)) x d z = let o = opened t s reg sch x in rw o.register_reads o
