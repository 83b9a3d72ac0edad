-- What the call's answer means: the two runs are encodings of a valid register and of a scheme that is valid for it.
use Prim.Native.Nat.{ℕ}
use mathlib.Core.Path.{◌≡◌, ap, subst}
use mathlib.Core.Logic.{◌↔◌}
use mathlib.Core.List.{List}
use Rattle.wire.specs.Number.{Bytes}
use Rattle.wire.specs.Outcome.{answer_by}
use Rattle.register.specs.declared.Register.{Register}
use Rattle.register.specs.Valid as R
use Rattle.register.specs.Encoding as RE
use Rattle.scheme.specs.declared.Scheme.{Scheme}
use Rattle.scheme.specs.declared.SchemeAnswer.{SchemeAnswer}
use Rattle.scheme.specs.Valid.{Valid}
use Rattle.scheme.specs.Encoding.{Encodes}
use Rattle.scheme.specs.Answer.{refused_answer, accepted_answer, scheme_answer}
use Rattle.scheme.proofs.Opened.{Opened, opens, opened_encodings, register_bytes, scheme_bytes, answer_opened}

-- zeros and the scheme
abbrev pub answered : Scheme → SchemeAnswer
answered c = record { number = 0; part = 0; position = 0; scheme = c }

pub answer_iff : (t s : List ℕ) (c : Scheme) → Bytes t → Bytes s →
    (scheme_answer t s ≡ answered c) ↔ ((reg : Register) × ((R.Valid reg × RE.Encodes reg t) × (Valid reg c × Encodes reg c s)))
answer_iff t s c b b' = (parts, λ (reg, ((v, e), (v', e'))). ap (answer_by refused_answer accepted_answer) (opens (opened_encodings t s reg c v e v' e')))
  where
    parts : scheme_answer t s ≡ answered c → (reg : Register) × ((R.Valid reg × RE.Encodes reg t) × (Valid reg c × Encodes reg c s))
    parts e =
        let o : Opened t s _ c = subst (Opened t s _) (ap (λ a. a.scheme) e) (answer_opened t s (ap (λ a. a.number) e)) in
        (_, ((o.register_valid, register_bytes t s _ c o b), (o.scheme_valid, scheme_bytes t s _ c o b')))
