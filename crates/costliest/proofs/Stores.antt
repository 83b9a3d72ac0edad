-- The code's stores, one after the other, write the register's bytes.
use Prim.Native.Nat.{ℕ, ◌+◌, ◌*◌}
use native.Mathlib.Omega.{arith}
use mathlib.Core.Path.{◌≡◌, refl, ◌∙◌, ap}
use mathlib.Core.List.{List, [], ◌∷◌, ◌++◌}
use lib.IntN.{pos}
use Rattle.integers.specs.Lists.{join_below}
use Rattle.wire.specs.Number.{put_at, written}
use Rattle.wire.proofs.Written.{Wrote, and_then, put_at-written, one_byte}
use Rattle.register.specs.Encoding.{encode_base, encode_choice, encode_term}
use Rattle.costliest.specs.Costliest.{term_mask, costliest_bytes}
use Rattle.costliest.proofs.Lengths.{length_base, length_choices, length_terms}

module _ (m d : ℕ) (lent : List ℕ) where
  abbrev base : List ℕ
  base = encode_base (pos 0)

  abbrev choices : List ℕ
  choices = join_below (m * d) (encode_choice 1)

  abbrev terms : List ℕ
  terms = join_below m (λ t. encode_term (term_mask m d t) (pos 1))

  abbrev middle : ℕ
  middle = 5 + 5 * (m * d)

  abbrev end : ℕ
  end = middle + 9 * m

  pub register_put : {based chosen termed out : List ℕ} → based ≡ written lent 0 base → chosen ≡ written based 5 choices → termed ≡ written chosen middle terms → out ≡ put_at 1 termed end 0x1F →
      out ≡ written lent 0 (costliest_bytes m d)
  unfolding costliest_bytes
  register_put {based} {chosen} {termed} {out} b c t e =
      let wrote_base : Wrote lent 0 base 5 based = (omega (arith, length_base (pos 0)), b) in
      let wrote_choices : Wrote lent 0 (base ++ choices) middle chosen = and_then lent 0 base choices wrote_base (omega (arith, length_choices (m * d)), c) in
      let wrote_terms : Wrote lent 0 (base ++ choices ++ terms) end termed = and_then lent 0 (base ++ choices) terms wrote_choices (omega (arith, length_terms m d m), t) in
      let last : out ≡ written termed end (0x1F ∷ []) = e ∙ put_at-written termed end 1 0x1F ∙ ap (written termed end) (one_byte 0x1F (omega arith)) in
      (and_then lent 0 (base ++ choices ++ terms) (0x1F ∷ []) wrote_terms (refl, last)).1
