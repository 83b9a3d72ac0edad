-- How many bytes the commands of the costliest register have, and how many it has.
use Prim.Native.Nat.{ℕ, ◌*◌}
use native.Mathlib.Omega.{arith}
use mathlib.Core.Path.{◌≡◌, ◌∙◌}
use mathlib.Core.List.{[], ◌∷◌, ◌++◌}
use lib.IntN.{ℤ, pos}
use lib.ListN.{length, length-append}
use Rattle.integers.specs.Lists.{join_below}
use Rattle.integers.proofs.Join.{length_join}
use Rattle.wire.proofs.Number.{length-bytes_of}
use Rattle.register.specs.Encoding.{encode_base, encode_choice, encode_term}
use Rattle.costliest.specs.Costliest.{term_mask, costliest_bytes}
use Rattle.costliest.specs.Answer.{costliest_size}

-- ---- one command

pub length_base : (z : ℤ) → length (encode_base z) ≡ 5
unfolding encode_base
length_base z = rw length-bytes_of

pub length_choice : (t m : ℕ) → length (encode_choice t m) ≡ 5
unfolding encode_choice
length_choice t m = rw (length-append, length-bytes_of 2 t, length-bytes_of 2 m)

pub length_term : (m : ℕ) (z : ℤ) → length (encode_term m z) ≡ 9
unfolding encode_term
length_term m z = rw (length-append, length-bytes_of 4 m, length-bytes_of 4)

-- ---- one after the other

pub length_choices : (n : ℕ) → length (join_below n (encode_choice 1)) ≡ 5 * n
length_choices n = length_join n 5 (encode_choice 1) (length_choice 1) ∙ omega arith

pub length_terms : (m d n : ℕ) → length (join_below n (λ t. encode_term (term_mask m d t) (pos 1))) ≡ 9 * n
length_terms m d n = length_join n 9 _ (λ t. length_term (term_mask m d t) (pos 1)) ∙ omega arith

-- ---- the whole

pub length_costliest : (m d : ℕ) → length (costliest_bytes m d) ≡ costliest_size m d
unfolding costliest_bytes
length_costliest m d =
    length-append (encode_base (pos 0) ++ join_below (m * d) (encode_choice 1) ++ join_below m (λ t. encode_term (term_mask m d t) (pos 1))) (0x1F ∷ [])
    ∙ rw (
      length-append (encode_base (pos 0) ++ join_below (m * d) (encode_choice 1)) (join_below m (λ t. encode_term (term_mask m d t) (pos 1))),
      length-append (encode_base (pos 0)) (join_below (m * d) (encode_choice 1)),
      length_base (pos 0),
      length_choices (m * d),
      length_terms m d m,
    )
