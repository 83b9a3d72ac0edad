-- How many bytes a scheme has.
use Prim.Native.Nat.{ℕ, ◌+◌, ◌*◌, ◌≤◌}
use native.Mathlib.Omega.{arith}
use mathlib.Core.Path.{◌≡◌}
use lib.ListN.{length, length-append}
use Rattle.wire.specs.Part.{total}
use Rattle.wire.specs.Rows.{size_of}
use Rattle.wire.proofs.Number.{length-bytes_of}
use Rattle.register.specs.declared.Register.{Register}
use Rattle.register.specs.Valid as R
use Rattle.integers.proofs.Join.{length_join}
use Rattle.scheme.specs.declared.Scheme.{Scheme}
use Rattle.scheme.specs.Scheme.{left, right, split_left, split_right}
use Rattle.scheme.specs.Valid.{Valid}
use Rattle.scheme.specs.Format.{factor_row}
use Rattle.scheme.proofs.Prefix.{scheme_longest}
use Rattle.scheme.specs.Encoding.{encode_product, encode_split, encode_scheme}

-- the bytes of one product, and of one split

length_product : (l r : ℕ) → length (encode_product l r) ≡ 3
unfolding encode_product
length_product l r = rw (length-append, length-bytes_of, length-bytes_of)

length_split : (l r : ℕ) → length (encode_split l r) ≡ 3
unfolding encode_split
length_split l r = rw (length-append, length-bytes_of, length-bytes_of)

pub length-encode : (n : ℕ) (s : Scheme) → length (encode_scheme n s) ≡ 3 * s.products + 3 * s.splits + 1
unfolding encode_scheme
length-encode n s =
    let p = length_join s.products 3 (λ i. encode_product (left n s (n + i)) (right n s (n + i))) (λ i. length_product (left n s (n + i)) (right n s (n + i))) in
    let t = length_join s.splits 3 (λ t. encode_split (split_left s t) (split_right s t)) (λ t. length_split (split_left s t) (split_right s t)) in
    simp (length-append, p, t) (omega arith)

-- with a `23` too
pub encode_within : (reg : Register) → R.Valid reg → (s : Scheme) → Valid reg s → size_of factor_row + length (encode_scheme reg.choices s) ≤ scheme_longest
unfolding scheme_longest total
encode_within reg ok s v =
    omega (arith, length-encode reg.choices s, ok.within.terms.few, v.within.products_within, v.within.splits_within)
