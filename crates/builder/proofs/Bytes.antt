-- The code's stores write the scheme's bytes.
use mathlib.Core.Path.{◌≡◌, refl, sym, ◌∙◌, ap}
use mathlib.Core.List.{List, [], ◌∷◌, ◌++◌}
use Prim.Native.Nat.{ℕ, suc, ◌+◌, ◌*◌, ◌≤◌}
use native.Mathlib.Nat.{zero-add}
use native.Mathlib.Omega.{arith}
use native.Mathlib.Numerals.{add-one}
use lib.ListN.{length, get_or, set, drop, length-append}
use lib.Seq.{sets, sets-eq}
use Rattle.integers.specs.Lists.{join_below}
use Rattle.integers.proofs.Join.{join_cong, length_join}
use Rattle.wire.specs.Number.{bytes_of, put_at}
use Rattle.wire.proofs.Number.{sets_append}
use Rattle.scheme.specs.declared.Scheme.{Scheme}
use Rattle.scheme.specs.Encoding.{encode_product, encode_split, encode_scheme}
use Rattle.scheme.proofs.Encoding.{length-encode}
use Rattle.scheme.proofs.Sets.{left_at, right_at}
use Rattle.builder.specs.Encoding.{encode_pair, encode_pairs}

-- ---- one command

length_pair : (byte l r : ℕ) → length (encode_pair byte l r) ≡ 3
unfolding encode_pair bytes_of
length_pair byte l r = refl

pub pair_put : (s : List ℕ) (at byte l r : ℕ) → put_at 1 (put_at 1 (set s at byte) (at + 1) l) (at + 2) r ≡ sets s at (encode_pair byte l r)
unfolding put_at encode_pair bytes_of
pair_put s at byte l r = let e : at + 2 ≡ suc (suc at) = omega arith in rw (e, add-one)

-- ---- one after the other

module _ (byte : ℕ) (lefts rights : List ℕ) where
  pub length_pairs : (k : ℕ) → length (encode_pairs byte k lefts rights) ≡ 3 * k
  length_pairs k = omega (arith, length_join k 3 (λ k. encode_pair byte (get_or lefts k 0) (get_or rights k 0)) (λ i. length_pair byte (get_or lefts i 0) (get_or rights i 0)))

  pub pairs_put : (s : List ℕ) (at k : ℕ) → sets (sets s at (encode_pairs byte k lefts rights)) (at + 3 * k) (encode_pair byte (get_or lefts k 0) (get_or rights k 0)) ≡ sets s at (encode_pairs byte (k + 1) lefts rights)
  unfolding join_below
  pairs_put s at k = rw (add-one, sets_append, length_pairs k)

-- ---- the whole, where there are n choices

module _ (n : ℕ) (s : Scheme) where
  abbrev products : List ℕ
  products = encode_pairs 0x21 s.products s.lefts s.rights

  abbrev splits : List ℕ
  splits = encode_pairs 0x22 s.splits s.split_lefts s.split_rights

  encode_is : encode_scheme n s ≡ products ++ splits ++ (0x2F ∷ [])
  unfolding encode_scheme encode_product encode_split encode_pair
  encode_is = ap (λ (l : List ℕ). l ++ splits ++ (0x2F ∷ [])) (join_cong s.products _ _ (λ k l. rw (left_at n s k, right_at n s k)))

  written : (b : List ℕ) → sets b 0 (encode_scheme n s) ≡ set (sets (sets b 0 products) (3 * s.products) splits) (3 * s.products + 3 * s.splits) 0x2F
  written b =
      ap (sets b 0) encode_is
      ∙ sets_append b 0 (products ++ splits) (0x2F ∷ [])
      ∙ rw (sets_append b 0 products splits, length-append products splits, length_pairs 0x21 s.lefts s.rights s.products, length_pairs 0x22 s.split_lefts s.split_rights s.splits)
      (simp zero-add)

  pub scheme_put : (b : List ℕ) → 3 * s.products + 3 * s.splits + 1 ≤ length b →
      set (sets (sets b 0 products) (3 * s.products) splits) (3 * s.products + 3 * s.splits) 0x2F ≡ encode_scheme n s ++ drop (length (encode_scheme n s)) b
  scheme_put b l = sym (written b) ∙ sets-eq (encode_scheme n s) b 0 (omega (arith, length-encode n s)) ∙ rw zero-add
