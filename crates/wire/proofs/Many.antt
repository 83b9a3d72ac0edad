-- Commands of many operands of one width: the first of a list of operands, one of them, and signed numbers in all of them.
use Prim.Native.Nat.{ℕ, zero, suc, ◌+◌, ◌*◌, ◌/◌, ◌^◌, ◌<◌}
use native.Mathlib.Omega.{arith}
use mathlib.Core.Path.{◌≡◌, refl, sym, ap, ap₂, ◌∙◌}
use mathlib.Core.List.{List, [], ◌∷◌, ◌++◌, map, flat_map, append-nil}
use lib.ListN.{length, get_or, replicate, length-replicate, length-map, get_or-map}
use lib.IntN.{ℤ, pos}
use mir.Syntax.{Width, w8, w16, w32, w64, w128}
use mir.Val.{SFits, to_z, of_z, bits}
use mir.Facts.{of_z-to_z, to_z-of_z, Fits-of_z}
use Rattle.integers.specs.Lists.{join_below}
use Rattle.integers.proofs.Blocks.{ones_are}
use Rattle.wire.specs.Number.{nat_at, int_at, bytes_of}
use Rattle.wire.specs.Part.{operands_at, total}
use Rattle.wire.specs.Rows.{first_of}
use Rattle.wire.specs.Encoding.{fields, Fit}

pub length_operands : (ws s : List ℕ) (at : ℕ) → length (operands_at ws s at) ≡ length ws
unfolding operands_at
length_operands [] s at = refl
length_operands (w ∷ ws) s at = ap suc (length_operands ws s (at + w))

-- the first of a list: as many as asked, and all where there are as many

pub length_first : (n : ℕ) (xs : List ℕ) → length (first_of n xs) ≡ n
length_first zero xs = refl
length_first (suc n) [] = ap suc (length_first n [])
length_first (suc n) (x ∷ xs) = ap suc (length_first n xs)

pub first_at : (n : ℕ) (xs ys : List ℕ) → length xs ≡ n → first_of n (xs ++ ys) ≡ xs
first_at zero [] ys e = refl
first_at zero (x ∷ xs) ys e = absurd (omega arith)
first_at (suc n) [] ys e = absurd (omega arith)
first_at (suc n) (x ∷ xs) ys e = ap (λ l. x ∷ l) (first_at n xs ys (omega arith))

pub first_all : (n : ℕ) (xs : List ℕ) → length xs ≡ n → first_of n xs ≡ xs
first_all n xs e = ap (first_of n) (sym (append-nil xs)) ∙ first_at n xs [] e

-- ---- n operands of k bytes

pub length_many : (n k : ℕ) (s : List ℕ) (at : ℕ) → length (operands_at (replicate n k) s at) ≡ n
length_many n k s at = length_operands (replicate n k) s at ∙ length-replicate {A = ℕ} n k

pub operand_at : (n k : ℕ) (s : List ℕ) (at i : ℕ) → i < n → get_or (operands_at (replicate n k) s at) i 0 ≡ nat_at k s (at + k * i)
unfolding operands_at
operand_at zero k s at i l = absurd (omega arith)
operand_at (suc n) k s at zero l = ap (nat_at k s) (omega arith)
operand_at (suc n) k s at (suc i) l = operand_at n k s (at + k) i (omega arith) ∙ ap (nat_at k s) (omega arith)

pub total_many : (n k : ℕ) → total (replicate n k) ≡ n * k
unfolding total
total_many zero k = omega arith
total_many (suc n) k = omega (arith, total_many n k)

-- ---- signed numbers in operands of their width

wide : (w : Width) → 256 ^ (bits w / 8) ≡ 2 ^ bits w
wide w8 = refl
wide w16 = refl
wide w32 = refl
wide w64 = refl
wide w128 = refl

zero_read : (w : Width) → to_z w 0 ≡ pos 0
zero_read w8 = refl
zero_read w16 = refl
zero_read w32 = refl
zero_read w64 = refl
zero_read w128 = refl

module _ (w : Width) where
  -- the bytes of an operand
  abbrev k : ℕ
  k = bits w / 8

  -- those at a position
  pub signed_operands : (n : ℕ) (s : List ℕ) (at : ℕ) → map (to_z w) (operands_at (replicate n k) s at) ≡ join_below n (λ i. int_at w s (at + k * i) ∷ [])
  unfolding int_at
  signed_operands n s at =
      sym (ones_are (pos 0) n (λ i. int_at w s (at + k * i)) (map (to_z w) (operands_at (replicate n k) s at)) (length-map (operands_at (replicate n k) s at) (to_z w) ∙ length_many n k s at)
      (λ i l. ap (get_or (map (to_z w) (operands_at (replicate n k) s at)) i) (sym (zero_read w)) ∙ get_or-map (to_z w) (operands_at (replicate n k) s at) i 0 ∙ ap (to_z w) (operand_at n k s at i l)))

  -- operands that fit are those of the numbers that they say
  pub signed_said : (n : ℕ) (xs : List ℕ) → Fit (replicate n k) xs → xs ≡ map (of_z w) (map (to_z w) (first_of n xs))
  signed_said zero [] f = refl
  signed_said zero (x ∷ xs) f = absurd f
  signed_said (suc n) [] f = absurd f
  signed_said (suc n) (x ∷ xs) f = let l : x < 2 ^ bits w = rw wide at f.0 in ap₂ (λ y ys. y ∷ ys) (sym (of_z-to_z {w = w} (record { fits = l }))) (signed_said n xs f.1)

  -- and numbers that fit are read back from their operands, which fit
  module _ where
    abbrev AllFit : List ℤ → ℕ → Type 0
    AllFit v n = (i : ℕ) → i < n → SFits w (get_or v i (pos 0))

    pub fit_signed : (n : ℕ) (v : List ℤ) → length v ≡ n → AllFit v n → Fit (replicate n k) (map (of_z w) v)
    fit_signed zero [] l h = tt
    fit_signed zero (x ∷ v) l h = absurd (omega arith)
    fit_signed (suc n) [] l h = absurd (omega arith)
    fit_signed (suc n) (x ∷ v) l h = (rw wide (Fits-of_z (h 0 (omega arith))).fits, fit_signed n v (omega arith) (λ i b. h (suc i) (omega arith)))

    pub signed_read : (n : ℕ) (v : List ℤ) → length v ≡ n → AllFit v n → map (to_z w) (map (of_z w) v) ≡ v
    signed_read zero [] l h = refl
    signed_read zero (x ∷ v) l h = absurd (omega arith)
    signed_read (suc n) [] l h = absurd (omega arith)
    signed_read (suc n) (x ∷ v) l h = ap₂ (λ y ys. y ∷ ys) (to_z-of_z (h 0 (omega arith))) (signed_read n v (omega arith) (λ i b. h (suc i) (omega arith)))

    pub signed_back : (n : ℕ) (v : List ℤ) → length v ≡ n → AllFit v n → map (to_z w) (first_of n (map (of_z w) v)) ≡ v
    signed_back n v l h = ap (map (to_z w)) (first_all n (map (of_z w) v) (length-map v (of_z w) ∙ l)) ∙ signed_read n v l h

-- their bytes
pub fields_signed : (w : Width) (k n : ℕ) (v : List ℤ) → length v ≡ n → fields (replicate n k) (map (of_z w) v) ≡ flat_map (λ x. bytes_of k (of_z w x)) v
unfolding fields flat_map
fields_signed w k zero [] l = refl
fields_signed w k zero (x ∷ v) l = absurd (omega arith)
fields_signed w k (suc n) [] l = absurd (omega arith)
fields_signed w k (suc n) (x ∷ v) l = rw (fields_signed w k n v (omega arith))
