-- A line is its letter, its fields and byte 0A.
use Prim.Native.Nat.{ℕ, suc, ◌+◌, ◌≤◌}
use native.Mathlib.Omega.{arith}
use mathlib.Core.Path.{◌≡◌, ap, ◌∙◌}
use mathlib.Core.List.{List, [], ◌∷◌, ◌++◌, flat_map}
use lib.ListN.{length, get_or, length-append}
use lib.IntN.{ℤ, pos, negsuc, nat_abs}
use Rattle.integers.specs.Lists.{join_below}
use Rattle.integers.proofs.Join.{flat_map_below}
use Rattle.text.specs.Text.{digits, decimal, line}
use Rattle.text.specs.Fields.{field, sign}
use Rattle.text.proofs.Digits.{decimal_sign, digits_mono}

pub field_integer : (z : ℤ) → field z ≡ ((0x20 ∷ []) ++ sign z) ++ digits (nat_abs z)
unfolding field
field_integer z = ap (λ l. 0x20 ∷ l) (decimal_sign z)

pub length_integer : (z : ℤ) → length (field z) ≡ 1 + length (sign z) + length (digits (nat_abs z))
length_integer z = ap length (field_integer z) ∙ length-append ((0x20 ∷ []) ++ sign z) (digits (nat_abs z)) ∙ ap (λ k. k + length (digits (nat_abs z))) (length-append (0x20 ∷ []) (sign z))

-- the field of the number at an index
abbrev pub field_of : List ℤ → ℕ → List ℕ
field_of xs i = field (get_or xs i (pos 0))

module _ (letter : ℕ) (xs : List ℤ) where
  pub line-fields : line letter xs ≡ ((letter ∷ []) ++ join_below (length xs) (field_of xs)) ++ (0x0A ∷ [])
  unfolding line field
  line-fields = ap (λ l. letter ∷ (l ++ (0x0A ∷ []))) (flat_map_below field (pos 0) xs)

  pub length-line : length (line letter xs) ≡ 2 + length (join_below (length xs) (field_of xs))
  length-line = ap length line-fields ∙ simp length-append (omega arith)

-- ---- a line is no longer than another, if it has no more numbers and each is no longer than the other's

abbrev pub NoLonger : List ℤ → List ℤ → Type 0
NoLonger [] ys = Unit {0}
NoLonger (x ∷ xs) [] = ⊥
NoLonger (x ∷ xs) (y ∷ ys) = (length (decimal x) ≤ length (decimal y)) × NoLonger xs ys

pub line_no_longer : (a b : ℕ) (xs ys : List ℤ) → NoLonger xs ys → length (line a xs) ≤ length (line b ys)
unfolding line flat_map
line_no_longer a b xs ys h = simp length-append (omega (arith, fields xs ys h))
  where
    all : List ℤ → List ℕ
    all xs = flat_map (λ z. 0x20 ∷ decimal z) xs

    fields : (xs ys : List ℤ) → NoLonger xs ys → length (all xs) ≤ length (all ys)
    fields [] ys h = omega arith
    fields (x ∷ xs) [] h = absurd h
    fields (x ∷ xs) (y ∷ ys) h = omega (arith, length-append (decimal x) (all xs), length-append (decimal y) (all ys), h.0, fields xs ys h.1)

-- numbers that are no longer: a natural number that is no higher; any whose magnitude is at most that of one below 0

pub natural_no_longer : (m n : ℕ) → m ≤ n → length (decimal (pos m)) ≤ length (decimal (pos n))
unfolding decimal
natural_no_longer m n l = digits_mono m n l

pub integer_no_longer : (z : ℤ) (n : ℕ) → nat_abs z ≤ suc n → length (decimal z) ≤ length (decimal (negsuc n))
unfolding decimal
integer_no_longer (pos m) n l = omega (arith, digits_mono m (suc n) l)
integer_no_longer (negsuc m) n l = omega (arith, digits_mono (suc m) (suc n) l)
