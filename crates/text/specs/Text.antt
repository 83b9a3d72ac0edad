-- Lines of text: a letter and decimal numbers with one space between, ended by byte 0A.
use Rattle.std.specs.Prelude.{ℕ, zero, suc, ◌+◌, ◌/◌, ◌%◌, ◌≡◌, ◌⊎◌, true, false, ltb, ℤ, pos, negsuc}
use mathlib.Core.List.{List, [], ◌∷◌, ◌++◌, flat_map}

-- the decimal digits of a number, the highest first; the first number bounds how many, and one more than the number is enough
unfoldable pub digits_to : ℕ → ℕ → List ℕ
digits_to zero n = []
digits_to (suc k) n = elim (ltb n 10) [ true ↦ (48 + n) ∷ [] | false ↦ digits_to k (n / 10) ++ ((48 + n % 10) ∷ []) ]

unfoldable pub digits : ℕ → List ℕ
digits n = digits_to (suc n) n

-- a leading `-` when negative, no leading zeros, 0 is `0`
unfoldable pub decimal : ℤ → List ℕ
decimal (pos n) = digits n
decimal (negsuc n) = 0x2D ∷ digits (suc n)

unfoldable pub line : ℕ → List ℤ → List ℕ
line letter fields = letter ∷ (flat_map (λ z. 0x20 ∷ decimal z) fields ++ (0x0A ∷ []))

-- what may stand before a line: nothing, or a text that ends with byte 0A
abbrev pub Starts : List ℕ → Type 0
Starts front = (front ≡ []) ⊎ ((before : List ℕ) × (front ≡ before ++ (0x0A ∷ [])))

-- a text has a line, which ends with its own byte 0A, at its front or after the end of another line
pub record HasLine (x text : List ℕ) : Type 0 where
  pub front : List ℕ
  pub back : List ℕ
  pub whole : text ≡ front ++ x ++ back
  pub starts : Starts front
