-- A field of a line, with the space before it; what stands before a number's digits.
use Rattle.std.specs.Prelude.{ℕ, List, [], ◌∷◌, ℤ, pos, negsuc}
use Rattle.text.specs.Text.{decimal}

-- one space, and the number in decimal
unfoldable pub field : ℤ → List ℕ
field z = 0x20 ∷ decimal z

-- a leading `-` when negative
unfoldable pub sign : ℤ → List ℕ
sign (pos n) = []
sign (negsuc n) = 0x2D ∷ []
