-- The working table: numbers of side n, row by row, at the front of a lent run of numbers.
use Rattle.std.specs.Prelude.{ℕ, ◌*◌, ◌/◌, ◌%◌, List, [], ◌∷◌, ◌++◌, get_or, drop, ℤ, pos, ◌*ℤ◌}
use Rattle.std.specs.Int.Signed.{quot_z}
use Rattle.integers.specs.Lists.{join_below}
use Rattle.integers.specs.Sum.{sum_below}

-- the working table is a run of 4,225 numbers
abbrev pub table_numbers : ℕ
table_numbers = 4_225

-- f 0, f 1, .. f (n − 1)
abbrev pub row : ℕ → (ℕ → ℤ) → List ℤ
row n f = join_below n (λ j. f j ∷ [])

-- the n² numbers a i j, row by row
unfoldable pub rows : ℕ → (ℕ → ℕ → ℤ) → List ℤ
rows n a = join_below n (λ i. row n (a i))

-- a lent run of numbers with a table at its front; numbers past n² don't change
unfoldable pub with_table : ℕ → (ℕ → ℕ → ℤ) → List ℤ → List ℤ
with_table n a lent = rows n a ++ drop (n * n) lent

-- the sum of the first n² numbers, each times the factor of its row and the factor of its column
unfoldable pub table_sum : ℕ → List ℤ → (ℕ → ℤ) → ℤ
table_sum n t y = sum_below (n * n) (λ k. get_or t k (pos 0) *ℤ y (k / n) *ℤ y (k % n))

-- the value read from a table: half that sum
unfoldable pub table_value : ℕ → List ℤ → (ℕ → ℤ) → ℤ
table_value n t y = quot_z (table_sum n t y) (pos 2)
