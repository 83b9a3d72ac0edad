-- The rows of a table, tried from 0 up.
use Rattle.std.specs.Prelude.{ℕ, ◌≤◌, ◌<◌, ◌≡◌, false, T, ℤ}
use Rattle.bound.specs.Bound.{row_holds}

-- row r is the first whose diagonal entry is below its off-diagonal sum (the paper: falls short), or r is n where there is none
pub record FirstShort (n : ℕ) (a : ℕ → ℕ → ℤ) (r : ℕ) : Type 0 where
  pub within : r ≤ n
  pub before : (i : ℕ) → i < r → T (row_holds n a i)
  pub short : r < n → row_holds n a r ≡ false
