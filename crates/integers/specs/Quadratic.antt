-- Quadratic forms of tables of integers, and diagonal dominance.
use Rattle.std.specs.Prelude.{◌≡◌, ℕ, ◌<◌, ℤ, pos, ◌*ℤ◌, ◌≤ℤ◌}
use Rattle.integers.specs.Integer.{abs}
use Rattle.integers.specs.Sum.{sum_below, except}

-- Σ_i Σ_j a i j x i x j, over i, j < n
unfoldable pub quadratic : ℕ → (ℕ → ℕ → ℤ) → (ℕ → ℤ) → ℤ
quadratic n a x = sum_below n (λ i. sum_below n (λ j. a i j *ℤ x i *ℤ x j))

abbrev pub Symmetric : ℕ → (ℕ → ℕ → ℤ) → Type 0
Symmetric n a = (i j : ℕ) → i < n → j < n → a i j ≡ a j i

-- positive semidefinite: at least 0 at every list of integers, negative ones too
abbrev pub Semidefinite : ℕ → (ℕ → ℕ → ℤ) → Type 0
Semidefinite n a = (x : ℕ → ℤ) → pos 0 ≤ℤ quadratic n a x

-- Σ_{j≠i} |a i j|, over j < n
unfoldable pub off_diagonal : ℕ → (ℕ → ℕ → ℤ) → ℕ → ℤ
off_diagonal n a i = sum_below n (except i (λ j. abs (a i j)))

-- no row's off-diagonal sum is above its diagonal entry
abbrev pub DiagonallyDominant : ℕ → (ℕ → ℕ → ℤ) → Type 0
DiagonallyDominant n a = (i : ℕ) → i < n → off_diagonal n a i ≤ℤ a i i
