-- The table of our own B: 0 in row and column 0, and beside the diagonal of the other rows what g has.
use Prim.Native.Nat.{ℕ, zero, suc, ◌<◌}
use mathlib.Core.Path.{◌≡◌, ◌∙◌, ap₂}
use mathlib.Core.List.{[], ◌∷◌}
use native.Mathlib.Omega.{arith}
use native.Mathlib.Decide.{ℕ_discrete}
use lib.IntN.{ℤ, pos, ◌+ℤ◌, ◌-ℤ◌, ◌*ℤ◌}
use Rattle.integers.specs.Sum.{sum_below}
use Rattle.integers.proofs.Solver.{quote, atoms, ring}
use Rattle.integers.proofs.Sum.{sum_below_0, sum_below_cong, sum_below_only}
use Rattle.forms.specs.Form.{place, entry}
use Rattle.forms.proofs.Form.{unit, entry_symmetric, without_p, without_q, without_i, without_j, linear_same, square_same}
use Rattle.register.specs.declared.Register.{Register}
use Rattle.scheme.specs.declared.Scheme.{Scheme}
use Rattle.scheme.specs.Scheme.{variables}
use Rattle.scheme.specs.Function.{g}
use Rattle.scheme.proofs.Table.{g_constant, g_no_square}
use Rattle.residual.specs.Residual.{shifted}
use Rattle.plain.specs.Plain.{half_row_sum, plain}
use Rattle.plain.proofs.Changes.{added, entry-plain}

module _ (c : ℕ → ℤ) (r : Register) (s : Scheme) where
  abbrev N : ℕ
  N = variables r.choices s

  -- the table of our B
  abbrev ours : ℕ → ℕ → ℤ
  ours = entry (shifted c r s (plain c r s))

  -- at (i, j), from what the products of places are there
  entry_at : (i j : ℕ) (x k : ℤ) → sum_below N (added c r s i j) ≡ x → unit 0 0 i j ≡ k → ours i j ≡ entry (g c r s) i j +ℤ x -ℤ r.base *ℤ k
  entry_at i j x k e f = entry-plain c r s i j ∙ ap₂ (λ x k. entry (g c r s) i j +ℤ x -ℤ r.base *ℤ k) e f

  added_at : (i j v : ℕ) (q l : ℤ) → unit (place v) (place v) i j ≡ q → unit 0 (place v) i j ≡ l → added c r s i j v ≡ pos (half_row_sum c r s v) *ℤ q -ℤ entry (g c r s) 0 (place v) *ℤ l
  unfolding added
  added_at i j v q l e f = ap₂ (λ q l. pos (half_row_sum c r s v) *ℤ q -ℤ entry (g c r s) 0 (place v) *ℤ l) e f

  added_0 : (i j v : ℕ) → unit (place v) (place v) i j ≡ pos 0 → unit 0 (place v) i j ≡ pos 0 → added c r s i j v ≡ pos 0
  added_0 i j v e f = added_at i j v (pos 0) (pos 0) e f ∙ go (pos (half_row_sum c r s v)) (entry (g c r s) 0 (place v))
    where
      go : (u v : ℤ) → u *ℤ pos 0 -ℤ v *ℤ pos 0 ≡ pos 0
      go u v = atoms (u ∷ v ∷ []) λ ρ u v. simp (u, v, quote, ρ) (ring _ _ _ tt)

  none : (i j : ℕ) → ((v : ℕ) → added c r s i j v ≡ pos 0) → sum_below N (added c r s i j) ≡ pos 0
  none i j h = sum_below_cong N _ _ (λ v _. h v) ∙ sum_below_0 N

  -- T makes (0, 0) zero
  pub plain_constant : ours 0 0 ≡ pos 0
  plain_constant =
      entry_at 0 0 (pos 0) (pos 2)
      (none 0 0 (λ v. added_0 0 0 v (without_i _ _ _ _ (λ e. omega arith) (λ e. omega arith)) (without_q _ _ _ _ (λ e. omega arith) (λ e. omega arith))))
      (square_same 0)
      ∙ rw (g_constant c r s) (go r.base)
    where
      go : (b : ℤ) → b *ℤ pos 2 +ℤ pos 0 -ℤ b *ℤ pos 2 ≡ pos 0
      go b = atoms (b ∷ []) λ ρ b. simp (b, quote, ρ) (ring _ _ _ tt)

  -- the linear coefficients are cancelled
  plain_linear : (j : ℕ) → j < N → ours 0 (place j) ≡ pos 0
  plain_linear j h =
      entry_at 0 (place j) _ (pos 0)
      (sum_below_only N j (added c r s 0 (place j)) h (λ v _ d. added_0 0 (place j) v (no_square v) (without_q _ _ _ _ (λ e. omega arith) (λ e. d (omega arith))))
      ∙ added_at 0 (place j) j (pos 0) (pos 1) (no_square j) (linear_same j))
      (without_j _ _ _ _ (λ e. omega arith) (λ e. omega arith))
      ∙ go (entry (g c r s) 0 (place j)) (pos (half_row_sum c r s j)) r.base
    where
      no_square : (v : ℕ) → unit (place v) (place v) 0 (place j) ≡ pos 0
      no_square v = without_i _ _ _ _ (λ e. omega arith) (λ e. omega arith)

      go : (g c b : ℤ) → g +ℤ (c *ℤ pos 0 -ℤ g *ℤ pos 1) -ℤ b *ℤ pos 0 ≡ pos 0
      go g c b = atoms (g ∷ c ∷ b ∷ []) λ ρ g c b. simp (g, c, b, quote, ρ) (ring _ _ _ tt)

  -- row and column 0 are 0
  pub plain_row_0 : (j : ℕ) → j < suc N → ours 0 j ≡ pos 0
  plain_row_0 zero h = plain_constant
  plain_row_0 (suc j) h = plain_linear j (omega arith)

  pub plain_column_0 : (i : ℕ) → i < suc N → ours i 0 ≡ pos 0
  plain_column_0 i h = entry_symmetric (shifted c r s (plain c r s)) i 0 ∙ plain_row_0 i h

  -- the coefficients of products are g's
  pub plain_product : (i j : ℕ) → (j ≡ i → ⊥) → ours (place i) (place j) ≡ entry (g c r s) (place i) (place j)
  plain_product i j d =
      entry_at (place i) (place j) (pos 0) (pos 0)
      (none (place i) (place j) (λ v. added_0 (place i) (place j) v (no_square v (ℕ_discrete i v)) (without_p _ _ _ _ (λ e. omega arith) (λ e. omega arith))))
      (without_i _ _ _ _ (λ e. omega arith) (λ e. omega arith))
      ∙ go (entry (g c r s) (place i) (place j)) r.base
    where
      no_square : (v : ℕ) → Dec (i ≡ v) → unit (place v) (place v) (place i) (place j) ≡ pos 0
      no_square v (yes e) = without_j _ _ _ _ (λ f. d (omega arith)) (λ f. d (omega arith))
      no_square v (no f) = without_i _ _ _ _ (λ e. f (omega arith)) (λ e. f (omega arith))

      go : (g b : ℤ) → g +ℤ pos 0 -ℤ b *ℤ pos 0 ≡ g
      go g b = atoms (g ∷ b ∷ []) λ ρ g b. simp (g, b, quote, ρ) (ring _ _ _ tt)

  -- the squares have the multipliers of `31`
  pub plain_square : (i : ℕ) → i < N → ours (place i) (place i) ≡ pos 2 *ℤ pos (half_row_sum c r s i)
  plain_square i h =
      entry_at (place i) (place i) _ (pos 0)
      (sum_below_only N i (added c r s (place i) (place i)) h (λ v _ d. added_0 (place i) (place i) v (without_i _ _ _ _ (λ e. d (omega arith)) (λ e. d (omega arith))) (no_linear v))
      ∙ added_at (place i) (place i) i (pos 2) (pos 0) (square_same (place i)) (no_linear i))
      (without_i _ _ _ _ (λ e. omega arith) (λ e. omega arith))
      ∙ rw (g_no_square c r s i) (go (pos (half_row_sum c r s i)) (entry (g c r s) 0 (place i)) r.base)
    where
      no_linear : (v : ℕ) → unit 0 (place v) (place i) (place i) ≡ pos 0
      no_linear v = without_p _ _ _ _ (λ e. omega arith) (λ e. omega arith)

      go : (c l b : ℤ) → pos 0 +ℤ (c *ℤ pos 2 -ℤ l *ℤ pos 0) -ℤ b *ℤ pos 0 ≡ pos 2 *ℤ c
      go c l b = atoms (c ∷ l ∷ b ∷ []) λ ρ c l b. simp (c, l, b, quote, ρ) (ring _ _ _ tt)
