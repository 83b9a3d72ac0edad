-- Gerschgorin's theorem for the quadratic form of a symmetric matrix a: it is at least Σ (a i i − Σ_{j≠i} |a i j|) x i².
-- So a symmetric matrix that is diagonally dominant is positive semidefinite.
use mathlib.Core.Path.{◌≡◌, refl, sym, ◌∙◌, ap}
use mathlib.Core.List.{[], ◌∷◌}
use Prim.Native.Nat.{ℕ, suc, ◌*◌, ◌≤◌, ◌<◌}
use native.Mathlib.Omega.{arith}
use native.Mathlib.Decide.{ℕ_discrete}
use lib.IntN.{ℤ, pos, nat_abs, negsuc, neg_ℤ, ◌+ℤ◌, ◌-ℤ◌, ◌*ℤ◌, zero-*ℤ}
use lib.Signed.{◌≤ℤ◌, ≤ℤ_refl}
use Rattle.integers.specs.Quadratic.{Symmetric, off_diagonal, DiagonallyDominant, quadratic, Semidefinite}
use Rattle.integers.specs.Integer.{abs}
use Rattle.integers.proofs.Diff.{diff₄, diffs}
use Rattle.integers.proofs.Ring.{*ℤ_distribˡ, *ℤ_sub_distribʳ, *ℤ_assoc}
use Rattle.integers.proofs.Solver.{quote, atoms, ring}
use Rattle.integers.proofs.Order.{abs_nonneg, ≤ℤ_by, ≤ℤ_sub, ≤ℤ_trans, nonneg, pos_nonneg, square_nonneg, *ℤ_nonneg}
use Rattle.integers.specs.Sum.{sum_below, except}
use lib.Dec.{eqb}
use Rattle.integers.proofs.Lists.{cond_cases}
use Rattle.integers.proofs.Sum.{nat_abs-sum, sum_below_cong, linear, sum_below_swap, sum_below_split, sum_below_nonneg, except_same, except_other}

-- |c| (u² + v²) + 2 c u v is |c| (u ± v)²
weighted : (c u v : ℤ) → pos 0 ≤ℤ (abs c *ℤ (u *ℤ u +ℤ v *ℤ v) +ℤ pos 2 *ℤ (c *ℤ u *ℤ v))
unfolding abs
weighted (pos n) u v = plus (pos n) u v (pos_nonneg n)
  where
    plus : (c u v : ℤ) → pos 0 ≤ℤ c → pos 0 ≤ℤ (c *ℤ (u *ℤ u +ℤ v *ℤ v) +ℤ pos 2 *ℤ (c *ℤ u *ℤ v))
    plus c u v h =
        ≤ℤ_by _ _ (c *ℤ ((u +ℤ v) *ℤ (u +ℤ v))) (search nonneg)
        (atoms (c ∷ u ∷ v ∷ []) λ ρ c u v. simp (c, u, v, quote, ρ) (ring _ _ _ tt))
weighted (negsuc n) u v = minus (pos (suc n)) u v (pos_nonneg (suc n))
  where
    minus : (c u v : ℤ) → pos 0 ≤ℤ c → pos 0 ≤ℤ (c *ℤ (u *ℤ u +ℤ v *ℤ v) +ℤ pos 2 *ℤ (neg_ℤ c *ℤ u *ℤ v))
    minus c u v h =
        ≤ℤ_by _ _ (c *ℤ ((u -ℤ v) *ℤ (u -ℤ v))) (search nonneg)
        (atoms (c ∷ u ∷ v ∷ []) λ ρ c u v. simp (c, u, v, quote, ρ) (ring _ _ _ tt))

module _ (n : ℕ) (a : ℕ → ℕ → ℤ) (x : ℕ → ℤ) where
  square : ℕ → ℤ
  square i = x i *ℤ x i

  product : ℕ → ℕ → ℤ
  product i j = a i j *ℤ x i *ℤ x j

  off : ℕ → ℕ → ℤ
  off i j = except i (λ j. abs (a i j)) j

  -- the products off the diagonal, and what they are weighed against
  products : ℤ
  products = sum_below n (λ i. sum_below n (except i (product i)))

  weights : ℤ
  weights = sum_below n (λ i. off_diagonal n a i *ℤ square i)

  entry : (i j : ℕ) → pos 0 ≤ℤ (off i j *ℤ (square i +ℤ square j) +ℤ pos 2 *ℤ except i (product i) j)
  unfolding off square product
  entry i j = go (ℕ_discrete j i)
    where
      go : Dec (j ≡ i) → pos 0 ≤ℤ (except i (λ j. abs (a i j)) j *ℤ (x i *ℤ x i +ℤ x j *ℤ x j) +ℤ pos 2 *ℤ except i (λ j. a i j *ℤ x i *ℤ x j) j)
      go (yes e) = rw (e, except_same, except_same, zero-*ℤ) (≤ℤ_refl (pos 0))
      go (no d) = rw (except_other i _ j d, except_other i _ j d) (weighted (a i j) (x i) (x j))

  rows : pos 0 ≤ℤ (weights +ℤ sum_below n (λ i. sum_below n (λ j. off i j *ℤ square j)) +ℤ pos 2 *ℤ products)
  unfolding products weights off_diagonal off
  rows = simp (linear, *ℤ_distribˡ) at (sum_below_nonneg n _ (λ i l. sum_below_nonneg n _ (λ j k. entry i j)))

  split : quadratic n a x ≡ sum_below n (λ i. a i i *ℤ square i) +ℤ products
  unfolding quadratic product square products
  split = sum_below_cong n _ _ (λ i l. sum_below_split n i (product i) l) ∙ simp (linear, *ℤ_assoc)

  module _ (symmetric : Symmetric n a) where
    off_symmetric : (i j : ℕ) → i < n → j < n → off i j ≡ off j i
    unfolding off
    off_symmetric i j l k = go (ℕ_discrete j i)
      where
        go : Dec (j ≡ i) → except i (λ j. abs (a i j)) j ≡ except j (λ i. abs (a j i)) i
        go (yes e) = rw e refl
        go (no d) =
            except_other i _ j d ∙ ap abs (symmetric i j l k) ∙ sym (except_other j _ i (λ e. d (sym e)))

    columns : sum_below n (λ i. sum_below n (λ j. off i j *ℤ square j)) ≡ weights
    unfolding weights off_diagonal off
    columns =
        sum_below_swap n n (λ i j. off i j *ℤ square j)
        ∙ sum_below_cong n _ _ (λ j k. simp linear (ap (λ z. z *ℤ square j) (sum_below_cong n _ _ (λ i l. off_symmetric i j l k))))

pub gerschgorin : (n : ℕ) (a : ℕ → ℕ → ℤ) → Symmetric n a → (x : ℕ → ℤ) →
    sum_below n (λ i. (a i i -ℤ off_diagonal n a i) *ℤ (x i *ℤ x i)) ≤ℤ quadratic n a x
unfolding square weights
gerschgorin n a symmetric x =
    simp (linear, *ℤ_sub_distribʳ, split n a x)
    (conclude (sum_below n (λ i. a i i *ℤ (x i *ℤ x i))) (products n a x) _ _ (rows n a x) (columns n a x symmetric))
  where
    conclude : (A P W C : ℤ) → pos 0 ≤ℤ (W +ℤ C +ℤ pos 2 *ℤ P) → C ≡ W → (A -ℤ W) ≤ℤ (A +ℤ P)
    conclude = diff₄ _ λ p q r s t u v w. simp diffs (omega arith)

pub dominant→semidefinite : (n : ℕ) (a : ℕ → ℕ → ℤ) → Symmetric n a → DiagonallyDominant n a → Semidefinite n a
dominant→semidefinite n a symmetric dominant x =
    ≤ℤ_trans _ _ _
    (sum_below_nonneg n _ (λ i l. *ℤ_nonneg _ _ ((≤ℤ_sub _ _).0 (dominant i l)) (square_nonneg (x i))))
    (gerschgorin n a symmetric x)

-- ---- the sum beside the diagonal

pub off_diagonal_nonneg : (n : ℕ) (t : ℕ → ℕ → ℤ) (i : ℕ) → pos 0 ≤ℤ off_diagonal n t i
unfolding off_diagonal except
off_diagonal_nonneg n t i = sum_below_nonneg n _ (λ j h. cond_cases (λ x. pos 0 ≤ℤ x) (eqb j i) (pos 0) (abs (t i j)) (λ _. ≤ℤ_refl (pos 0)) (λ _. abs_nonneg (t i j)))

pub off_diagonal_small : (n b : ℕ) (a : ℕ → ℕ → ℤ) (i : ℕ) → ((j : ℕ) → j < n → nat_abs (a i j) ≤ b) → nat_abs (off_diagonal n a i) ≤ b * n
unfolding off_diagonal abs
off_diagonal_small n b a i h = nat_abs-sum n b _ (λ j l. go j l (ℕ_discrete j i))
  where
    go : (j : ℕ) → j < n → Dec (j ≡ i) → nat_abs (except i (λ j. pos (nat_abs (a i j))) j) ≤ b
    go j l (yes e) = rw (e, except_same) (omega arith)
    go j l (no d) = rw (except_other i (λ j. pos (nat_abs (a i j))) j d) (h j l)
