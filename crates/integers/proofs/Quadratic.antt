-- Quadratic forms over ℤ: `quadratic n a x` is Σ_i Σ_j a i j x i x j, over i, j < n.
use mathlib.Core.Path.{◌≡◌, sym, ◌∙◌, ap, subst}
use mathlib.Core.List.{List, [], ◌∷◌}
use Prim.Native.Nat.{ℕ, ◌<◌}
use lib.IntN.{ℤ, pos, ◌+ℤ◌, ◌*ℤ◌, zero-*ℤ}
use lib.Signed.{◌≤ℤ◌}
use Rattle.integers.specs.Quadratic.{quadratic, Semidefinite}
use Rattle.integers.proofs.Ring.{*ℤ_assoc, *ℤ_distribʳ}
use Rattle.integers.proofs.Solver.{quote, atoms, ring}
use Rattle.integers.proofs.Order.{nonneg, +ℤ_nonneg, *ℤ_nonneg}
use Rattle.integers.specs.Lists.{All}
use Rattle.integers.specs.Sum.{sum_below, sum_over}
use Rattle.integers.proofs.Sum.{sum_below_cong, sum_below_0, sum_below_product, sum_over_nonneg, linear}
use Rattle.integers.proofs.Lists.{All-map}

pub quadratic_cong : (n : ℕ) (a b : ℕ → ℕ → ℤ) (x : ℕ → ℤ) → ((i j : ℕ) → i < n → j < n → a i j ≡ b i j) → quadratic n a x ≡ quadratic n b x
unfolding quadratic
quadratic_cong n a b x h = sum_below_cong n _ _ λ i l. sum_below_cong n _ _ λ j k. rw (h i j l k)

pub quadratic-+ : (n : ℕ) (a b : ℕ → ℕ → ℤ) (x : ℕ → ℤ) → quadratic n (λ i j. a i j +ℤ b i j) x ≡ quadratic n a x +ℤ quadratic n b x
unfolding quadratic
quadratic-+ n a b x = simp (linear, *ℤ_distribʳ)

pub quadratic-* : (n : ℕ) (c : ℤ) (a : ℕ → ℕ → ℤ) (x : ℕ → ℤ) → quadratic n (λ i j. c *ℤ a i j) x ≡ c *ℤ quadratic n a x
unfolding quadratic
quadratic-* n c a x = simp (linear, *ℤ_assoc)

pub quadratic_0 : (n : ℕ) (x : ℕ → ℤ) → quadratic n (λ i j. pos 0) x ≡ pos 0
unfolding quadratic
quadratic_0 n x = sum_below_cong n _ _ (λ i h. sum_below_cong n _ _ (λ j k. simp zero-*ℤ) ∙ sum_below_0 n) ∙ sum_below_0 n

-- a table that is a sum over a list
pub quadratic-sum_over {ℓ} : {A : Type ℓ} (n : ℕ) (l : List A) (a : A → ℕ → ℕ → ℤ) (x : ℕ → ℤ) →
    quadratic n (λ i j. sum_over l (λ e. a e i j)) x ≡ sum_over l (λ e. quadratic n (a e) x)
unfolding sum_over
quadratic-sum_over n [] a x = quadratic_0 n x
quadratic-sum_over n (e ∷ l) a x =
    quadratic-+ n (a e) (λ i j. sum_over l (λ e. a e i j)) x ∙ ap (λ u. quadratic n (a e) x +ℤ u) (quadratic-sum_over n l a x)

-- the form of v vᵀ is the square of Σ v i x i
pub quadratic_square : (n : ℕ) (v x : ℕ → ℤ) → quadratic n (λ i j. v i *ℤ v j) x ≡ sum_below n (λ i. v i *ℤ x i) *ℤ sum_below n (λ i. v i *ℤ x i)
unfolding quadratic
quadratic_square n v x =
    (sum_below_cong n _ _ λ i l. sum_below_cong n _ _ λ j k.
    atoms (v i ∷ v j ∷ x i ∷ x j ∷ []) λ ρ a b c d. simp (a, b, c, d, quote) (ring _ _ _ tt))
    ∙ sym (sum_below_product n n (λ i. v i *ℤ x i) (λ i. v i *ℤ x i))

-- ---- positive semidefinite matrices

pub semidefinite_cong : (n : ℕ) (a b : ℕ → ℕ → ℤ) → ((i j : ℕ) → i < n → j < n → a i j ≡ b i j) → Semidefinite n a → Semidefinite n b
semidefinite_cong n a b h p x = subst (λ z. pos 0 ≤ℤ z) (quadratic_cong n a b x h) (p x)

pub semidefinite_+ : (n : ℕ) (a b : ℕ → ℕ → ℤ) → Semidefinite n a → Semidefinite n b → Semidefinite n (λ i j. a i j +ℤ b i j)
semidefinite_+ n a b p q x = rw (quadratic-+ n a b x) (+ℤ_nonneg _ _ (p x) (q x))

pub semidefinite_* : (n : ℕ) (c : ℤ) (a : ℕ → ℕ → ℤ) → pos 0 ≤ℤ c → Semidefinite n a → Semidefinite n (λ i j. c *ℤ a i j)
semidefinite_* n c a h p x = rw (quadratic-* n c a x) (*ℤ_nonneg _ _ h (p x))

pub semidefinite_square : (n : ℕ) (v : ℕ → ℤ) → Semidefinite n (λ i j. v i *ℤ v j)
semidefinite_square n v x = rw (quadratic_square n v x) (search nonneg)

pub semidefinite_sum_over {ℓ} : {A : Type ℓ} (n : ℕ) (l : List A) (a : A → ℕ → ℕ → ℤ) → All (λ e. Semidefinite n (a e)) l → Semidefinite n (λ i j. sum_over l (λ e. a e i j))
semidefinite_sum_over n l a h x =
    rw (quadratic-sum_over n l a x) (sum_over_nonneg l (λ e. quadratic n (a e) x) (All-map _ _ (λ e p. p x) l h))
