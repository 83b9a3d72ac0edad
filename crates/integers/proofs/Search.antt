-- The first number below a bound at which a test passes.
use Prim.Native.Nat.{ℕ, zero, suc, ◌≤◌, ◌<◌}
use native.Mathlib.Omega.{arith}
use native.Mathlib.Decide.{ℕ_discrete}
use mathlib.Core.Path.{◌≡◌, refl, sym}
use mathlib.Core.Logic.{◌⊎◌, inl, inr, ⊎_elim}
use mathlib.Core.Bool.{Bool, true, not}
use lib.Dec.{eqb}
use borrow.Author.Tests.{eq-eqb, ne_eqb}
use Rattle.integers.specs.Lists.{all_below, first_below}
use Rattle.integers.proofs.Lists.{flag, and_both}

module _ (f : ℕ → Bool) where
  -- the test fails at 0, 1, .. k − 1: what a loop knows that looks for the first
  abbrev pub none : ℕ → Bool
  none k = all_below k (λ i. not (f i))

  pub first_none : (k : ℕ) → none k ≡ true → first_below k f ≡ k
  unfolding all_below first_below
  first_none zero e = refl
  first_none (suc k) e = let (d, t) = and_both _ _ e in rw (first_none k d, eq-eqb k k refl, t)

  pub first_at : (k v : ℕ) → v < k → none v ≡ true → f v ≡ true → first_below k f ≡ v
  unfolding first_below
  first_at zero v l e t = absurd (omega arith)
  first_at (suc k) v l e t = by (ℕ_discrete v k) (first_at k v)
    where
      by : Dec (v ≡ k) → (v < k → none v ≡ true → f v ≡ true → first_below k f ≡ v) → first_below (suc k) f ≡ v
      by (yes d) ih = rw (first_none k (rw d at e), eq-eqb k k refl, rw d at t) (sym d)
      by (no d) ih = rw (ih (omega arith) e t, ne_eqb v k d)

  first_cases : (k : ℕ) → ((first_below k f ≡ k) × (none k ≡ true)) ⊎ ((first_below k f < k) × (f (first_below k f) ≡ true))
  unfolding all_below first_below
  first_cases zero = inl (refl, refl)
  first_cases (suc k) =
      ⊎_elim
      (λ (h : (first_below k f ≡ k) × (none k ≡ true)). flag (f k) (λ t. inr (rw (h.0, eq-eqb k k refl, t) (omega arith, t))) (λ t. inl (rw (h.0, h.1, eq-eqb k k refl, t) (refl, refl))))
      (λ (h : (first_below k f < k) × (f (first_below k f) ≡ true)). inr (rw (ne_eqb (first_below k f) k (λ e. omega (arith, h.0))) (omega (arith, h.0), h.1)))
      (first_cases k)

  pub first_within : (k : ℕ) → first_below k f ≤ k
  first_within k = ⊎_elim (λ h. omega (arith, h.0)) (λ h. omega (arith, h.0)) (first_cases k)

  pub first_here : (k : ℕ) → first_below k f < k → f (first_below k f) ≡ true
  first_here k l = ⊎_elim (λ h. absurd (omega (arith, h.0))) (λ h. h.1) (first_cases k)

  pub none_first : (k : ℕ) → first_below k f ≡ k → none k ≡ true
  none_first k e = ⊎_elim (λ h. h.1) (λ h. absurd (omega (arith, h.0))) (first_cases k)

  -- so the test fails throughout just where the first is the bound
  pub none_is_lem : (k : ℕ) → eqb (first_below k f) k ≡ none k
  none_is_lem k =
      ⊎_elim (λ h. rw (eq-eqb _ _ h.0, h.1)) (λ h. flag (none k) (λ t. absurd (omega (arith, first_none k t, h.0))) (λ t. rw (t, ne_eqb (first_below k f) k (λ e. omega (arith, h.0, e))))) (first_cases k)

-- tests that agree below the bound
pub first_below_same : (n : ℕ) (f g : ℕ → Bool) → ((i : ℕ) → i < n → f i ≡ g i) → first_below n f ≡ first_below n g
unfolding first_below
first_below_same zero f g h = refl
first_below_same (suc n) f g h = rw (first_below_same n f g (λ i l. h i (omega arith)), h n (omega arith))
