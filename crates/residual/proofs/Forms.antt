-- Values of the forms that the rules have: differences of two products, and forms never negative on the relaxation.
use Prim.Native.Nat.{ℕ}
use mathlib.Core.Path.{◌≡◌, ◌∙◌, ap}
use mathlib.Core.List.{[], ◌∷◌}
use lib.IntN.{ℤ, pos, negsuc, ◌+ℤ◌, ◌-ℤ◌, ◌*ℤ◌}
use lib.Signed.{◌≤ℤ◌}
use Rattle.integers.specs.Sum.{sum_over}
use Rattle.integers.proofs.Ring.{ -ℤ-self}
use Rattle.integers.proofs.Order.{≤ℤ_sub, *ℤ_monoˡ, *ℤ_nonneg}
use Rattle.integers.proofs.Solver.{quote, atoms, ring}
use Rattle.forms.specs.Form.{mono, value}
use Rattle.certificate.specs.Rules.{minus1}

value_difference : (y : ℕ → ℤ) (p q p' q' : ℕ) → value y (mono p q (pos 1) ∷ mono p' q' minus1 ∷ []) ≡ y p *ℤ y q -ℤ y p' *ℤ y q'
unfolding value sum_over
value_difference y p q p' q' = go (y p) (y q) (y p') (y q')
  where
    go : (u v u' v' : ℤ) → pos 1 *ℤ u *ℤ v +ℤ (negsuc 0 *ℤ u' *ℤ v' +ℤ pos 0) ≡ u *ℤ v -ℤ u' *ℤ v'
    go u v u' v' = atoms (u ∷ v ∷ u' ∷ v' ∷ []) λ ρ u v u' v'. simp (u, v, u', v', quote, ρ) (ring _ _ _ tt)

-- two equal products
pub null_difference : (y : ℕ → ℤ) (p q p' q' : ℕ) → y p *ℤ y q ≡ y p' *ℤ y q' → value y (mono p q (pos 1) ∷ mono p' q' minus1 ∷ []) ≡ pos 0
null_difference y p q p' q' e = value_difference y p q p' q' ∙ ap (λ x. x -ℤ y p' *ℤ y q') e ∙ -ℤ-self (y p' *ℤ y q')

pub nonneg_difference : (y : ℕ → ℤ) (q q' : ℕ) → pos 0 ≤ℤ y 0 → y q' ≤ℤ y q → pos 0 ≤ℤ value y (mono 0 q (pos 1) ∷ mono 0 q' minus1 ∷ [])
nonneg_difference y q q' h k = rw (value_difference y 0 q 0 q') ((≤ℤ_sub (y 0 *ℤ y q') (y 0 *ℤ y q)).0 (*ℤ_monoˡ (y 0) (y q') (y q) h k))

-- z_i
pub nonneg_single : (y : ℕ → ℤ) (q : ℕ) → pos 0 ≤ℤ y 0 → pos 0 ≤ℤ y q → pos 0 ≤ℤ value y (mono 0 q (pos 1) ∷ [])
unfolding value sum_over
nonneg_single y q h k = rw (go (y 0) (y q)) (*ℤ_nonneg (y 0) (y q) h k)
  where
    go : (u v : ℤ) → pos 1 *ℤ u *ℤ v +ℤ pos 0 ≡ u *ℤ v
    go u v = atoms (u ∷ v ∷ []) λ ρ u v. simp (u, v, quote, ρ) (ring _ _ _ tt)

-- z_k − z_l − z_r + 1
pub nonneg_together : (y : ℕ → ℤ) (k l r : ℕ) → pos 0 ≤ℤ y 0 → (y l +ℤ y r -ℤ y 0) ≤ℤ y k →
    pos 0 ≤ℤ value y (mono 0 k (pos 1) ∷ mono 0 l minus1 ∷ mono 0 r minus1 ∷ mono 0 0 (pos 1) ∷ [])
unfolding value sum_over
nonneg_together y k l r h g = rw (go (y 0) (y k) (y l) (y r)) (*ℤ_nonneg (y 0) _ h ((≤ℤ_sub (y l +ℤ y r -ℤ y 0) (y k)).0 g))
  where
    go : (d k l r : ℤ) → pos 1 *ℤ d *ℤ k +ℤ (negsuc 0 *ℤ d *ℤ l +ℤ (negsuc 0 *ℤ d *ℤ r +ℤ (pos 1 *ℤ d *ℤ d +ℤ pos 0))) ≡ d *ℤ (k -ℤ (l +ℤ r -ℤ d))
    go d k l r = atoms (d ∷ k ∷ l ∷ r ∷ []) λ ρ d k l r. simp (d, k, l, r, quote, ρ) (ring _ _ _ tt)
