-- A form homogenized: it is the form's value where D is the factor of place 0, and of fractions expanded by e it is e² times as much.
use Prim.Native.Nat.{ℕ, zero, suc, ◌*◌}
use mathlib.Core.Path.{◌≡◌, refl, ◌∙◌, sym, ap}
use mathlib.Core.List.{[], ◌∷◌}
use lib.IntN.{ℤ, pos, ◌*ℤ◌, *ℤ_comm}
use Rattle.integers.specs.Sum.{sum_over}
use Rattle.integers.proofs.Ring.{*ℤ_assoc}
use Rattle.integers.proofs.Solver.{quote, atoms, ring}
use Rattle.integers.proofs.Sum.{sum_over-*ˡ}
use Rattle.forms.specs.Form.{Monomial, Form, places, value, product_over, homogenized}

-- k of each of two factors
both : (k u v : ℤ) → (k *ℤ u) *ℤ (k *ℤ v) ≡ k *ℤ k *ℤ (u *ℤ v)
both k u v = atoms (k ∷ u ∷ v ∷ []) λ ρ k u v. simp (k, u, v, quote) (ring _ _ _ tt)

first : (k c u : ℤ) → c *ℤ (k *ℤ k *ℤ u) ≡ k *ℤ k *ℤ (c *ℤ u)
first k c u = atoms (k ∷ c ∷ u ∷ []) λ ρ k c u. simp (k, c, u, quote) (ring _ _ _ tt)

module _ (f : Form) (D : ℕ) (y : ℕ → ℤ) where
  -- ---- as a value

  over_places : (p q : ℕ) → product_over D y p q ≡ places (pos D) y p *ℤ places (pos D) y q
  unfolding product_over
  over_places zero zero = refl
  over_places zero (suc j) = refl
  over_places (suc i) zero = *ℤ_comm (pos D) (y i)
  over_places (suc i) (suc j) = refl

  pub homogenized_value : homogenized f D y ≡ value (places (pos D) y) f
  unfolding homogenized value
  homogenized_value = λ x. sum_over f (λ m. each m x)
    where
      each : (m : Monomial) → m.c *ℤ product_over D y m.p m.q ≡ m.c *ℤ places (pos D) y m.p *ℤ places (pos D) y m.q
      each m = ap (λ u. m.c *ℤ u) (over_places m.p m.q) ∙ sym (*ℤ_assoc m.c (places (pos D) y m.p) (places (pos D) y m.q))

  -- ---- of expanded fractions

  expanded : (e : ℕ) (p q : ℕ) → product_over (e * D) (λ i. pos e *ℤ y i) p q ≡ pos e *ℤ pos e *ℤ product_over D y p q
  unfolding product_over
  expanded e zero zero = both (pos e) (pos D) (pos D)
  expanded e zero (suc j) = both (pos e) (pos D) (y j)
  expanded e (suc i) zero = both (pos e) (pos D) (y i)
  expanded e (suc i) (suc j) = both (pos e) (y i) (y j)

  pub homogenized_expanded : (e : ℕ) → homogenized f (e * D) (λ i. pos e *ℤ y i) ≡ pos e *ℤ pos e *ℤ homogenized f D y
  unfolding homogenized
  homogenized_expanded e = (λ x. sum_over f (λ m. each m x)) ∙ sum_over-*ˡ f (pos e *ℤ pos e) (λ m. m.c *ℤ product_over D y m.p m.q)
    where
      each : (m : Monomial) → m.c *ℤ product_over (e * D) (λ i. pos e *ℤ y i) m.p m.q ≡ pos e *ℤ pos e *ℤ (m.c *ℤ product_over D y m.p m.q)
      each m = ap (λ u. m.c *ℤ u) (expanded e m.p m.q) ∙ first (pos e) m.c (product_over D y m.p m.q)
