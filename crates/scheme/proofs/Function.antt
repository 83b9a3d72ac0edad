-- What g is worth at a filling.
use mathlib.Core.Path.{◌≡◌, refl, ◌∙◌, ap, ap₂}
use mathlib.Core.List.{[], ◌∷◌}
use mathlib.Core.Bool.{Bool, true, false, cond, ◌&&◌}
use Prim.Native.Nat.{ℕ, suc, ◌<◌}
use native.Mathlib.Omega.{arith}
use lib.Dec.{eqb}
use lib.IntN.{ℤ, pos, ◌+ℤ◌, ◌*ℤ◌, *ℤ-zero}
use borrow.Author.Tests.{eqb-true}
use Rattle.forms.proofs.Form.{value_join}
use Rattle.forms.specs.Form.{mono, value}
use Rattle.integers.proofs.Diff.{diff₁, diffs}
use Rattle.integers.proofs.Join.{join_cong}
use Rattle.integers.proofs.Sum.{sum_below_cong}
use Rattle.integers.specs.Sum.{sum_below, sum_over}
use Rattle.register.specs.declared.Register.{Register}
use Rattle.scheme.specs.Filling.{Filling, factor}
use Rattle.scheme.specs.Function.{term, term_of, g}
use Rattle.scheme.specs.Scheme.{split_left, split_right}
use Rattle.scheme.specs.declared.Scheme.{Scheme}

-- a term is its coefficient where both variables of its split are 1
pub value-term : (z : Filling) (l r : ℕ) (c : ℤ) → value (factor z) (term l r c) ≡ cond (z l && z r) c (pos 0)
unfolding value sum_over term
value-term z l r c = go (eqb l r) refl
  where
    one : (c : ℤ) → c *ℤ pos 1 *ℤ pos 1 +ℤ pos 0 ≡ c
    one = diff₁ _ λ p q. simp diffs (omega arith)

    product : (a b : Bool) → c *ℤ cond a (pos 1) (pos 0) *ℤ cond b (pos 1) (pos 0) +ℤ pos 0 ≡ cond (a && b) c (pos 0)
    product true true = one c
    product true false = simp *ℤ-zero
    product false true = simp *ℤ-zero
    product false false = simp *ℤ-zero

    same : (a : Bool) → c *ℤ pos 1 *ℤ cond a (pos 1) (pos 0) +ℤ pos 0 ≡ cond (a && a) c (pos 0)
    same true = one c
    same false = simp *ℤ-zero

    go : (b : Bool) → eqb l r ≡ b → value (factor z) (cond b (mono 0 (suc l) c ∷ []) (mono (suc l) (suc r) c ∷ [])) ≡ cond (z l && z r) c (pos 0)
    go true e = rw (← (eqb-true l r e)) (same (z l))
    go false e = product (z l) (z r)

-- g at a filling: base cost + the coefficients of the terms whose two variables are 1
pub value-g : (z : Filling) (c : ℕ → ℤ) (r : Register) (s : Scheme) → value (factor z) (g c r s) ≡ r.base +ℤ sum_below r.terms (λ t. cond (z (split_left s t) && z (split_right s t)) (c t) (pos 0))
unfolding g value sum_over
value-g z c r s =
    ap₂ ◌+ℤ◌ (one r.base)
    (value_join (factor z) r.terms _ ∙ sum_below_cong r.terms _ _ (λ t l. value-term z (split_left s t) (split_right s t) (c t)))
  where
    one : (a : ℤ) → a *ℤ pos 1 *ℤ pos 1 ≡ a
    one = diff₁ _ λ p q. simp diffs (omega arith)

-- coefficients that are the same give the same function
pub g_same : (c d : ℕ → ℤ) (r : Register) (s : Scheme) → ((t : ℕ) → t < r.terms → c t ≡ d t) → g c r s ≡ g d r s
unfolding g
g_same c d r s h = ap (λ f. mono 0 0 r.base ∷ f) (join_cong r.terms (term_of c s) (term_of d s) (λ t l. ap (term (split_left s t) (split_right s t)) (h t l)))
