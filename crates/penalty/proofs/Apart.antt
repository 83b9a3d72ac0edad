-- A form whose monomials stand at different places of its table, off the diagonal: no entry is larger than its largest
-- coefficient. The product of its two places tells a monomial from another here, as it is the same in either order.
use mathlib.Core.Path.{◌≡◌, refl, sym, ◌∙◌, ap₂, subst}
use mathlib.Core.Bool.{Bool, true, false, cond, ◌&&◌}
use mathlib.Core.List.{[], ◌∷◌}
use Prim.Native.Nat.{ℕ, ◌*◌, ◌≤◌}
use native.Mathlib.Nat.{mul_comm}
use native.Mathlib.Decide.{ℕ_discrete}
use native.Mathlib.Omega.{arith}
use lib.Dec.{T, eqb, eqb→eq}
use lib.IntN.{pos, nat_abs, ◌+ℤ◌, ◌*ℤ◌, *ℤ-zero, +ℤ_idl, +ℤ_idr}
use Rattle.integers.specs.Lists.{All}
use Rattle.integers.proofs.Lists.{T_and, cond_cases}
use Rattle.integers.proofs.Order.{nat_abs-*-≤}
use Rattle.forms.specs.Form.{Form, Monomial, single, entry}
use Rattle.forms.proofs.Form.{entry-[], entry-∷, unit}

-- ---- one product of places

single_none : (p q i j : ℕ) → (i * j ≡ p * q → ⊥) → single p q (pos 1) i j ≡ pos 0
single_none p q i j d =
    cond_cases (λ x. x ≡ pos 0) (eqb i p && eqb j q) (pos 1) (pos 0)
    (λ t. let e = (T_and (eqb i p) (eqb j q)).0 t in absurd (d (ap₂ ◌*◌ (eqb→eq i p e.0) (eqb→eq j q e.1)))) (λ _. refl)

unit_none : (p q i j : ℕ) → (i * j ≡ p * q → ⊥) → unit p q i j ≡ pos 0
unfolding unit
unit_none p q i j d = ap₂ ◌+ℤ◌ (single_none p q i j d) (single_none q p i j (λ e. d (e ∙ mul_comm q p)))

unit_one : (p q i j : ℕ) → (p ≡ q → ⊥) → nat_abs (unit p q i j) ≤ 1
unfolding unit
unit_one p q i j d =
    go (eqb i p && eqb j q) (eqb i q && eqb j p)
    (λ t u. d (sym (eqb→eq i p ((T_and (eqb i p) (eqb j q)).0 t).0) ∙ eqb→eq i q ((T_and (eqb i q) (eqb j p)).0 u).0))
  where
    go : (a b : Bool) → (T a → T b → ⊥) → nat_abs (cond a (pos 1) (pos 0) +ℤ cond b (pos 1) (pos 0)) ≤ 1
    go true true n = absurd (n tt tt)
    go true false n = omega arith
    go false true n = omega arith
    go false false n = omega arith

-- ---- forms

-- no monomial stands where the product of row and column is e
abbrev pub Elsewhere : ℕ → Form → Type 0
Elsewhere e f = All (λ m. e ≡ m.p * m.q → ⊥) f

-- coefficients are at most b in absolute value, each monomial is of two places, and no later one stands there
pub Apart : ℕ → Form → Type 0
Apart b [] = Unit {0}
Apart b (m ∷ f) = ((nat_abs m.c ≤ b) × (m.p ≡ m.q → ⊥)) × (Elsewhere (m.p * m.q) f × Apart b f)

pub apart-[] : (b : ℕ) → Apart b []
unfolding Apart
apart-[] b = tt

pub apart_∷ : {b : ℕ} (m : Monomial) (f : Form) → nat_abs m.c ≤ b → (m.p ≡ m.q → ⊥) → Elsewhere (m.p * m.q) f → Apart b f → Apart b (m ∷ f)
unfolding Apart
apart_∷ m f l d e h = ((l, d), (e, h))

elsewhere : (f : Form) (i j : ℕ) → Elsewhere (i * j) f → entry f i j ≡ pos 0
elsewhere [] i j h = entry-[] i j
elsewhere (m ∷ f) i j h = entry-∷ m f i j ∙ rw (unit_none m.p m.q i j h.0, elsewhere f i j h.1, *ℤ-zero m.c)

pub entry_apart : (b : ℕ) (f : Form) → Apart b f → (i j : ℕ) → nat_abs (entry f i j) ≤ b
unfolding Apart
entry_apart b [] h i j = rw entry-[] (omega arith)
entry_apart b (m ∷ f) h i j = rw entry-∷ (go (ℕ_discrete (i * j) (m.p * m.q)) (entry_apart b f h.1.1 i j))
  where
    go : Dec (i * j ≡ m.p * m.q) → nat_abs (entry f i j) ≤ b → nat_abs (m.c *ℤ unit m.p m.q i j +ℤ entry f i j) ≤ b
    go (yes e) l =
        rw (elsewhere f i j (subst (λ x. Elsewhere x f) (sym e) h.1.0), +ℤ_idr (m.c *ℤ unit m.p m.q i j))
        (omega (arith, nat_abs-*-≤ m.c (unit m.p m.q i j) b 1 h.0.0 (unit_one m.p m.q i j h.0.1)))
    go (no d) l = rw (unit_none m.p m.q i j d, *ℤ-zero m.c, +ℤ_idl (entry f i j)) l
