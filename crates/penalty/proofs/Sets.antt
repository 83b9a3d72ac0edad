-- The set lemma: z_v is 1 exactly when every choice of E_v is, unless v reaches a product that is not consistent; and the plan
-- that a filling carries.
use mathlib.Core.Path.{◌≡◌, refl, sym, ◌∙◌, ap, ap₂}
use mathlib.Core.Logic.{◌⊎◌, inl, inr}
use mathlib.Core.Bool.{Bool, true, ◌&&◌, ◌||◌, Bool-discrete, or-true}
use Prim.Native.Nat.{ℕ, ◌^◌, ◌≤◌, ◌<◌}
use borrow.Author.Tests.{eq-eqb}
use Rattle.sets.specs.Sets.{is_member, is_subset}
use Rattle.sets.proofs.Sets.{subset_or, subset_one, set_of_below, member_set_of, set_of_members}
use Rattle.scheme.specs.declared.Scheme.{Scheme}
use Rattle.scheme.specs.Scheme.{left, right, variables}
use Rattle.scheme.specs.Variables.{E}
use Rattle.scheme.specs.Filling.{Filling, induced}
use Rattle.scheme.specs.Valid.{Products}
use Rattle.scheme.proofs.Variables.{E_choice, E_product, variable_ind}
use Rattle.scheme.proofs.Filling.{Consistent}
use Rattle.penalty.specs.Weights.{reaches}
use Rattle.penalty.specs.Carried.{carried}
use Rattle.penalty.proofs.Weights.{reaches_product}

-- ---- the plan that a filling carries

-- it is a plan
pub carried_below : (n : ℕ) (z : Filling) → carried n z < 2 ^ n
unfolding carried
carried_below n z = set_of_below n z

-- it feeds just the choices with z_i = 1
pub carried_member : (n : ℕ) (z : Filling) (i : ℕ) → i < n → is_member i (carried n z) ≡ z i
unfolding carried
carried_member n z = member_set_of n z

-- the filling that a plan induces carries the plan
pub carried_induced : (n : ℕ) (s : Scheme) (plan : ℕ) → plan < 2 ^ n → carried n (induced n s plan) ≡ plan
unfolding carried
carried_induced n s plan l =
    set_of_members n (induced n s plan) plan l (λ i m. ap (λ e. is_subset e plan) (E_choice n s i m) ∙ subset_one i plan)

-- ---- the set lemma

-- z_v is 1 exactly when every choice of E_v is
abbrev pub IsMonomial : ℕ → Scheme → Filling → ℕ → Type 0
IsMonomial n s z v = is_subset (E n s v) (carried n z) ≡ z v

-- a product that passes the test is not consistent
pub record Broken (n : ℕ) (s : Scheme) (z : Filling) (test : ℕ → Bool) : Type 0 where
  pub k : ℕ
  pub product : n ≤ k
  pub there : k < variables n s
  pub passes : test k ≡ true
  pub broken : Consistent n s z k → ⊥

module _ (n : ℕ) (s : Scheme) (z : Filling) where
  widened : (f g : ℕ → Bool) → ((k : ℕ) → f k ≡ true → g k ≡ true) → Broken n s z f → Broken n s z g
  widened f g w b = record { k = b.k; product = b.product; there = b.there; passes = w b.k b.passes; broken = b.broken }

  -- what holds of each of two variables holds of both, or the two reach a product that is not consistent
  pub both : {A B : Type 0} (f g : ℕ → Bool) → A ⊎ Broken n s z f → B ⊎ Broken n s z g → (A × B) ⊎ Broken n s z (λ k. f k || g k)
  both f g (inl a) (inl b) = inl (a, b)
  both f g (inl a) (inr b) = inr (widened g _ (λ k e. rw (e, or-true)) b)
  both f g (inr a) b = inr (widened f _ (λ k e. rw e) a)

  module _ (products : Products n s) where
    pub monomial_or : (v : ℕ) → v < variables n s → IsMonomial n s z v ⊎ Broken n s z (λ k. reaches n s k v)
    monomial_or = variable_ind n s products _ choice (λ v a m x y. product v a m (both _ _ x y))
      where
        choice : (i : ℕ) → i < n → IsMonomial n s z i ⊎ Broken n s z (λ k. reaches n s k i)
        choice i l =
            inl (ap (λ e. is_subset e (carried n z)) (E_choice n s i l) ∙ subset_one i (carried n z) ∙ carried_member n z i l)

        product : (v : ℕ) → n ≤ v → v < variables n s →
            (IsMonomial n s z (left n s v) × IsMonomial n s z (right n s v)) ⊎ Broken n s z (λ k. reaches n s k (left n s v) || reaches n s k (right n s v)) →
            IsMonomial n s z v ⊎ Broken n s z (λ k. reaches n s k v)
        product v a m (inl (x, y)) = decide (Bool-discrete (z v) (z (left n s v) && z (right n s v)))
          where
            decide : Dec (Consistent n s z v) → IsMonomial n s z v ⊎ Broken n s z (λ k. reaches n s k v)
            decide (yes e) =
                inl (ap (λ e. is_subset e (carried n z)) (E_product n s products v a m) ∙ subset_or _ _ (carried n z) ∙ ap₂ ◌&&◌ x y ∙ sym e)
            decide (no d) =
                inr (record { k = v; product = a; there = m; passes = rw (reaches_product n s products v v a m, eq-eqb v v refl); broken = d })
        product v a m (inr b) = inr (widened _ _ (λ k e. rw (reaches_product n s products k v a m, e, or-true)) b)
