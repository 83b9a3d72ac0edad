-- A weight is above 0 just where a term uses the product whose coefficient is not 0.
use Prim.Native.Nat.{ℕ, zero, suc, ◌<◌}
use mathlib.Core.Path.{◌≡◌, refl}
use mathlib.Core.Logic.{◌⊎◌, inl, inr, ◌↔◌}
use mathlib.Core.Bool.{Bool, true, false, cond}
use native.Mathlib.Omega.{arith}
use lib.IntN.{ℤ, pos, negsuc, ◌+ℤ◌, ◌*ℤ◌, *ℤ-zero}
use lib.Signed.{◌≤ℤ◌, ◌<ℤ◌, ≤ℤ_refl, clash_ℤ}
use Rattle.integers.specs.Integer.{abs}
use Rattle.integers.specs.Sum.{sum_below}
use Rattle.integers.proofs.Diff.{diff₂, diffs}
use Rattle.integers.proofs.Order.{≤ℤ_or_>, ≡→≤ℤ, *ℤ_monoˡ, *ℤ_cancelˡ, pos_nonneg}
use Rattle.integers.proofs.Parts.{parts→<}
use Rattle.integers.proofs.Sum.{sum_below-zero, sum_below-suc, sum_below_member}
use Rattle.register.specs.declared.Register.{Register}
use Rattle.scheme.specs.declared.Scheme.{Scheme}
use Rattle.scheme.specs.Valid.{Factor}
use Rattle.penalty.specs.Weights.{uses, contribution, usage, weight}
use Rattle.penalty.proofs.Weights.{contribution_used, contribution_zero, contribution_nonneg}

some_above : (n : ℕ) (f : ℕ → ℤ) → pos 0 <ℤ sum_below n f → (t : ℕ) × ((t < n) × (pos 0 <ℤ f t))
some_above zero f l = clash_ℤ l (≡→≤ℤ _ _ (sum_below-zero f))
some_above (suc n) f l = go (≤ℤ_or_> (f n) (pos 0)) (some_above n f)
  where
    rest : (a b : ℤ) → pos 0 <ℤ (a +ℤ b) → b ≤ℤ pos 0 → pos 0 <ℤ a
    rest = diff₂ _ λ p q u v. simp diffs (omega arith)

    go : (f n ≤ℤ pos 0) ⊎ (pos 0 <ℤ f n) → (pos 0 <ℤ sum_below n f → (t : ℕ) × ((t < n) × (pos 0 <ℤ f t))) → (t : ℕ) × ((t < suc n) × (pos 0 <ℤ f t))
    go (inl x) ih = let (t, (m, y)) = ih (rest _ _ (rw sum_below-suc at l) x) in (t, (omega arith, y))
    go (inr x) ih = (n, (omega arith, x))

abs_above : (x : ℤ) → (x ≡ pos 0 → ⊥) → pos 0 <ℤ abs x
unfolding abs
abs_above (pos zero) d = absurd (d refl)
abs_above (pos (suc n)) d = parts→< _ _ (omega arith)
abs_above (negsuc n) d = parts→< _ _ (omega arith)

module _ (c : ℕ → ℤ) (r : Register) (s : Scheme) (k : ℕ) where
  -- a term that gives product k a weight
  abbrev pub Weighing : ℕ → Type 0
  Weighing t = (t < r.terms) × ((uses r.choices s k t ≡ true) × (c t ≡ pos 0 → ⊥))

  weighing : (t : ℕ) → t < r.terms → pos 0 <ℤ contribution c r.choices s k t → Weighing t
  weighing t m l = (m, (used (uses r.choices s k t) l, λ e. clash_ℤ l (≡→≤ℤ _ _ (contribution_zero c r.choices s k t e))))
    where
      used : (u : Bool) → pos 0 <ℤ cond u (abs (c t)) (pos 0) → u ≡ true
      used true x = refl
      used false x = clash_ℤ x (≤ℤ_refl (pos 0))

  usage_some : (pos 0 <ℤ usage c r s k) ↔ ((t : ℕ) × Weighing t)
  unfolding usage
  usage_some = (
    (λ l. let (t, (m, x)) = some_above r.terms _ l in (t, weighing t m x)),
    (λ (t, (m, (u, d))). <ℤ_≤ℤ (rw (← (contribution_used c r.choices s k t (rw u tt))) at (abs_above (c t) d))
        (sum_below_member r.terms t _ (λ i x. contribution_nonneg c r.choices s k i) m)),
  )
    where
      <ℤ_≤ℤ : {a b : ℤ} → pos 0 <ℤ a → a ≤ℤ b → pos 0 <ℤ b
      <ℤ_≤ℤ {a} {b} = diff₂ (λ a b. pos 0 <ℤ a → a ≤ℤ b → pos 0 <ℤ b) (λ p q u v. simp diffs (omega arith)) a b

  weight_above : Factor s.factor → (pos 0 <ℤ weight c r s k) ↔ (pos 0 <ℤ usage c r s k)
  unfolding weight
  weight_above f = ((λ l. up (≤ℤ_or_> (usage c r s k) (pos 0)) l), (λ l. down (≤ℤ_or_> (pos s.factor *ℤ usage c r s k) (pos 0)) l))
    where
      up : (usage c r s k ≤ℤ pos 0) ⊎ (pos 0 <ℤ usage c r s k) → pos 0 <ℤ (pos s.factor *ℤ usage c r s k) → pos 0 <ℤ usage c r s k
      up (inl x) l = clash_ℤ l (rw (*ℤ-zero (pos s.factor)) at (*ℤ_monoˡ (pos s.factor) (usage c r s k) (pos 0) (pos_nonneg s.factor) x))
      up (inr x) l = x

      down : ((pos s.factor *ℤ usage c r s k) ≤ℤ pos 0) ⊎ (pos 0 <ℤ (pos s.factor *ℤ usage c r s k)) → pos 0 <ℤ usage c r s k → pos 0 <ℤ (pos s.factor *ℤ usage c r s k)
      down (inl x) l = clash_ℤ l (*ℤ_cancelˡ s.factor (usage c r s k) (pos 0) f.positive (rw (*ℤ-zero (pos s.factor)) x))
      down (inr x) l = x

  pub weight_some : Factor s.factor → (pos 0 <ℤ weight c r s k) ↔ ((t : ℕ) × Weighing t)
  weight_some f = ((λ l. usage_some.0 ((weight_above f).0 l)), (λ t. (weight_above f).1 (usage_some.1 t)))
