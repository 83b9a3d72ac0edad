-- With factor 2 or more, a filling that reaches the least value has each product of weight above 0 equal to the product of its
-- operands; also over the fillings that carry a plan with any property.
use mathlib.Core.Path.{◌≡◌, sym, ◌∙◌}
use mathlib.Core.Bool.{◌&&◌, Bool-discrete}
use Prim.Native.Nat.{ℕ, ◌+◌, ◌-◌, ◌≤◌}
use native.Mathlib.Omega.{arith}
use lib.IntN.{ℤ, pos, ◌+ℤ◌, ◌*ℤ◌, *ℤ-zero}
use lib.Signed.{◌≤ℤ◌, clash_ℤ}
use Rattle.integers.proofs.Diff.{diff₁, diff₂, diffs}
use Rattle.integers.proofs.Order.{≤ℤ_trans, *ℤ_monoˡ, *ℤ_cancelˡ, pos_nonneg, pos_mono, ≡→≤ℤ}
use Rattle.integers.proofs.Sum.{sum_below_member}
use Rattle.forms.specs.Form.{value}
use Rattle.register.specs.declared.Register.{Register}
use Rattle.plan.specs.Plan.{cost}
use Rattle.scheme.specs.declared.Scheme.{Scheme}
use Rattle.scheme.specs.Scheme.{left, right}
use Rattle.scheme.specs.Filling.{Filling, factor}
use Rattle.scheme.specs.Valid.{Valid}
use Rattle.penalty.specs.Weights.{usage, weight}
use Rattle.penalty.specs.Penalty.{bracket_of, h}
use Rattle.penalty.specs.Carried.{carried}
use Rattle.penalty.specs.Least.{LeastFilling, LeastPlan}
use Rattle.penalty.specs.TrueProducts.{IsTrue, TrueProducts}
use Rattle.penalty.proofs.Sets.{carried_below}
use Rattle.penalty.proofs.Weights.{usage_nonneg}
use Rattle.penalty.proofs.Penalty.{paid, pays, pays_nonneg, value-bracket, due_some, penalty_steps}
use Rattle.penalty.proofs.Least.{penalty_iff}

module _ (c : ℕ → ℤ) (r : Register) (s : Scheme) (z : Filling) where
  abbrev n : ℕ
  n = r.choices

  -- a product that is not that of its operands pays its usage at least
  untrue_pays : (k : ℕ) → (IsTrue n s z k → ⊥) → usage c r s k ≤ℤ (usage c r s k *ℤ value (factor z) (bracket_of n s k))
  untrue_pays k d =
      rw (value-bracket z k (left n s k) (right n s k))
      (≤ℤ_trans _ _ _ (once (usage c r s k)) (*ℤ_monoˡ (usage c r s k) (pos 1) _ (usage_nonneg c r s k) (pos_mono 1 _ (due_some (z k) _ _ d))))
    where
      once : (x : ℤ) → x ≤ℤ (x *ℤ pos 1)
      once = diff₁ _ λ p q. simp diffs (omega arith)

  -- where nothing is paid, the products of weight above 0 are true
  paid_none : paid (factor z) c r s ≤ℤ pos 0 → TrueProducts c r s z
  unfolding paid weight
  paid_none low k a m w = go (Bool-discrete (z k) (z (left n s k) && z (right n s k)))
    where
      same : n + (k - n) ≡ k
      same = omega arith

      -- product k pays nothing
      none : (usage c r s k *ℤ value (factor z) (bracket_of n s k)) ≤ℤ pos 0
      none = rw same at (≤ℤ_trans _ _ _ (sum_below_member s.products (k - n) (pays (factor z) c r s) (λ i l. pays_nonneg c r s z i) (omega arith)) low)

      weightless : usage c r s k ≤ℤ pos 0 → (pos s.factor *ℤ usage c r s k) ≤ℤ pos 0
      weightless l = rw (*ℤ-zero (pos s.factor)) at (*ℤ_monoˡ (pos s.factor) (usage c r s k) (pos 0) (pos_nonneg s.factor) l)

      go : Dec (IsTrue n s z k) → IsTrue n s z k
      go (yes e) = e
      go (no d) = clash_ℤ w (weightless (≤ℤ_trans _ _ _ (untrue_pays k d) none))

module _ (c : ℕ → ℤ) (r : Register) (s : Scheme) (valid : Valid r s) (two : 2 ≤ s.factor) (P : ℕ → Type 0) (m : ℤ) where
  -- a filling that carries a plan with P, and at which h is the least cost over those
  strict : LeastPlan P c r m → (z : Filling) → P (carried r.choices z) → value (factor z) (h c r s) ≡ m → TrueProducts c r s z
  strict b z k e = paid_none c r s z (*ℤ_cancelˡ (s.factor - 1) _ (pos 0) (omega arith) (rw (*ℤ-zero (pos (s.factor - 1))) none))
    where
      no_more : (a b : ℤ) → (a +ℤ b) ≤ℤ a → b ≤ℤ pos 0
      no_more = diff₂ _ λ p q t u. simp diffs (omega arith)

      none : (pos (s.factor - 1) *ℤ paid (factor z) c r s) ≤ℤ pos 0
      none =
          no_more (cost c r (carried r.choices z)) _
          (≤ℤ_trans _ _ _ (penalty_steps c r s valid z)
          (≤ℤ_trans _ _ _ (≡→≤ℤ _ _ e) (b.lowest (record { fed = carried r.choices z; inside = carried_below r.choices z }) k)))

  -- of any f that is the value of h
  pub strict_of : (f : Filling → ℤ) → ((z : Filling) → f z ≡ value (factor z) (h c r s)) → LeastFilling P r f m →
      (z : Filling) → P (carried r.choices z) → f z ≡ m → TrueProducts c r s z
  strict_of f is_h b z k e = strict ((penalty_iff c r s valid f is_h P m).0 b) z k (sym (is_h z) ∙ e)
