-- How large the cost of a plan becomes, for a register within the limits: every partial sum fits an i64, for every plan number.
use mathlib.Core.Path.{◌≡◌, refl, sym}
use mathlib.Core.Bool.{Bool, true, false, cond}
use Prim.Native.Nat.{ℕ, suc, ◌+◌, ◌*◌, ◌≤◌, ◌<◌}
use native.Mathlib.Nat.{le_refl}
use native.Mathlib.Numerals.{add-one}
use native.Mathlib.Omega.{arith}
use lib.IntN.{ℤ, pos, nat_abs, ◌+ℤ◌, +ℤ_assoc, +ℤ_idr}
use Rattle.integers.specs.Sum.{sum_below}
use Rattle.integers.proofs.Sum.{sum_below-zero, sum_below-suc, nat_abs-sum}
use Rattle.integers.proofs.Order.{nat_abs-+}
use Rattle.sets.specs.Sets.{is_subset}
use Rattle.register.specs.declared.Register.{Register}
use Rattle.register.specs.Limits.{max_base, max_terms, max_coefficient}
use Rattle.register.specs.Register.{mask}
use Rattle.register.specs.Valid.{Within}
use Rattle.plan.specs.Plan.{term_cost, cost}
use Rattle.plan.specs.Chosen.{chosen}
use Rattle.plan.proofs.Coefficients.{chosen_low}

module _ (c : ℕ → ℤ) (r : Register) (plan : ℕ) where
  -- the base cost and the first i terms
  abbrev pub cost_to : ℕ → ℤ
  cost_to i = r.base +ℤ sum_below i (λ t. term_cost (c t) r plan t)

  pub cost_to_zero : cost_to 0 ≡ r.base
  cost_to_zero = rw sum_below-zero (+ℤ_idr r.base)

  pub cost_to_suc : (i : ℕ) → cost_to (suc i) ≡ cost_to i +ℤ term_cost (c i) r plan i
  cost_to_suc i = rw sum_below-suc (sym (+ℤ_assoc r.base _ _))

  pub cost_to_next : (i : ℕ) → cost_to (i + 1) ≡ cost_to i +ℤ term_cost (c i) r plan i
  cost_to_next i = rw add-one (cost_to_suc i)

  pub cost_to_all : cost_to r.terms ≡ cost c r plan
  unfolding cost
  cost_to_all = refl

  module _ (w : Within r) (low : (t : ℕ) → t < r.terms → nat_abs (c t) ≤ max_coefficient) where
    term_small : (t : ℕ) → t < r.terms → nat_abs (term_cost (c t) r plan t) ≤ max_coefficient
    term_small t l = by (is_subset (mask r t) plan)
      where
        by : (b : Bool) → nat_abs (cond b (c t) (pos 0)) ≤ max_coefficient
        by true = low t l
        by false = omega arith

    pub cost_to_small : (i : ℕ) → i ≤ r.terms → nat_abs (cost_to i) ≤ max_base + max_terms * max_coefficient
    cost_to_small i l =
        omega (arith, nat_abs-+ r.base (sum_below i (λ t. term_cost (c t) r plan t)), nat_abs-sum i max_coefficient (λ t. term_cost (c t) r plan t) (λ t m. term_small t (omega arith)), w.base, w.terms.few)

    pub cost_small : nat_abs (cost c r plan) ≤ max_base + max_terms * max_coefficient
    cost_small = rw (sym cost_to_all) (cost_to_small r.terms (le_refl _))

-- the cost of a plan with the coefficients that it chooses
pub chosen_small : (r : Register) (plan : ℕ) → Within r → nat_abs (cost (chosen r plan) r plan) ≤ max_base + max_terms * max_coefficient
chosen_small r plan w = cost_small (chosen r plan) r plan w (chosen_low r w plan)
