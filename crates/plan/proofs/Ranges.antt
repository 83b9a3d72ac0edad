-- Costs within ranges. A plan is dearest at the coefficients that it chooses; and what it costs more than another is then the most, so a
-- plan that is cheapest at these is cheapest at all within the ranges.
use mathlib.Core.Path.{◌≡◌, refl, sym, ◌∙◌, ap}
use mathlib.Core.Bool.{Bool, true, false, cond}
use Prim.Native.Nat.{ℕ, ◌<◌}
use native.Mathlib.Omega.{arith}
use lib.IntN.{ℤ, pos, ◌+ℤ◌, ◌-ℤ◌}
use lib.Signed.{◌≤ℤ◌, ≤ℤ_refl}
use Rattle.integers.specs.Sum.{sum_below}
use Rattle.integers.proofs.Diff.{diff₂, diff₃, diffs}
use Rattle.integers.proofs.Order.{≤ℤ_trans}
use Rattle.integers.proofs.Sum.{sum_below_cong, sum_below_sub, sum_below_mono}
use Rattle.sets.specs.Sets.{is_subset}
use Rattle.register.specs.declared.Register.{Register}
use Rattle.register.specs.Register.{mask, coefficient, high}
use Rattle.plan.specs.Plan.{term_cost, cost}
use Rattle.plan.specs.Chosen.{chosen, WithinRanges}

-- coefficients that are the same cost the same
pub cost_same : (c d : ℕ → ℤ) (r : Register) → ((t : ℕ) → t < r.terms → c t ≡ d t) → (plan : ℕ) → cost c r plan ≡ cost d r plan
unfolding cost
cost_same c d r h plan = rw (sum_below_cong r.terms (λ t. term_cost (c t) r plan t) (λ t. term_cost (d t) r plan t) (λ t l. rw (h t l)))

-- what a plan chooses for the terms that it feeds is their high coefficients, and no other term adds to its cost
pub cost_high : (r : Register) (plan : ℕ) → cost (high r) r plan ≡ cost (chosen r plan) r plan
unfolding cost
cost_high r plan = ap (λ x. r.base +ℤ x) (sum_below_cong r.terms (λ t. term_cost (high r t) r plan t) (λ t. term_cost (chosen r plan t) r plan t) (λ t l. one (is_subset (mask r t) plan) (coefficient r t) (high r t)))
  where
    one : (b : Bool) (low high : ℤ) → cond b high (pos 0) ≡ cond b (cond b high low) (pos 0)
    one true low high = refl
    one false low high = refl

-- ---- two plans, term by term

difference : (c : ℕ → ℤ) (r : Register) (p q : ℕ) → cost c r p -ℤ cost c r q ≡ sum_below r.terms (λ t. term_cost (c t) r p t -ℤ term_cost (c t) r q t)
unfolding cost
difference c r p q = apart r.base (sum_below r.terms (λ t. term_cost (c t) r p t)) (sum_below r.terms (λ t. term_cost (c t) r q t)) ∙ sym (sum_below_sub r.terms (λ t. term_cost (c t) r p t) (λ t. term_cost (c t) r q t))
  where
    apart : (b x y : ℤ) → b +ℤ x -ℤ (b +ℤ y) ≡ x -ℤ y
    apart = diff₃ _ λ p q r s t u. simp diffs (omega arith)

-- one term, fed by p or not, by q or not
more : (p q : Bool) (low c high : ℤ) → low ≤ℤ c → c ≤ℤ high →
    (cond p c (pos 0) -ℤ cond q c (pos 0)) ≤ℤ (cond p (cond p high low) (pos 0) -ℤ cond q (cond p high low) (pos 0))
more true true = diff₃ _ λ p q r s t u. simp diffs (omega arith)
more true false = diff₃ _ λ p q r s t u. simp diffs (omega arith)
more false true = diff₃ _ λ p q r s t u. simp diffs (omega arith)
more false false = diff₃ _ λ p q r s t u. simp diffs (omega arith)

module _ (r : Register) (c : ℕ → ℤ) (within : WithinRanges r c) where
  -- what a plan costs more than another is the most at the coefficients that it chooses
  pub chosen_most : (p q : ℕ) → (cost c r p -ℤ cost c r q) ≤ℤ (cost (chosen r p) r p -ℤ cost (chosen r p) r q)
  chosen_most p q =
      rw (difference c r p q, difference (chosen r p) r p q)
      (sum_below_mono r.terms _ _ (λ t l. more (is_subset (mask r t) p) (is_subset (mask r t) q) (coefficient r t) (c t) (high r t) (within t l).0 (within t l).1))

  -- a plan that costs no more than q at its own coefficients costs no more at any
  pub chosen_below : (p q : ℕ) → cost (chosen r p) r p ≤ℤ cost (chosen r p) r q → cost c r p ≤ℤ cost c r q
  chosen_below p q h = from (cost c r p) (cost c r q) (≤ℤ_trans _ _ (pos 0) (chosen_most p q) (to _ _ h))
    where
      from : (a b : ℤ) → (a -ℤ b) ≤ℤ pos 0 → a ≤ℤ b
      from = diff₂ _ λ p q r s. simp diffs (omega arith)

      to : (a b : ℤ) → a ≤ℤ b → (a -ℤ b) ≤ℤ pos 0
      to = diff₂ _ λ p q r s. simp diffs (omega arith)

  added : (b x y : ℤ) → x ≤ℤ y → (b +ℤ x) ≤ℤ (b +ℤ y)
  added = diff₃ _ λ p q r s t u. simp diffs (omega arith)

  -- no plan costs more than at the coefficients that it chooses
  pub cost_most : (p : ℕ) → cost c r p ≤ℤ cost (chosen r p) r p
  unfolding cost
  cost_most p = added r.base _ _ (sum_below_mono r.terms _ _ (λ t l. one (is_subset (mask r t) p) (coefficient r t) (c t) (high r t) (within t l).1))
    where
      one : (p : Bool) (low c high : ℤ) → c ≤ℤ high → cond p c (pos 0) ≤ℤ cond p (cond p high low) (pos 0)
      one true low c high h = h
      one false low c high h = ≤ℤ_refl (pos 0)

  -- and none costs less than at the low ones
  pub cost_least : (p : ℕ) → cost (coefficient r) r p ≤ℤ cost c r p
  unfolding cost
  cost_least p = added r.base _ _ (sum_below_mono r.terms _ _ (λ t l. one (is_subset (mask r t) p) (coefficient r t) (c t) (within t l).0))
    where
      one : (p : Bool) (low c : ℤ) → low ≤ℤ c → cond p low (pos 0) ≤ℤ cond p c (pos 0)
      one true low c h = h
      one false low c h = ≤ℤ_refl (pos 0)

-- a plan whose cost is a bound below which no other is, each at the coefficients that this plan chooses, costs at most the other at any
pub gap_none : (r : Register) (p q : ℕ) (b : ℤ) → b ≡ cost (chosen r p) r p → b ≤ℤ cost (chosen r p) r q → (c : ℕ → ℤ) → WithinRanges r c → cost c r p ≤ℤ cost c r q
gap_none r p q b e h c within = chosen_below r c within p q (rw e at h)
