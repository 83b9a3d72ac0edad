-- The sum at a partial plan: no full plan under it costs less, and at a full plan it is the cost.
use mathlib.Core.Path.{◌≡◌, refl, sym, ◌∙◌, ap}
use mathlib.Core.Bool.{Bool, true, false, cond}
use Prim.Native.Nat.{ℕ, ◌+◌, ◌*◌, ◌-◌, ◌^◌, ◌<◌}
use native.Mathlib.Nat.{add-zero, mod-eq_of_lt}
use native.Mathlib.Omega.{arith}
use lib.Dec.{T}
use lib.Pow.{pow_pos}
use lib.Bits.{bit_and, and_block, and_self, and_zero_r, and_comm, and_mask}
use lib.IntN.{ℤ, pos, ◌+ℤ◌}
use lib.Signed.{◌≤ℤ◌, ≤ℤ_refl}
use Rattle.integers.proofs.Sum.{sum_below_cong, sum_below_mono}
use Rattle.integers.proofs.Order.{+ℤ_mono}
use Rattle.sets.specs.Sets.{is_subset}
use Rattle.sets.proofs.Sets.{subset_is}
use Rattle.sets.proofs.Subsets.{subset_trans}
use Rattle.register.specs.declared.Register.{Register}
use Rattle.register.specs.Register.{mask}
use Rattle.plan.specs.Plan.{cost}
use Rattle.search.specs.Sum.{possible, negative, term_sum, sum}
use Rattle.search.proofs.Sums.{negative-≤}

-- a full plan under the partial plan with d choices undecided and q * 2 ^ d fed feeds the same decided choices
module _ (d q x : ℕ) (l : x < 2 ^ d) where
  pub under_fed : T (is_subset (q * 2 ^ d) (q * 2 ^ d + x))
  under_fed = (subset_is (q * 2 ^ d) (q * 2 ^ d + x)).1 (ap (bit_and (q * 2 ^ d + x)) (sym (add-zero (q * 2 ^ d))) ∙ and_block d q q x 0 l (pow_pos d) ∙ rw (and_self, and_zero_r, add-zero))

  pub under_possible : T (is_subset (q * 2 ^ d + x) (possible d (q * 2 ^ d)))
  under_possible = (subset_is _ _).1 (and_block d q q (2 ^ d - 1) x (omega (arith, pow_pos d)) l ∙ rw (and_self, and_comm (2 ^ d - 1) x, and_mask, mod-eq_of_lt l))

  pub term_bound : (c : ℤ) (m : ℕ) → term_sum c m (q * 2 ^ d) (possible d (q * 2 ^ d)) ≤ℤ cond (is_subset m (q * 2 ^ d + x)) c (pos 0)
  term_bound c m = by (is_subset m (q * 2 ^ d)) (is_subset m (possible d (q * 2 ^ d))) (is_subset m (q * 2 ^ d + x))
      (λ t. subset_trans m _ _ t under_fed) (λ t. subset_trans m _ _ t under_possible)
    where
      by : (f p g : Bool) → (T f → T g) → (T g → T p) → cond f c (cond p (negative c) (pos 0)) ≤ℤ cond g c (pos 0)
      by true p true h k = ≤ℤ_refl c
      by true p false h k = absurd (h tt)
      by false true true h k = (negative-≤ c).0
      by false true false h k = (negative-≤ c).1
      by false false true h k = absurd (k tt)
      by false false false h k = ≤ℤ_refl (pos 0)

  pub sum_bound : (c : ℕ → ℤ) (r : Register) → sum c r d (q * 2 ^ d) ≤ℤ cost c r (q * 2 ^ d + x)
  unfolding sum cost
  sum_bound c r = +ℤ_mono r.base r.base _ _ (≤ℤ_refl r.base) (sum_below_mono r.terms _ _ (λ t k. term_bound (c t) (mask r t)))

-- at a full plan it is the cost
pub sum_full : (c : ℕ → ℤ) (r : Register) (plan : ℕ) → sum c r 0 plan ≡ cost c r plan
unfolding sum cost
sum_full c r plan = rw add-zero (ap (λ s. r.base +ℤ s) (sum_below_cong r.terms _ _ (λ t l. by (is_subset (mask r t) plan) (c t))))
  where
    by : (b : Bool) (c : ℤ) → cond b c (cond b (negative c) (pos 0)) ≡ cond b c (pos 0)
    by true c = refl
    by false c = refl
