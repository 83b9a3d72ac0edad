-- How the sum changes when one more choice is decided: only by the terms that are listed under it.
use mathlib.Core.Path.{◌≡◌, refl, sym, ◌∙◌, ap}
use mathlib.Core.Bool.{Bool, true, false, cond, ◌&&◌, ◌||◌}
use Prim.Native.Nat.{ℕ, suc, ◌+◌, ◌*◌, ◌-◌, ◌%◌, ◌^◌, ◌<◌}
use native.Mathlib.Nat.{pow-suc, add-zero}
use native.Mathlib.Omega.{arith}
use lib.Arith.{digits_div}
use lib.Dec.{T}
use lib.Pow.{pow_pos}
use lib.Bits.{bit_or, or_shifted, or_shifted_r, or_block, or_zero_r}
use lib.IntN.{ℤ, pos, negsuc, ◌+ℤ◌, +ℤ_assoc, +ℤ_idr, +ℤ_idl}
use lib.Signed.{lt_z}
use borrow.Author.Tests.{eq-eqb}
use Rattle.integers.specs.Sum.{sum_below}
use Rattle.integers.proofs.Sum.{sum_below_cong, sum_below-+}
use Rattle.integers.proofs.Lists.{T_true, flag}
use Rattle.sets.specs.Sets.{is_member, is_subset}
use Rattle.sets.proofs.Subsets.{subset_trans, subset_more, subset_without, subset_from}
use Rattle.search.specs.Sum.{possible, negative, term_sum}
use Rattle.search.specs.Lent.{Terms, mask_of, coefficient_of, sum_to, lent_sum, is_listed, positive, term_lost, term_gained}
use Rattle.search.proofs.Bound.{under_fed}

-- ---- choice k decided, where those from k + 1 up are decided and q * 2 ^ (k + 1) are fed

module _ (k q : ℕ) where
  abbrev F : ℕ
  F = q * 2 ^ suc k

  twice : F ≡ 2 * q * 2 ^ k
  twice = rw (pow-suc 2 k) (omega arith)

  odd : (2 * q + 1) * 2 ^ k ≡ F + 2 ^ k
  odd = rw (pow-suc 2 k) (omega arith)

  even : 2 * q % 2 ≡ 0
  even = omega arith

  without : (x : ℕ) → x < 2 ^ k → is_member k (F + x) ≡ false
  unfolding is_member
  without x l = rw (twice, digits_div (2 * q) l, even)

  without_fed : is_member k F ≡ false
  without_fed = rw (add-zero F) at (without 0 (pow_pos k))

  with_fed : bit_or F (2 ^ k) ≡ F + 2 ^ k
  with_fed = or_shifted q (suc k) (2 ^ k) (omega (arith, pow-suc 2 k, pow_pos k))

  with_possible : bit_or (possible k F) (2 ^ k) ≡ possible (suc k) F
  with_possible =
      let z : 0 * 2 ^ suc k + 2 ^ k ≡ 2 ^ k = omega arith in
      let o : 1 * 2 ^ k ≡ 2 ^ k = omega arith in
      let h : bit_or (2 ^ k - 1) (2 ^ k) ≡ 2 ^ k + (2 ^ k - 1) = rw o at (or_shifted_r 1 k (2 ^ k - 1) (omega (arith, pow_pos k))) in
      rw (z, or_zero_r, h) at (or_block (suc k) q 0 (2 ^ k - 1) (2 ^ k) (omega (arith, pow-suc 2 k, pow_pos k)) (omega (arith, pow-suc 2 k, pow_pos k)))
      ∙ omega (arith, pow-suc 2 k, pow_pos k)

  -- what a term with choice k loses by choice k unfed, and gains by it fed

  unfed_term : (c : ℤ) (m : ℕ) → term_sum c m F (possible k F) +ℤ cond (is_member k m) (term_lost c m (possible (suc k) F)) (pos 0) ≡ term_sum c m F (possible (suc k) F)
  unfed_term c m = flag (is_member k m)
      (λ e. rw (e, subset_without m F k e without_fed, subset_without m (possible k F) k e (without (2 ^ k - 1) (omega (arith, pow_pos k)))) (+ℤ_idl _))
      (λ e. rw (e, ← with_possible, subset_more m (possible k F) k e) (+ℤ_idr _))

  fed_term : (c : ℤ) (m : ℕ) → term_sum c m F (possible (suc k) F) +ℤ cond (is_member k m) (term_gained c m (F + 2 ^ k)) (pos 0) ≡ term_sum c m (F + 2 ^ k) (possible k (F + 2 ^ k))
  fed_term c m =
      rw same (flag (is_member k m)
      (λ e. rw (e, subset_without m F k e without_fed) (by (is_subset m (F + 2 ^ k)) (is_subset m (possible (suc k) F)) c (λ t. subset_trans m _ _ t inside)))
      (λ e. rw (e, ← with_fed, subset_more m F k e) (+ℤ_idr _)))
    where
      same : possible k (F + 2 ^ k) ≡ possible (suc k) F
      same = omega (arith, pow-suc 2 k, pow_pos k)

      inside : T (is_subset (F + 2 ^ k) (possible (suc k) F))
      inside = rw (odd, same) at (under_fed k (2 * q + 1) (2 ^ k - 1) (omega (arith, pow_pos k)))

      parts : (c : ℤ) → negative c +ℤ positive c ≡ c
      parts (pos c) = +ℤ_idl (pos c)
      parts (negsuc c) = +ℤ_idr (negsuc c)

      by : (f p : Bool) (c : ℤ) → (T f → T p) → cond p (negative c) (pos 0) +ℤ cond f (positive c) (pos 0) ≡ cond f c (cond p (negative c) (pos 0))
      by true true c h = parts c
      by true false c h = absurd (h tt)
      by false p c h = +ℤ_idr _

  -- a term that is not listed under k has nothing to lose or to gain there

  none : (b s : Bool) → cond b (cond s (pos 0) (pos 0)) (pos 0) ≡ pos 0
  none true true = refl
  none true false = refl
  none false s = refl

  listed_lost : (c : ℤ) (m : ℕ) → cond (is_listed k m c) (term_lost c m (possible (suc k) F)) (pos 0) ≡ cond (is_member k m) (term_lost c m (possible (suc k) F)) (pos 0)
  unfolding is_listed
  listed_lost (pos n) m = none (is_listed k m (pos n)) (is_subset m (possible (suc k) F)) ∙ sym (none (is_member k m) (is_subset m (possible (suc k) F)))
  listed_lost (negsuc n) m = by (is_member k m)
    where
      by : (b : Bool) → cond (b && true) (term_lost (negsuc n) m (possible (suc k) F)) (pos 0) ≡ cond b (term_lost (negsuc n) m (possible (suc k) F)) (pos 0)
      by true = refl
      by false = refl

  listed_gained : (c : ℤ) (m : ℕ) → cond (is_listed k m c) (term_gained c m (F + 2 ^ k)) (pos 0) ≡ cond (is_member k m) (term_gained c m (F + 2 ^ k)) (pos 0)
  unfolding is_listed
  listed_gained (negsuc n) m = none (is_listed k m (negsuc n)) (is_subset m (F + 2 ^ k)) ∙ sym (none (is_member k m) (is_subset m (F + 2 ^ k)))
  listed_gained (pos n) m = flag (is_subset m (F + 2 ^ k))
      (λ e. rw (eq-eqb _ _ (lowest ((T_true _).1 e))) (by (is_member k m) (lt_z (pos n) (pos 0)) (term_gained (pos n) m (F + 2 ^ k))))
      (λ e. rw e (none (is_listed k m (pos n)) false ∙ sym (none (is_member k m) false)))
    where
      lowest : T (is_subset m (F + 2 ^ k)) → m % 2 ^ k ≡ 0
      lowest t = subset_from m (2 * q + 1) k (rw odd t)

      by : (b x : Bool) (y : ℤ) → cond (b && (x || true)) y (pos 0) ≡ cond b y (pos 0)
      by true true y = refl
      by true false y = refl
      by false x y = refl

  -- and so the sum

  module _ (base : ℤ) (r : Terms) where
    -- what the listed terms add to the change
    abbrev pub listed_sum : (ℤ → ℕ → ℕ → ℤ) → ℕ → ℤ
    listed_sum adds set = sum_below r.count (λ t. cond (is_listed k (mask_of r t) (coefficient_of r t)) (adds (coefficient_of r t) (mask_of r t) set) (pos 0))

    pub unfed_sum : lent_sum base r k F +ℤ listed_sum term_lost (possible (suc k) F) ≡ lent_sum base r (suc k) F
    unfolding sum_to
    unfed_sum =
        +ℤ_assoc base _ _
        ∙ ap (λ x. base +ℤ x) (sym (sum_below-+ r.count _ _) ∙ sum_below_cong r.count _ _ (λ t l. rw (listed_lost (coefficient_of r t) (mask_of r t)) (unfed_term (coefficient_of r t) (mask_of r t))))

    pub fed_sum : lent_sum base r (suc k) F +ℤ listed_sum term_gained (F + 2 ^ k) ≡ lent_sum base r k (F + 2 ^ k)
    unfolding sum_to
    fed_sum =
        +ℤ_assoc base _ _
        ∙ ap (λ x. base +ℤ x) (sym (sum_below-+ r.count _ _) ∙ sum_below_cong r.count _ _ (λ t l. rw (listed_gained (coefficient_of r t) (mask_of r t)) (fed_term (coefficient_of r t) (mask_of r t))))
