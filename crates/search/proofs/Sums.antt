-- The sum at a partial plan and its changes, term by term, and how large they become.
use mathlib.Core.Path.{◌≡◌, refl, sym, subst}
use mathlib.Core.Bool.{Bool, true, false, cond}
use mathlib.Core.List.{List}
use Prim.Native.Nat.{ℕ, suc, ◌+◌, ◌*◌, ◌≤◌, ◌<◌}
use native.Mathlib.Numerals.{add-one}
use native.Mathlib.Omega.{arith}
use lib.ListN.{get_or}
use lib.IntN.{ℤ, pos, negsuc, nat_abs, ◌+ℤ◌, +ℤ_assoc, +ℤ_idr}
use lib.Signed.{◌≤ℤ◌, ≤ℤ_refl}
use Rattle.integers.specs.Sum.{sum_below}
use Rattle.integers.proofs.Parts.{orders}
use Rattle.integers.proofs.Sum.{sum_below-zero, sum_below-suc, nat_abs-sum}
use Rattle.integers.proofs.Order.{nat_abs-+}
use Rattle.sets.specs.Sets.{is_subset}
use Rattle.register.specs.Limits.{max_base, max_terms, max_coefficient}
use Rattle.search.specs.Sum.{negative, term_sum}
use Rattle.register.specs.declared.Register.{Register}
use Rattle.register.specs.Register.{coefficient}
use Rattle.register.specs.Valid.{Within}
use native.Mathlib.Decide.{dec_lt}
use Rattle.search.specs.Lent.{Terms, terms_in, mask_of, coefficient_of, Small, sum_to, positive, term_lost, term_gained, change_to}

-- ---- a coefficient by its sign

positive_small : (c : ℤ) → nat_abs (positive c) ≤ nat_abs c
positive_small (pos c) = omega arith
positive_small (negsuc c) = omega arith

negative_small : (c : ℤ) → nat_abs (negative c) ≤ nat_abs c
negative_small (pos c) = omega arith
negative_small (negsuc c) = omega arith

pub negative-≤ : (c : ℤ) → (negative c ≤ℤ c) × (negative c ≤ℤ pos 0)
negative-≤ (pos c) = (omega (arith, orders), omega (arith, orders))
negative-≤ (negsuc c) = (≤ℤ_refl (negsuc c), omega (arith, orders))

-- ---- what one term adds, loses or gains is no more than its coefficient

chosen_small : (b : Bool) (x c : ℤ) → nat_abs x ≤ nat_abs c → nat_abs (cond b x (pos 0)) ≤ nat_abs c
chosen_small true x c h = h
chosen_small false x c h = omega arith

pub lost_small : (c : ℤ) (m possible : ℕ) → nat_abs (term_lost c m possible) ≤ nat_abs c
lost_small c m possible = chosen_small (is_subset m possible) (negative c) c (negative_small c)

pub gained_small : (c : ℤ) (m fed : ℕ) → nat_abs (term_gained c m fed) ≤ nat_abs c
gained_small c m fed = chosen_small (is_subset m fed) (positive c) c (positive_small c)

-- a term that is not wholly decided fed adds what it can lose
term_split : (c : ℤ) (m fed possible : ℕ) → term_sum c m fed possible ≡ cond (is_subset m fed) c (term_lost c m possible)
term_split c m fed possible = refl

term_small : (c : ℤ) (m fed possible : ℕ) → nat_abs (term_sum c m fed possible) ≤ nat_abs c
term_small c m fed possible = subst (λ x. nat_abs x ≤ nat_abs c) (sym (term_split c m fed possible)) (by (is_subset m fed))
  where
    by : (b : Bool) → nat_abs (cond b c (term_lost c m possible)) ≤ nat_abs c
    by true = omega arith
    by false = lost_small c m possible

-- ---- the sum

module _ (base : ℤ) (r : Terms) (fed possible : ℕ) where
  pub sum_to-zero : sum_to base r 0 fed possible ≡ base
  unfolding sum_to
  sum_to-zero = rw sum_below-zero (+ℤ_idr base)

  pub sum_to-suc : (i : ℕ) → sum_to base r (suc i) fed possible ≡ sum_to base r i fed possible +ℤ term_sum (coefficient_of r i) (mask_of r i) fed possible
  unfolding sum_to
  sum_to-suc i = rw sum_below-suc (sym (+ℤ_assoc base _ _))

  pub sum_to-next : (i : ℕ) → sum_to base r (i + 1) fed possible ≡ sum_to base r i fed possible +ℤ term_sum (coefficient_of r i) (mask_of r i) fed possible
  sum_to-next i = rw add-one (sum_to-suc i)

  pub sum_to_small : nat_abs base ≤ max_base → Small r → (i : ℕ) → i ≤ r.count → nat_abs (sum_to base r i fed possible) ≤ max_base + max_terms * max_coefficient
  unfolding sum_to
  sum_to_small b w i l = omega (arith, nat_abs-+ base (sum_below i f), nat_abs-sum i max_coefficient f (λ t m. each t), w.count_within)
    where
      f : ℕ → ℤ
      f t = term_sum (coefficient_of r t) (mask_of r t) fed possible

      each : (t : ℕ) → nat_abs (f t) ≤ max_coefficient
      each t = omega (arith, term_small (coefficient_of r t) (mask_of r t) fed possible, w.coefficients_within t)

-- ---- the terms of a register

pub within_small : (r : Register) → Within r → Small (terms_in r)
within_small r w = record { count_within = w.terms.few; coefficients_within = λ t. go t (dec_lt t r.terms) }
  where
    go : (t : ℕ) → Dec (t < r.terms) → nat_abs (coefficient r t) ≤ max_coefficient
    go t (yes l) = (w.terms.each t l).coefficient_within
    go t (no l) = rw (w.terms.coefficients.rest t (omega arith)) (omega arith)

-- ---- a change, place by place

module _ (adds : ℤ → ℕ → ℕ → ℤ) (masks : List ℕ) (coefficients : List ℤ) (from set : ℕ) where
  pub change_to-zero : change_to adds masks coefficients from set 0 ≡ pos 0
  unfolding change_to
  change_to-zero = sum_below-zero _

  pub change_to-suc : (i : ℕ) → change_to adds masks coefficients from set (suc i)
      ≡ change_to adds masks coefficients from set i +ℤ adds (get_or coefficients (from + i) (pos 0)) (get_or masks (from + i) 0) set
  unfolding change_to
  change_to-suc i = sum_below-suc i _

  pub change_to-next : (i : ℕ) → change_to adds masks coefficients from set (i + 1)
      ≡ change_to adds masks coefficients from set i +ℤ adds (get_or coefficients (from + i) (pos 0)) (get_or masks (from + i) 0) set
  change_to-next i = rw add-one (change_to-suc i)

  pub change_to_small : ((c : ℤ) (m s : ℕ) → nat_abs (adds c m s) ≤ nat_abs c) → (count : ℕ) → ((j : ℕ) → j < count → nat_abs (get_or coefficients (from + j) (pos 0)) ≤ max_coefficient) →
      (i : ℕ) → i ≤ count → nat_abs (change_to adds masks coefficients from set i) ≤ max_coefficient * i
  unfolding change_to
  change_to_small small count h i m =
      nat_abs-sum i max_coefficient _ (λ j l. omega (arith, small (get_or coefficients (from + j) (pos 0)) (get_or masks (from + j) 0) set, h j (omega arith)))
