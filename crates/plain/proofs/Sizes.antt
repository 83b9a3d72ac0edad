-- The numbers of our own certificate are within their limits, for N within its limit.
use Prim.Native.Nat.{ℕ, ◌+◌, ◌*◌, ◌/◌, ◌≤◌}
use native.Mathlib.Omega.{arith}
use lib.IntN.{ℤ, pos, negsuc, nat_abs}
use Rattle.integers.specs.Integer.{neg_part}
use Rattle.integers.proofs.Order.{nat_abs_sub}
use Rattle.integers.proofs.Sum.{nat_abs-sum}
use Rattle.forms.specs.Form.{place, entry}
use Rattle.forms.proofs.Store.{entry_small}
use Rattle.register.specs.declared.Register.{Register}
use Rattle.scheme.specs.declared.Scheme.{Scheme}
use Rattle.scheme.specs.Scheme.{max_variables, variables}
use Rattle.scheme.specs.Function.{g, max_g}
use Rattle.integers.proofs.Gerschgorin.{off_diagonal_small}
use Rattle.residual.proofs.Bounds.{Small, norm1_g_within}
use Rattle.plain.proofs.Coefficients.{row_sum_entry, linear_left-entry}
use Rattle.plain.specs.Plain.{half_row_sum, linear_left, subtracted_constant}

-- half the sum of a row, what is left of a linear coefficient, and the sum of such, are at most these

abbrev pub max_half : ℕ
max_half = max_variables * max_g / 2

abbrev pub max_left : ℕ
max_left = max_g + max_half

abbrev pub max_subtracted : ℕ
max_subtracted = max_variables * max_left

pub neg_part_small : (x : ℤ) → neg_part x ≤ nat_abs x
neg_part_small (pos m) = omega arith
neg_part_small (negsuc m) = omega arith

module _ (c : ℕ → ℤ) (r : Register) (s : Scheme) (low : Small c r) (few : variables r.choices s ≤ max_variables) where
  abbrev n : ℕ
  n = r.choices

  abbrev N : ℕ
  N = variables n s

  entry-g_small : (i j : ℕ) → nat_abs (entry (g c r s) i j) ≤ max_g
  entry-g_small i j = omega (arith, entry_small (g c r s) i j, norm1_g_within c r s low)

  pub half_row_sum_small : (i : ℕ) → half_row_sum c r s i ≤ max_half
  unfolding half_row_sum
  half_row_sum_small i =
      rw (row_sum_entry c r s i) (omega (arith, off_diagonal_small N max_g (λ i j. entry (g c r s) (place i) (place j)) i (λ j _. entry-g_small (place i) (place j))))

  pub linear_left_small : (i : ℕ) → nat_abs (linear_left c r s i) ≤ max_left
  linear_left_small i =
      rw (linear_left-entry c r s i) (omega (arith, nat_abs_sub (entry (g c r s) 0 (place i)) (pos (half_row_sum c r s i)), entry-g_small 0 (place i), half_row_sum_small i))

  pub subtracted_constant_small : nat_abs (subtracted_constant c r s) ≤ max_subtracted
  unfolding subtracted_constant
  subtracted_constant_small =
      omega (arith, nat_abs-sum N max_left (λ i. pos (neg_part (linear_left c r s i))) (λ i _. omega (arith, neg_part_small (linear_left c r s i), linear_left_small i)))
