-- The numbers that are read from a table for n variables: how large they are, and that those of g's table are our certificate's.
use Prim.Native.Nat.{ℕ, suc, ◌+◌, ◌*◌, ◌/◌, ◌≤◌, ◌<◌}
use mathlib.Core.Path.{◌≡◌, sym, ◌∙◌, ap, ap₂}
use mathlib.Core.Bool.{cond}
use mathlib.Core.List.{List, ◌++◌}
use native.Mathlib.Omega.{arith}
use lib.ListN.{length}
use lib.Dec.{eqb}
use lib.IntN.{ℤ, pos, nat_abs, ◌-ℤ◌}
use Rattle.integers.specs.Integer.{neg_part, abs}
use Rattle.integers.specs.Sum.{sum_below, except}
use Rattle.integers.specs.Quadratic.{off_diagonal}
use Rattle.integers.proofs.Lists.{cond_cases}
use Rattle.integers.proofs.Join.{join_cong}
use Rattle.integers.proofs.Order.{nat_abs_sub}
use Rattle.integers.proofs.Sum.{sum_below_cong, nat_abs-sum}
use Rattle.forms.specs.Form.{place, entry}
use Rattle.forms.specs.Table.{with_table}
use Rattle.forms.proofs.Store.{place_inside, bounded_entry, bounded_weaken}
use Rattle.forms.proofs.Table.{with_table_at}
use Rattle.register.specs.Register.{coefficient}
use Rattle.register.specs.Valid as R
use Rattle.scheme.specs.Valid.{Valid}
use Rattle.penalty.proofs.Bounds.{g_norm}
use Rattle.register.specs.declared.Register.{Register}
use Rattle.scheme.specs.declared.Scheme.{Scheme}
use Rattle.scheme.specs.Scheme.{variables, side}
use Rattle.scheme.specs.Function.{g, max_g}
use Rattle.plain.specs.Plain.{half_row_sum, linear_left, unless_zero, cancelling, subtracted_constant, plain}
use Rattle.plain.specs.Encoding.{encode_with, encode_plain}
use Rattle.plain.specs.InTable.{Small, entry_in, products_in, half_in, left_in, subtracted_in, commands_in, encode_in}
use Rattle.plain.proofs.Coefficients.{row_sum_entry, linear_left-entry}
use Rattle.plain.proofs.Sizes.{max_half, max_left, max_subtracted, neg_part_small}

-- ---- how large they are

-- the sum of |coefficient of z_i z_k| over the first k ≠ i
abbrev pub row_to : ℕ → List ℤ → ℕ → ℕ → ℤ
row_to n t i j = sum_below j (except i (λ k. abs (products_in n t i k)))

-- the first multipliers of `39`
abbrev pub subtracted_to : ℕ → List ℤ → ℕ → ℤ
subtracted_to n t j = sum_below j (λ i. pos (neg_part (left_in n t i)))

module _ (n : ℕ) (t : List ℤ) (ok : Small n t) where
  pub entry_low : (i j : ℕ) → i ≤ n → j ≤ n → nat_abs (entry_in n t i j) ≤ max_g
  entry_low i j k l = ok.low.low (i * suc n + j) (place_inside (suc n) i j (omega arith) (omega arith))

  module _ (i : ℕ) (l : i < n) where
    pub row_small : (j : ℕ) → j ≤ n → nat_abs (row_to n t i j) ≤ max_g * j
    unfolding except abs
    row_small j h =
        nat_abs-sum j max_g (except i (λ k. abs (products_in n t i k)))
        (λ k m. cond_cases (λ x. nat_abs x ≤ max_g) (eqb k i) (pos 0) (abs (products_in n t i k)) (λ _. omega arith) (λ _. entry_low (place i) (place k) (omega arith) (omega arith)))

    pub half_small : half_in n t i ≤ max_half
    unfolding half_in off_diagonal
    half_small = omega (arith, row_small n (omega arith), ok.few)

    pub left_small : nat_abs (left_in n t i) ≤ max_left
    unfolding left_in
    left_small = omega (arith, nat_abs_sub (entry_in n t 0 (place i)) (pos (half_in n t i)), entry_low 0 (place i) (omega arith) (omega arith), half_small)

  pub subtracted_small : (j : ℕ) → j ≤ n → nat_abs (subtracted_to n t j) ≤ max_subtracted
  subtracted_small j h =
      omega (
        arith,
        nat_abs-sum j max_left (λ i. pos (neg_part (left_in n t i))) (λ i l. omega (arith, neg_part_small (left_in n t i), left_small i (omega arith))),
        ok.few,
      )

  pub total_small : nat_abs (subtracted_in n t) ≤ max_subtracted
  unfolding subtracted_in
  total_small = subtracted_small n (omega arith)

-- ---- the table of g

module _ (c : ℕ → ℤ) (r : Register) (s : Scheme) (t lent : List ℤ) (e : t ≡ with_table (side r.choices s) (entry (g c r s)) lent) where
  abbrev N : ℕ
  N = variables r.choices s

  pub table_small : R.Valid r → Valid r s → c ≡ coefficient r → side r.choices s * side r.choices s ≤ length lent → Small N t
  table_small register scheme same long = record {
    few = scheme.within.variables_within;
    low = rw (e, same) (bounded_weaken (bounded_entry (suc N) (g (coefficient r) r s) lent long) (omega (arith, g_norm r s register.within)));
  }

  entry_is : (i j : ℕ) → i ≤ N → j ≤ N → entry_in N t i j ≡ entry (g c r s) i j
  entry_is i j k l = rw e (with_table_at (suc N) (entry (g c r s)) lent i j (omega arith) (omega arith))

  half_is : (i : ℕ) → i < N → half_in N t i ≡ half_row_sum c r s i
  unfolding half_in half_row_sum off_diagonal except
  half_is i l = ap (λ x. (nat_abs x + 1) / 2) (same ∙ sym (row_sum_entry c r s i))
    where
      same : off_diagonal N (products_in N t) i ≡ off_diagonal N (λ j k. entry (g c r s) (place j) (place k)) i
      same = sum_below_cong N _ _ (λ j h. ap (λ x. cond (eqb j i) (pos 0) (abs x)) (entry_is (place i) (place j) (omega arith) (omega arith)))

  left_is : (i : ℕ) → i < N → left_in N t i ≡ linear_left c r s i
  unfolding left_in
  left_is i l = ap₂ (λ x y. x -ℤ pos y) (entry_is 0 (place i) (omega arith) (omega arith)) (half_is i l) ∙ sym (linear_left-entry c r s i)

  subtracted_is : subtracted_in N t ≡ subtracted_constant c r s
  unfolding subtracted_in subtracted_constant
  subtracted_is = sum_below_cong N _ _ (λ i l. ap (λ x. pos (neg_part x)) (left_is i l))

  pub commands_are : commands_in N t ≡ (plain c r s).multipliers
  unfolding plain
  commands_are =
      ap₂ ◌++◌ (join_cong N _ _ (λ i l. ap (unless_zero 0x31 i) (half_is i l))) (join_cong N _ _ (λ i l. ap (cancelling i) (left_is i l)))

  pub encode_is : encode_in N r.base t ≡ encode_plain c r s
  unfolding encode_in encode_plain plain
  encode_is = ap₂ (λ x y. encode_with 1 (r.base -ℤ x) y) subtracted_is commands_are
