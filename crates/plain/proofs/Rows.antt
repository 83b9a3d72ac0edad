-- The rows of our own R, which is B, hold: it carries its target.
use Prim.Native.Nat.{ℕ, zero, suc, ◌+◌, ◌*◌, ◌/◌, ◌<◌}
use mathlib.Core.Path.{◌≡◌, sym, ◌∙◌, ap, ap₂, fun_ext}
use native.Mathlib.Omega.{arith}
use native.Mathlib.Decide.{ℕ_discrete}
use lib.IntN.{ℤ, pos, negsuc, nat_abs, ◌+ℤ◌, ◌*ℤ◌, +ℤ_idl, +ℤ_idr}
use lib.Signed.{◌≤ℤ◌, ≤ℤ_refl}
use Rattle.integers.specs.Integer.{abs}
use Rattle.integers.specs.Sum.{sum_over, except}
use Rattle.integers.specs.Quadratic.{off_diagonal}
use Rattle.integers.proofs.Order.{pos_mono}
use Rattle.integers.proofs.Sum.{sum_below_0, sum_below_cong, sum_below_first, except_same, except_other}
use Rattle.forms.specs.Form.{place, entry}
use Rattle.register.specs.declared.Register.{Register}
use Rattle.scheme.specs.declared.Scheme.{Scheme}
use Rattle.scheme.specs.Scheme.{variables}
use Rattle.scheme.specs.Function.{g}
use Rattle.residual.specs.Residual.{shifted, R}
use Rattle.bound.specs.Valid.{Carries}
use Rattle.plain.proofs.Coefficients.{row_sum_entry}
use Rattle.integers.proofs.Gerschgorin.{off_diagonal_nonneg}
use Rattle.plain.specs.Plain.{half_row_sum, plain}
use Rattle.plain.proofs.Entries.{plain_constant, plain_row_0, plain_column_0, plain_product, plain_square}

module _ (c : ℕ → ℤ) (r : Register) (s : Scheme) where
  abbrev N : ℕ
  N = variables r.choices s

  abbrev ours : ℕ → ℕ → ℤ
  ours = entry (shifted c r s (plain c r s))

  row_0 : off_diagonal (suc N) ours 0 ≤ℤ ours 0 0
  unfolding off_diagonal abs
  row_0 = rw (sum_below_cong (suc N) _ _ nothing, sum_below_0 (suc N), plain_constant c r s) (≤ℤ_refl (pos 0))
    where
      nothing : (j : ℕ) → j < suc N → except 0 (λ j. abs (ours 0 j)) j ≡ pos 0
      nothing zero h = except_same 0 _
      nothing (suc j) h = except_other 0 _ (suc j) (λ e. omega arith) ∙ ap abs (plain_row_0 c r s (suc j) h)

  products : ℕ → ℕ → ℤ
  products i j = entry (g c r s) (place i) (place j)

  row_products : (i : ℕ) → i < N → off_diagonal (suc N) ours (place i) ≡ off_diagonal N products i
  unfolding off_diagonal abs products
  row_products i h =
      sum_below_first N _
      ∙ ap₂ ◌+ℤ◌
      (except_other (place i) _ 0 (λ e. omega arith) ∙ ap abs (plain_column_0 c r s (place i) (omega arith)))
      (sum_below_cong N _ _ (λ j k. others j (ℕ_discrete j i)))
      ∙ +ℤ_idl _
    where
      others : (j : ℕ) → Dec (j ≡ i) → except (place i) (λ j. abs (ours (place i) j)) (place j) ≡ except i (λ j. abs (entry (g c r s) (place i) (place j))) j
      others j (yes e) = rw e (except_same (place i) _ ∙ sym (except_same i _))
      others j (no d) = except_other (place i) _ (place j) (λ e. d (omega arith)) ∙ ap abs (plain_product c r s i j d) ∙ sym (except_other i _ j d)

  row_variable : (i : ℕ) → i < N → off_diagonal (suc N) ours (place i) ≤ℤ ours (place i) (place i)
  unfolding half_row_sum products
  row_variable i h = rw (row_products i h, plain_square c r s i h, row_sum_entry c r s i) (half_up (off_diagonal N products i) (off_diagonal_nonneg N products i))
    where
      half_up : (x : ℤ) → pos 0 ≤ℤ x → x ≤ℤ (pos 2 *ℤ pos ((nat_abs x + 1) / 2))
      half_up (pos n) k = pos_mono n (2 * ((n + 1) / 2)) (omega arith)
      half_up (negsuc n) k = absurd k.le

  -- there are no squares
  pub plain-R : R c r s (plain c r s) ≡ ours
  unfolding R plain sum_over
  plain-R = fun_ext λ i. fun_ext λ j. +ℤ_idr (ours i j)

  pub plain-carries : Carries c r s (plain c r s)
  plain-carries = rw plain-R go
    where
      go : (i : ℕ) → i < suc N → off_diagonal (suc N) ours i ≤ℤ ours i i
      go zero h = row_0
      go (suc i) h = row_variable i (omega arith)
