-- The coefficients of g by the entries of its table.
use mathlib.Core.Path.{◌≡◌, sym, ◌∙◌, ap}
use Prim.Native.Nat.{ℕ}
use native.Mathlib.Decide.{ℕ_discrete}
use native.Mathlib.Omega.{arith}
use lib.IntN.{ℤ, pos, ◌-ℤ◌}
use Rattle.integers.specs.Integer.{abs}
use Rattle.integers.specs.Sum.{except}
use Rattle.integers.specs.Quadratic.{off_diagonal}
use Rattle.integers.proofs.Sum.{sum_below_cong, except_same, except_other}
use Rattle.forms.specs.Form.{place, entry, coefficient_of}
use Rattle.forms.proofs.Form.{entry_beside}
use Rattle.register.specs.declared.Register.{Register}
use Rattle.scheme.specs.declared.Scheme.{Scheme}
use Rattle.scheme.specs.Scheme.{variables}
use Rattle.scheme.specs.Function.{g}
use Rattle.plain.specs.Plain.{half_row_sum, linear_left}

module _ (c : ℕ → ℤ) (r : Register) (s : Scheme) where
  pub row_sum_entry : (i : ℕ) → off_diagonal (variables r.choices s) (λ j k. coefficient_of (g c r s) (place j) (place k)) i
      ≡ off_diagonal (variables r.choices s) (λ j k. entry (g c r s) (place j) (place k)) i
  unfolding off_diagonal
  row_sum_entry i = sum_below_cong (variables r.choices s) _ _ (λ j l. same j (ℕ_discrete j i))
    where
      same : (j : ℕ) → Dec (j ≡ i) → except i (λ k. abs (coefficient_of (g c r s) (place i) (place k))) j ≡ except i (λ k. abs (entry (g c r s) (place i) (place k))) j
      same j (yes e) = rw e (except_same i _ ∙ sym (except_same i _))
      same j (no d) =
          except_other i _ j d
          ∙ ap abs (sym (entry_beside (g c r s) (place i) (place j) (λ e. d (omega arith))))
          ∙ sym (except_other i _ j d)

  pub linear_left-entry : (i : ℕ) → linear_left c r s i ≡ entry (g c r s) 0 (place i) -ℤ pos (half_row_sum c r s i)
  unfolding linear_left
  linear_left-entry i = ap (λ x. x -ℤ pos (half_row_sum c r s i)) (sym (entry_beside (g c r s) 0 (place i) (λ e. omega arith)))
