-- What the multipliers of our own certificate change in the table, and the table of its B.
use Prim.Native.Nat.{ℕ, suc}
use mathlib.Core.Path.{◌≡◌, sym, ◌∙◌, ap, ap₂}
use mathlib.Core.List.{[], ◌∷◌}
use lib.Dec.{eqb, eqb→eq}
use lib.IntN.{ℤ, pos, negsuc, neg_ℤ, ◌+ℤ◌, ◌-ℤ◌, ◌*ℤ◌, zero-*ℤ, +ℤ_idr}
use Rattle.integers.specs.Integer.{neg_part}
use Rattle.integers.specs.Lists.{join_below}
use Rattle.integers.specs.Sum.{sum_below, sum_over}
use Rattle.integers.proofs.Lists.{cond_cases}
use Rattle.integers.proofs.Ring.{one_*ℤ}
use Rattle.integers.proofs.Solver.{quote, atoms, ring}
use Rattle.integers.proofs.Sum.{sum_below_cong, sum_below-+, sum_below_sub, sum_below-*ʳ, sum_over-append, sum_over_join}
use Rattle.forms.specs.Form.{place, entry}
use Rattle.forms.proofs.Form.{unit, entry-single, entry_difference}
use Rattle.register.specs.declared.Register.{Register}
use Rattle.scheme.specs.declared.Scheme.{Scheme}
use Rattle.scheme.specs.Scheme.{variables}
use Rattle.scheme.specs.Function.{g}
use Rattle.certificate.specs.Certificate.{Multiplier}
use Rattle.certificate.specs.Rules.{by_key, rule_of}
use Rattle.residual.specs.Residual.{shifted}
use Rattle.residual.proofs.Table.{signed, signed_form, entry_signed_form, entry-B}
use Rattle.certificate.proofs.Commands.{command}
use Rattle.plain.proofs.Coefficients.{linear_left-entry}
use Rattle.plain.specs.Plain.{half_row_sum, linear_left, unless_zero, cancelling, subtracted_constant, plain}

module _ (c : ℕ → ℤ) (r : Register) (s : Scheme) (i j : ℕ) where
  abbrev n : ℕ
  n = r.choices

  abbrev N : ℕ
  N = variables n s

  -- what a command changes at (i, j)
  abbrev change : Multiplier → ℤ
  change t = entry (signed_form r s t) i j

  square : ℕ → ℤ
  square v = unit (place v) (place v) i j

  linear : ℕ → ℤ
  linear v = unit 0 (place v) i j

  constant : ℤ
  constant = unit 0 0 i j

  sum_over-unless_zero : (kind v m : ℕ) (a x : ℤ) → (m ≡ 0 → a ≡ pos 0) → change (command kind v m) ≡ a *ℤ x → sum_over (unless_zero kind v m) change ≡ a *ℤ x
  unfolding unless_zero sum_over
  sum_over-unless_zero kind v m a x h e =
      cond_cases (λ l. sum_over l change ≡ a *ℤ x) (eqb m 0) [] (command kind v m ∷ [])
      (λ t. rw (h (eqb→eq m 0 t)) (sym (zero-*ℤ x)))
      (λ _. +ℤ_idr _ ∙ e)

  change_31 : (v m : ℕ) → sum_over (unless_zero 0x31 v m) change ≡ pos m *ℤ (square v -ℤ linear v)
  unfolding signed rule_of by_key square linear
  change_31 v m =
      sum_over-unless_zero 0x31 v m (pos m) (square v -ℤ linear v) (λ e. rw e)
      (entry_signed_form r s (command 0x31 v m) i j ∙ ap (λ x. pos m *ℤ x) (entry_difference (place v) (place v) 0 (place v) i j))

  change_38 : (v m : ℕ) → sum_over (unless_zero 0x38 v m) change ≡ neg_ℤ (pos m) *ℤ linear v
  unfolding signed rule_of by_key linear
  change_38 v m =
      sum_over-unless_zero 0x38 v m (neg_ℤ (pos m)) _ (λ e. rw e)
      (entry_signed_form r s (command 0x38 v m) i j ∙ ap (λ x. neg_ℤ (pos m) *ℤ x) (entry-single 0 (place v) (pos 1) i j ∙ one_*ℤ _))

  change_39 : (v m : ℕ) → sum_over (unless_zero 0x39 v m) change ≡ neg_ℤ (pos m) *ℤ (constant -ℤ linear v)
  unfolding signed rule_of by_key linear constant
  change_39 v m =
      sum_over-unless_zero 0x39 v m (neg_ℤ (pos m)) _ (λ e. rw e)
      (entry_signed_form r s (command 0x39 v m) i j ∙ ap (λ x. neg_ℤ (pos m) *ℤ x) (entry_difference 0 0 0 (place v) i j))

  change_cancelling : (v : ℕ) (b : ℤ) → sum_over (cancelling v b) change ≡ neg_ℤ b *ℤ linear v -ℤ pos (neg_part b) *ℤ constant
  unfolding cancelling
  change_cancelling v (pos m) = change_38 v m ∙ go (neg_ℤ (pos m) *ℤ linear v) constant
    where
      go : (u k : ℤ) → u ≡ u -ℤ pos 0 *ℤ k
      go u k = atoms (u ∷ k ∷ []) λ ρ u k. simp (u, k, quote, ρ) (ring _ _ _ tt)
  change_cancelling v (negsuc m) = change_39 v (suc m) ∙ go (pos (suc m)) (linear v) constant
    where
      go : (u l k : ℤ) → neg_ℤ u *ℤ (k -ℤ l) ≡ u *ℤ l -ℤ u *ℤ k
      go u l k = atoms (u ∷ l ∷ k ∷ []) λ ρ u l k. simp (u, l, k, quote) (ring _ _ _ tt)

  -- what the table of B has besides that of g, but for the constant
  unfoldable pub added : ℕ → ℤ
  added v = pos (half_row_sum c r s v) *ℤ unit (place v) (place v) i j -ℤ entry (g c r s) 0 (place v) *ℤ unit 0 (place v) i j

  changes : sum_over (plain c r s).multipliers change ≡ sum_below N added -ℤ subtracted_constant c r s *ℤ constant
  unfolding plain added subtracted_constant square linear
  changes =
      sum_over-append (join_below N (λ v. unless_zero 0x31 v (half_row_sum c r s v))) _ _
      ∙ ap₂ ◌+ℤ◌ (sum_over_join _ N _) (sum_over_join _ N _)
      ∙ sym (sum_below-+ N _ _)
      ∙ sum_below_cong N _ _
      (λ v h. ap₂ ◌+ℤ◌ (change_31 v (half_row_sum c r s v)) (change_cancelling v (linear_left c r s v))
      ∙ ap (λ x. pos (half_row_sum c r s v) *ℤ (square v -ℤ linear v) +ℤ (neg_ℤ x *ℤ linear v -ℤ pos (neg_part (linear_left c r s v)) *ℤ constant)) (linear_left-entry c r s v)
      ∙ regroup (pos (half_row_sum c r s v)) (square v) (linear v) (entry (g c r s) 0 (place v)) (pos (neg_part (linear_left c r s v))) constant)
      ∙ sum_below_sub N added (λ v. pos (neg_part (linear_left c r s v)) *ℤ constant)
      ∙ ap (λ x. sum_below N added -ℤ x) (sum_below-*ʳ N constant _)
    where
      regroup : (k s l g n c : ℤ) → k *ℤ (s -ℤ l) +ℤ (neg_ℤ (g -ℤ k) *ℤ l -ℤ n *ℤ c) ≡ k *ℤ s -ℤ g *ℤ l -ℤ n *ℤ c
      regroup k s l g n c = atoms (k ∷ s ∷ l ∷ g ∷ n ∷ c ∷ []) λ ρ k s l g n c. simp (k, s, l, g, n, c, quote) (ring _ _ _ tt)

  pub entry-plain : entry (shifted c r s (plain c r s)) i j ≡ entry (g c r s) i j +ℤ sum_below N added -ℤ r.base *ℤ unit 0 0 i j
  unfolding plain constant
  entry-plain =
      entry-B c r s (plain c r s) i j
      ∙ ap₂ (λ x y. pos 1 *ℤ entry (g c r s) i j +ℤ x +ℤ y) changes (entry-single 0 0 (neg_ℤ (r.base -ℤ subtracted_constant c r s)) i j)
      ∙ regroup (entry (g c r s) i j) (sum_below N added) (subtracted_constant c r s) r.base (unit 0 0 i j)
    where
      regroup : (g x t b c : ℤ) → pos 1 *ℤ g +ℤ (x -ℤ t *ℤ c) +ℤ neg_ℤ (b -ℤ t) *ℤ c ≡ g +ℤ x -ℤ b *ℤ c
      regroup g x t b c = atoms (g ∷ x ∷ t ∷ b ∷ c ∷ []) λ ρ g x t b c. simp (g, x, t, b, c, quote, ρ) (ring _ _ _ tt)
