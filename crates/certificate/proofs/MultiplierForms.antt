-- The forms of `31` to `39` in the paper's words: their values at a list z of whole numbers, one for each variable.
use Prim.Native.Nat.{ℕ}
use native.Mathlib.Omega.{arith}
use mathlib.Core.Path.{◌≡◌, refl}
use mathlib.Core.Bool.{Bool, true, false}
use mathlib.Core.List.{List, [], ◌∷◌}
use lib.IntN.{ℤ, pos, negsuc, ◌+ℤ◌, ◌-ℤ◌, ◌*ℤ◌}
use Rattle.integers.specs.Sum.{sum_over}
use Rattle.integers.proofs.Diff.{diff₁, diff₂, diff₃, diffs}
use Rattle.integers.proofs.Solver.{quote, atoms, ring}
use Rattle.forms.specs.Form.{places, value}
use Rattle.register.specs.declared.Register.{Register}
use Rattle.scheme.specs.declared.Scheme.{Scheme}
use Rattle.scheme.specs.Scheme.{left, right}
use Rattle.certificate.specs.Rules.{by_key, rule_of}

-- ---- forms of three or four numbers, with 1 for the constant

products : (a b c d : ℤ) → pos 1 *ℤ a *ℤ b +ℤ (negsuc 0 *ℤ c *ℤ d +ℤ pos 0) ≡ a *ℤ b -ℤ c *ℤ d
products a b c d = atoms (a ∷ b ∷ c ∷ d ∷ []) λ ρ a b c d. simp (a, b, c, d, quote, ρ) (ring _ _ _ tt)

square_less : (a : ℤ) → pos 1 *ℤ a *ℤ a +ℤ (negsuc 0 *ℤ pos 1 *ℤ a +ℤ pos 0) ≡ a *ℤ a -ℤ a
square_less = diff₁ _ λ p q. simp diffs (omega arith)

less_product : (a c d : ℤ) → pos 1 *ℤ pos 1 *ℤ a +ℤ (negsuc 0 *ℤ c *ℤ d +ℤ pos 0) ≡ a -ℤ c *ℤ d
less_product = diff₃ _ λ p q r s t u. simp diffs (omega arith)

difference : (a c : ℤ) → pos 1 *ℤ pos 1 *ℤ a +ℤ (negsuc 0 *ℤ pos 1 *ℤ c +ℤ pos 0) ≡ a -ℤ c
difference = diff₂ _ λ p q r s. simp diffs (omega arith)

together : (a b c : ℤ) →
    pos 1 *ℤ pos 1 *ℤ a +ℤ (negsuc 0 *ℤ pos 1 *ℤ b +ℤ (negsuc 0 *ℤ pos 1 *ℤ c +ℤ (pos 1 *ℤ pos 1 *ℤ pos 1 +ℤ pos 0))) ≡ a -ℤ b -ℤ c +ℤ pos 1
together = diff₃ _ λ p q r s t u. simp diffs (omega arith)

alone : (a : ℤ) → pos 1 *ℤ pos 1 *ℤ a +ℤ pos 0 ≡ a
alone = diff₁ _ λ p q. simp diffs (omega arith)

one_less : (a : ℤ) → pos 1 *ℤ pos 1 *ℤ pos 1 +ℤ (negsuc 0 *ℤ pos 1 *ℤ a +ℤ pos 0) ≡ pos 1 -ℤ a
one_less = diff₁ _ λ p q. simp diffs (omega arith)

-- ---- the nine

module _ (r : Register) (s : Scheme) (z : ℕ → ℤ) (m : ℤ) where
  -- the command with this byte, naming these numbers, has a null form or not, and its form has this value
  pub record HasForm (kind : ℕ) (names : List ℕ) (null : Bool) (x : ℤ) : Type 0 where
    pub null_is : (rule_of r s (record { kind = kind; names = names; m = m })).null ≡ null
    pub value_is : value (places (pos 1) z) (rule_of r s (record { kind = kind; names = names; m = m })).form ≡ x

  pub form_31 : (i : ℕ) → HasForm 0x31 (i ∷ []) true (z i *ℤ z i -ℤ z i)
  unfolding rule_of by_key value sum_over
  form_31 i = record { null_is = refl; value_is = square_less (z i) }

  pub form_32 : (i j : ℕ) → HasForm 0x32 (i ∷ j ∷ []) true (z i -ℤ z i *ℤ z j)
  unfolding rule_of by_key value sum_over
  form_32 i j = record { null_is = refl; value_is = less_product (z i) (z i) (z j) }

  pub form_33 : (i j k : ℕ) → HasForm 0x33 (i ∷ j ∷ k ∷ []) true (z i -ℤ z j *ℤ z k)
  unfolding rule_of by_key value sum_over
  form_33 i j k = record { null_is = refl; value_is = less_product (z i) (z j) (z k) }

  pub form_34 : (i j k l : ℕ) → HasForm 0x34 (i ∷ j ∷ k ∷ l ∷ []) true (z i *ℤ z j -ℤ z k *ℤ z l)
  unfolding rule_of by_key value sum_over
  form_34 i j k l = record { null_is = refl; value_is = products (z i) (z j) (z k) (z l) }

  -- of product k

  pub form_35 : (k : ℕ) → HasForm 0x35 (k ∷ []) false (z (left r.choices s k) -ℤ z k)
  unfolding rule_of by_key value sum_over
  form_35 k = record { null_is = refl; value_is = difference (z (left r.choices s k)) (z k) }

  pub form_36 : (k : ℕ) → HasForm 0x36 (k ∷ []) false (z (right r.choices s k) -ℤ z k)
  unfolding rule_of by_key value sum_over
  form_36 k = record { null_is = refl; value_is = difference (z (right r.choices s k)) (z k) }

  pub form_37 : (k : ℕ) → HasForm 0x37 (k ∷ []) false (z k -ℤ z (left r.choices s k) -ℤ z (right r.choices s k) +ℤ pos 1)
  unfolding rule_of by_key value sum_over
  form_37 k = record { null_is = refl; value_is = together (z k) (z (left r.choices s k)) (z (right r.choices s k)) }

  -- of variable i

  pub form_38 : (i : ℕ) → HasForm 0x38 (i ∷ []) false (z i)
  unfolding rule_of by_key value sum_over
  form_38 i = record { null_is = refl; value_is = alone (z i) }

  pub form_39 : (i : ℕ) → HasForm 0x39 (i ∷ []) false (pos 1 -ℤ z i)
  unfolding rule_of by_key value sum_over
  form_39 i = record { null_is = refl; value_is = one_less (z i) }
