-- ℤ is a commutative ring: the laws that `lib.IntN` lacks.
use mathlib.Core.Path.{◌≡◌}
use native.Mathlib.Omega.{arith}
use lib.IntN.{ℤ, pos, ◌+ℤ◌, ◌-ℤ◌, ◌*ℤ◌}
use Rattle.integers.proofs.Diff.{diff₁, diff₃, diff₄, diffs}

pub *ℤ_assoc : (a b c : ℤ) → a *ℤ b *ℤ c ≡ a *ℤ (b *ℤ c)
*ℤ_assoc = diff₃ _ λ p q r s t u. simp diffs (omega arith)

pub *ℤ_distribˡ : (a b c : ℤ) → a *ℤ (b +ℤ c) ≡ a *ℤ b +ℤ a *ℤ c
*ℤ_distribˡ = diff₃ _ λ p q r s t u. simp diffs (omega arith)

pub *ℤ_distribʳ : (a b c : ℤ) → (a +ℤ b) *ℤ c ≡ a *ℤ c +ℤ b *ℤ c
*ℤ_distribʳ = diff₃ _ λ p q r s t u. simp diffs (omega arith)

pub *ℤ_sub_distribʳ : (a b c : ℤ) → (a -ℤ b) *ℤ c ≡ a *ℤ c -ℤ b *ℤ c
*ℤ_sub_distribʳ = diff₃ _ λ p q r s t u. simp diffs (omega arith)

pub one_*ℤ : (a : ℤ) → pos 1 *ℤ a ≡ a
one_*ℤ = diff₁ _ λ p q. simp diffs (omega arith)

pub -ℤ-self : (a : ℤ) → a -ℤ a ≡ pos 0
-ℤ-self = diff₁ _ λ p q. simp diffs (omega arith)

pub +ℤ_left_comm : (a b c : ℤ) → a +ℤ (b +ℤ c) ≡ b +ℤ (a +ℤ c)
+ℤ_left_comm = diff₃ _ λ p q r s t u. simp diffs (omega arith)

pub *ℤ_left_comm : (a b c : ℤ) → a *ℤ (b *ℤ c) ≡ b *ℤ (a *ℤ c)
*ℤ_left_comm = diff₃ _ λ p q r s t u. simp diffs (omega arith)

pub +ℤ_interchange : (a b c d : ℤ) → a +ℤ b +ℤ (c +ℤ d) ≡ a +ℤ c +ℤ (b +ℤ d)
+ℤ_interchange = diff₄ _ λ p q r s t u v w. simp diffs (omega arith)

pub *ℤ_interchange : (a b c d : ℤ) → a *ℤ b *ℤ (c *ℤ d) ≡ a *ℤ c *ℤ (b *ℤ d)
*ℤ_interchange = diff₄ _ λ p q r s t u v w. simp diffs (omega arith)
