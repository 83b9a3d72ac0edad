-- ℤ is a totally ordered ring: the laws of order, and of the absolute value, that `lib.Signed` lacks.
-- A linear law is proved by `diffs`, one that multiplies an order by a natural with that product in `omega`'s list.
-- `search nonneg` proves that a polynomial is at least 0 from its form, and `grw (monotone, h)` rewrites an order by h.
use mathlib.Core.Path.{◌≡◌, refl}
use mathlib.Core.Logic.{◌⊎◌, inl, inr, ◌↔◌}
use Prim.Native.Nat.{ℕ, suc, ◌+◌, ◌*◌, ◌≤◌}
use native.Mathlib.Nat.{mul-le-mul_left, mul-le-mul, le_of_mul-le-mul_left}
use native.Mathlib.Omega.{arith}
use native.Mathlib.Decide.{dec_le}
use lib.IntN.{ℤ, pos, negsuc, neg_ℤ, ◌+ℤ◌, ◌-ℤ◌, ◌*ℤ◌, nat_abs}
use lib.Signed.{◌≤ℤ◌, ◌<ℤ◌, ≤ℤ_refl}
use Rattle.integers.specs.Integer.{pos_part, neg_part, abs}
use Rattle.integers.proofs.Parts.{orders, parts→≤, parts→<}
use Rattle.integers.proofs.Diff.{diff₁, diff₂, diff₃, diff₄, diffs}

-- ---- a total order

pub ≤ℤ_trans : (a b c : ℤ) → a ≤ℤ b → b ≤ℤ c → a ≤ℤ c
≤ℤ_trans a b c h k = omega (arith, orders)

pub ≤ℤ_antisym : (a b : ℤ) → a ≤ℤ b → b ≤ℤ a → a ≡ b
≤ℤ_antisym a b h k = omega (arith, orders)

pub ≡→≤ℤ : (a b : ℤ) → a ≡ b → a ≤ℤ b
≡→≤ℤ a b e = omega (arith, orders)

pub <ℤ→≤ℤ : (a b : ℤ) → a <ℤ b → a ≤ℤ b
<ℤ→≤ℤ a b h = omega (arith, orders)

pub ≤ℤ_or_> : (a b : ℤ) → (a ≤ℤ b) ⊎ (b <ℤ a)
≤ℤ_or_> a b = go (dec_le (pos_part a + neg_part b) (pos_part b + neg_part a))
  where
    go : Dec (pos_part a + neg_part b ≤ pos_part b + neg_part a) → (a ≤ℤ b) ⊎ (b <ℤ a)
    go (yes h) = inl (parts→≤ a b h)
    go (no h) = inr (parts→< b a (omega arith))

-- ---- sums

pub +ℤ_mono : (a b c d : ℤ) → a ≤ℤ b → c ≤ℤ d → (a +ℤ c) ≤ℤ (b +ℤ d)
+ℤ_mono = diff₄ _ λ p q r s t u v w. simp diffs (omega arith)

pub +ℤ_nonneg : (a b : ℤ) → pos 0 ≤ℤ a → pos 0 ≤ℤ b → pos 0 ≤ℤ (a +ℤ b)
+ℤ_nonneg = diff₂ _ λ p q r s. simp diffs (omega arith)

pub ≤ℤ-+ʳ : (a b : ℤ) → pos 0 ≤ℤ b → a ≤ℤ (a +ℤ b)
≤ℤ-+ʳ = diff₂ _ λ p q r s. simp diffs (omega arith)

pub negℤ_anti : (a b : ℤ) → a ≤ℤ b → neg_ℤ b ≤ℤ neg_ℤ a
negℤ_anti = diff₂ _ λ p q r s. simp diffs (omega arith)

pub ≤ℤ_sub : (a b : ℤ) → (a ≤ℤ b) ↔ (pos 0 ≤ℤ (b -ℤ a))
≤ℤ_sub = diff₂ _ λ p q r s. simp diffs (omega arith)

-- a certificate: b − a is an s that is at least 0
pub ≤ℤ_by : (a b s : ℤ) → pos 0 ≤ℤ s → b -ℤ a ≡ s → a ≤ℤ b
≤ℤ_by = diff₃ _ λ p q r s t u. simp diffs (omega arith)

-- ---- products

pub pos_mono : (m n : ℕ) → m ≤ n → pos m ≤ℤ pos n
pos_mono m n h = omega (arith, orders)

pub pos_nonneg : (n : ℕ) → pos 0 ≤ℤ pos n
pos_nonneg n = omega (arith, orders)

pub nonneg→pos : (a : ℤ) → pos 0 ≤ℤ a → a ≡ pos (nat_abs a)
nonneg→pos (pos n) h = refl
nonneg→pos (negsuc n) h = absurd h.le

pub *ℤ_monoˡ : (c a b : ℤ) → pos 0 ≤ℤ c → a ≤ℤ b → (c *ℤ a) ≤ℤ (c *ℤ b)
*ℤ_monoˡ c a b h k = rw (nonneg→pos c h) (scale (nat_abs c) a b k)
  where
    scale : (n : ℕ) (a b : ℤ) → a ≤ℤ b → (pos n *ℤ a) ≤ℤ (pos n *ℤ b)
    scale n = diff₂ _ λ p q r s. simp diffs λ k. omega (arith, mul-le-mul_left n k)

-- and back, where the factor is above 0
pub *ℤ_cancelˡ : (n : ℕ) (a b : ℤ) → 1 ≤ n → (pos n *ℤ a) ≤ℤ (pos n *ℤ b) → a ≤ℤ b
*ℤ_cancelˡ n a b l = go a b
  where
    go : (a b : ℤ) → (pos n *ℤ a) ≤ℤ (pos n *ℤ b) → a ≤ℤ b
    go = diff₂ _ λ p q r s. simp diffs λ h. le_of_mul-le-mul_left {k = n} (omega (arith, h)) (omega arith)

pub *ℤ_nonneg : (a b : ℤ) → pos 0 ≤ℤ a → pos 0 ≤ℤ b → pos 0 ≤ℤ (a *ℤ b)
*ℤ_nonneg (pos m) (pos n) h k = pos_nonneg (m * n)
*ℤ_nonneg (pos m) (negsuc n) h k = absurd k.le
*ℤ_nonneg (negsuc m) b h k = absurd h.le

pub square_nonneg : (a : ℤ) → pos 0 ≤ℤ (a *ℤ a)
square_nonneg (pos n) = pos_nonneg (n * n)
square_nonneg (negsuc n) = pos_nonneg (suc n * suc n)

-- ---- the absolute value

pub abs_nonneg : (a : ℤ) → pos 0 ≤ℤ abs a
unfolding abs
abs_nonneg a = pos_nonneg (nat_abs a)

pub nat_abs_neg : (a : ℤ) → nat_abs (neg_ℤ a) ≡ nat_abs a
nat_abs_neg = diff₁ _ λ p q. simp diffs (omega arith)

pub nat_abs-+ : (a b : ℤ) → nat_abs (a +ℤ b) ≤ nat_abs a + nat_abs b
nat_abs-+ = diff₂ _ λ p q r s. simp diffs (omega arith)

pub nat_abs_sub : (a b : ℤ) → nat_abs (a -ℤ b) ≤ nat_abs a + nat_abs b
nat_abs_sub = diff₂ _ λ p q r s. simp diffs (omega arith)

pub nat_abs-* : (a b : ℤ) → nat_abs (a *ℤ b) ≡ nat_abs a * nat_abs b
nat_abs-* (pos m) (pos n) = refl
nat_abs-* (pos m) (negsuc n) = nat_abs_neg (pos (m * suc n))
nat_abs-* (negsuc m) (pos n) = nat_abs_neg (pos (suc m * n))
nat_abs-* (negsuc m) (negsuc n) = refl

pub nat_abs-*-≤ : (a b : ℤ) (m n : ℕ) → nat_abs a ≤ m → nat_abs b ≤ n → nat_abs (a *ℤ b) ≤ m * n
nat_abs-*-≤ a b m n h k = rw nat_abs-* (mul-le-mul h k)

pub ruleset nonneg = (square_nonneg, *ℤ_nonneg, +ℤ_nonneg, abs_nonneg, pos_nonneg)

pub ruleset monotone = (≤ℤ_trans, ≤ℤ_refl, +ℤ_mono, negℤ_anti)
