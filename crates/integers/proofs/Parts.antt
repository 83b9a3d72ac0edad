-- The positive and the negative part of an integer: each integer is the first minus the second, and a sum, an
-- order or an equation of integers is an equation or an inequation of naturals between the parts, which `omega` reads.
-- `omega (arith, orders, +_parts a b)` proves a linear statement from hypotheses on ℤ: `orders` turns the statements, and
-- each sum in them has its `+_parts` in the list.
use mathlib.Core.Path.{◌≡◌, refl, ap}
use mathlib.Core.Bool.{Bool, true, false, not, cond}
use Prim.Native.Nat.{ℕ, zero, suc, ◌+◌, ◌-◌, ◌<◌, ◌≤◌}
use native.Mathlib.Omega.{arith}
use lib.Dec.{T, ltb, ltb→lt, lt→ltb, nltb→le, leb→le, le→leb}
use lib.IntN.{ℤ, pos, negsuc, neg_ℤ, sub_ℕ, ◌+ℤ◌, nat_abs}
use lib.Signed.{◌≤ℤ◌, ◌<ℤ◌}
use Rattle.integers.specs.Integer.{pos_part, neg_part}

-- ---- equality and order

pub parts→≡ : (x y : ℤ) → pos_part x + neg_part y ≡ pos_part y + neg_part x → x ≡ y
parts→≡ (pos a) (pos b) e = let h : a ≡ b = omega arith in ap pos h
parts→≡ (pos a) (negsuc b) e = absurd (omega arith)
parts→≡ (negsuc a) (pos b) e = absurd (omega arith)
parts→≡ (negsuc a) (negsuc b) e = let h : a ≡ b = omega arith in ap negsuc h

pub ≡→parts : (x y : ℤ) → x ≡ y → pos_part x + neg_part y ≡ pos_part y + neg_part x
≡→parts x y e = rw e refl

pub ≤→parts : (x y : ℤ) → x ≤ℤ y → pos_part x + neg_part y ≤ pos_part y + neg_part x
≤→parts (pos a) (pos b) h = omega (arith, leb→le a b h.le)
≤→parts (pos a) (negsuc b) h = absurd h.le
≤→parts (negsuc a) (pos b) h = omega arith
≤→parts (negsuc a) (negsuc b) h = omega (arith, leb→le b a h.le)

pub parts→≤ : (x y : ℤ) → pos_part x + neg_part y ≤ pos_part y + neg_part x → x ≤ℤ y
parts→≤ (pos a) (pos b) h = record { le = le→leb a b (omega arith) }
parts→≤ (pos a) (negsuc b) h = absurd (omega arith)
parts→≤ (negsuc a) (pos b) h = record { le = tt }
parts→≤ (negsuc a) (negsuc b) h = record { le = le→leb b a (omega arith) }

pub <→parts : (x y : ℤ) → x <ℤ y → pos_part x + neg_part y < pos_part y + neg_part x
<→parts (pos a) (pos b) h = omega (arith, ltb→lt a b h.lt)
<→parts (pos a) (negsuc b) h = absurd h.lt
<→parts (negsuc a) (pos b) h = omega arith
<→parts (negsuc a) (negsuc b) h = omega (arith, ltb→lt b a h.lt)

pub parts→< : (x y : ℤ) → pos_part x + neg_part y < pos_part y + neg_part x → x <ℤ y
parts→< (pos a) (pos b) h = record { lt = lt→ltb a b (omega arith) }
parts→< (pos a) (negsuc b) h = absurd (omega arith)
parts→< (negsuc a) (pos b) h = record { lt = tt }
parts→< (negsuc a) (negsuc b) h = record { lt = lt→ltb b a (omega arith) }

pub ruleset orders = (parts→≡, ≡→parts, ≤→parts, parts→≤, <→parts, parts→<)

-- ---- operations

pub pos_part_neg : (x : ℤ) → pos_part (neg_ℤ x) ≡ neg_part x
pos_part_neg (pos zero) = refl
pos_part_neg (pos (suc n)) = refl
pos_part_neg (negsuc n) = refl

pub neg_part_neg : (x : ℤ) → neg_part (neg_ℤ x) ≡ pos_part x
neg_part_neg (pos zero) = refl
neg_part_neg (pos (suc n)) = refl
neg_part_neg (negsuc n) = refl

pub subℕ_parts : (a b : ℕ) → pos_part (sub_ℕ a b) + b ≡ neg_part (sub_ℕ a b) + a
subℕ_parts a b = pick (ltb a b) (λ t. less (ltb→lt a b t)) (λ t. more (nltb→le a b t))
  where
    pick : (c : Bool) → (T c → 0 + b ≡ suc (b - suc a) + a) → (T (not c) → a - b + b ≡ 0 + a) → pos_part (cond c (negsuc (b - suc a)) (pos (a - b))) + b ≡ neg_part (cond c (negsuc (b - suc a)) (pos (a - b))) + a
    pick true f g = f tt
    pick false f g = g tt

    less : a < b → 0 + b ≡ suc (b - suc a) + a
    less h = omega arith

    more : b ≤ a → a - b + b ≡ 0 + a
    more h = omega arith

pub +_parts : (x y : ℤ) → pos_part (x +ℤ y) + (neg_part x + neg_part y) ≡ neg_part (x +ℤ y) + (pos_part x + pos_part y)
+_parts (pos a) (pos b) = omega arith
+_parts (pos a) (negsuc b) = omega (arith, subℕ_parts a (suc b))
+_parts (negsuc a) (pos b) = omega (arith, subℕ_parts b (suc a))
+_parts (negsuc a) (negsuc b) = omega arith

-- the absolute value, and the magnitude that says whether an integer fits a signed width
pub nat_abs_parts : (x : ℤ) → nat_abs x ≡ pos_part x + neg_part x
nat_abs_parts (pos n) = omega arith
nat_abs_parts (negsuc n) = omega arith
