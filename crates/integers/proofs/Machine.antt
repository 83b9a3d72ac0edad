-- What machine code asks of signed integers, at every width. A signed local holds bits: an operation reads them by `to_z w` and
-- writes its result by `of_z w`, so a goal has `to_z w (of_z w z)`, which is z where z fits the width.
use mathlib.Core.Path.{◌≡◌, sym, ◌∙◌, ap, subst}
use mathlib.Core.Bool.{true, false, not}
use Prim.Native.Nat.{ℕ, ◌<◌, ◌≤◌, ◌^◌, ◌*◌, ◌%◌}
use native.Mathlib.Omega.{arith}
use native.Mathlib.Nat.{one-mul, mod-eq_of_lt}
use lib.Pow.{pow-lt}
use lib.Dec.{T}
use lib.IntN.{ℤ, pos, nat_abs}
use lib.Signed.{mag, lt_z, ◌<ℤ◌, ◌≤ℤ◌, lt_z_no}
use mir.Syntax.{Width}
use mir.Val.{SFits, to_z, of_z, bits, hbits}
use mir.ValLaws.{to_z_pos}
use mir.Facts.{to_z-of_z}
use Rattle.integers.proofs.Diff.{diff₁, diffs}

-- an integer whose absolute value is below the width's half fits the width
pub fits_signed : (w : Width) (z : ℤ) → nat_abs z < 2 ^ hbits w → SFits w z
fits_signed w z h = record { sfits = below (2 ^ hbits w) z h }
  where
    below : (b : ℕ) (z : ℤ) → nat_abs z < b → mag z < b
    below b = diff₁ _ λ p q. simp diffs (omega arith)

-- what fits a width is at most its half in absolute value
pub signed_small : (w : Width) (z : ℤ) → SFits w z → nat_abs z ≤ 2 ^ hbits w
signed_small w z f = above (2 ^ hbits w) z f.sfits
  where
    above : (b : ℕ) (z : ℤ) → mag z < b → nat_abs z ≤ b
    above b = diff₁ _ λ p q. simp diffs (omega arith)

-- the bits of `z`, read as signed
pub read_signed : (w : Width) (z : ℤ) → nat_abs z < 2 ^ hbits w → to_z w (of_z w z) ≡ z
read_signed w z h = to_z-of_z (fits_signed w z h)

-- bits that an invariant says are those of `z`
pub read_bits : (w : Width) (z : ℤ) {n : ℕ} → n ≡ of_z w z → nat_abs z < 2 ^ hbits w → to_z w n ≡ z
read_bits w z e h = ap (to_z w) e ∙ read_signed w z h

-- a number that was cast from an unsigned type
pub read_unsigned : (w : Width) (n : ℕ) → n < 2 ^ hbits w → to_z w n ≡ pos n
read_unsigned w n h = to_z_pos w n h

-- a signed number cast to a width that is not narrower
pub cast_fits : (v w : Width) (z : ℤ) → 2 ^ hbits v < 2 ^ hbits w → SFits v z → SFits w (to_z v (of_z v z))
cast_fits v w z l f = rw (to_z-of_z f) (fits_signed w z (omega (arith, signed_small v z f)))

pub cast_read : (v w : Width) (z : ℤ) → 2 ^ hbits v < 2 ^ hbits w → SFits v z → to_z w (of_z w (to_z v (of_z v z))) ≡ z
cast_read v w z l f = rw (to_z-of_z f) (read_signed w z (omega (arith, signed_small v z f)))

-- a signed comparison that held, and one that did not
pub lt_z-true : (a b : ℤ) → lt_z a b ≡ true → a <ℤ b
lt_z-true a b e = record { lt = subst T (sym e) tt }

pub lt_z-false : (a b : ℤ) → lt_z a b ≡ false → b ≤ℤ a
lt_z-false a b e = lt_z_no (subst (λ x. T (not x)) (sym e) tt)

-- one bit at place n of a word
pub one_shifted : (w : Width) (n : ℕ) → n < bits w → 2 ^ n ≡ 1 * 2 ^ n % 2 ^ bits w
one_shifted w n h = sym (ap (λ x. x % 2 ^ bits w) (one-mul (2 ^ n)) ∙ mod-eq_of_lt (pow-lt h))
