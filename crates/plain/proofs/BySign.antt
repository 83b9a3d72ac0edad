-- What a test of a number's sign says of the command that cancels it.
use Prim.Native.Nat.{ℕ}
use mathlib.Core.Path.{◌≡◌, refl}
use mathlib.Core.Bool.{true, false}
use native.Mathlib.Omega.{arith}
use lib.IntN.{ℤ, pos, negsuc, nat_abs}
use lib.Signed.{lt_z}
use borrow.Author.Tests.{ltb-true}
use Rattle.plain.specs.Plain.{unless_zero, cancelling}

pub cancels_negative : (x : ℤ) → lt_z x (pos 0) ≡ true → (i : ℕ) → cancelling i x ≡ unless_zero 0x39 i (nat_abs x)
unfolding cancelling
cancels_negative (pos m) e i = absurd (omega (arith, ltb-true m 0 e))
cancels_negative (negsuc m) e i = refl

pub cancels_positive : (x : ℤ) → lt_z x (pos 0) ≡ false → (i : ℕ) → cancelling i x ≡ unless_zero 0x38 i (nat_abs x)
unfolding cancelling
cancels_positive (pos m) e i = refl
cancels_positive (negsuc m) e i = let z : ◌≡◌ {A = ℕ} 0 1 = cc in absurd (omega arith)
