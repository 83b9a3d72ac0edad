-- The lines of numbers that the code passes as bits.
use Prim.Native.Nat.{ℕ, ◌<◌, ◌^◌}
use mathlib.Core.Path.{◌≡◌, ◌∙◌}
use mathlib.Core.Bool.{Bool, true, false, cond}
use mathlib.Core.List.{[], ◌∷◌}
use lib.IntN.{ℤ, pos}
use lib.Signed.{mag}
use mir.Facts.{to_z-of_z}
use mir.Syntax.{w64}
use mir.Val.{SFits, to_z, of_z, bool_byte}
use Rattle.integers.proofs.Machine.{read_unsigned}
use Rattle.text.specs.Text.{line}
use Rattle.listing.specs.Listing.{choice_line, fed_line, supplier_line, bound_line}

-- where a number was passed on as the signed one that it is
pub signed : (x : ℤ) (n : ℕ) → x ≡ pos n → mag x < 2 ^ 63 → to_z w64 (of_z w64 x) ≡ pos n
signed x n e l = to_z-of_z {w = w64} (record { sfits = l }) ∙ e

pub choice_bits : (i tank minute : ℕ) (t m : ℤ) → i < 2 ^ 63 → t ≡ pos tank → mag t < 2 ^ 63 → m ≡ pos minute → mag m < 2 ^ 63 →
    line 0x54 (to_z w64 i ∷ to_z w64 (of_z w64 t) ∷ to_z w64 (of_z w64 m) ∷ []) ≡ choice_line i tank minute
choice_bits i tank minute t m l e f d g = rw (read_unsigned w64 i l, signed t tank e f, signed m minute d g)

pub supplier_bits : (i : ℕ) (fed : Bool) (f : ℤ) → i < 2 ^ 63 → f ≡ pos (bool_byte fed) → mag f < 2 ^ 63 → line 0x43 (to_z w64 i ∷ to_z w64 (of_z w64 f) ∷ []) ≡ supplier_line i fed
supplier_bits i true f l e g = rw (read_unsigned w64 i l, signed f 1 e g)
supplier_bits i false f l e g = rw (read_unsigned w64 i l, signed f 0 e g)

pub fed_bits : (fed : Bool) (tank minute : ℕ) (t m : ℤ) → fed ≡ true → t ≡ pos tank → mag t < 2 ^ 63 → m ≡ pos minute → mag m < 2 ^ 63 →
    line 0x46 (to_z w64 (of_z w64 t) ∷ to_z w64 (of_z w64 m) ∷ []) ≡ cond fed (fed_line tank minute) []
fed_bits fed tank minute t m h e f d g = rw (h, signed t tank e f, signed m minute d g)

pub bound_bits : (bound cost gap : ℤ) → SFits w64 bound → SFits w64 cost → SFits w64 gap → line 0x42 (to_z w64 (of_z w64 bound) ∷ to_z w64 (of_z w64 cost) ∷ to_z w64 (of_z w64 gap) ∷ []) ≡ bound_line bound cost gap
bound_bits bound cost gap b c g = rw (to_z-of_z b, to_z-of_z c, to_z-of_z g)
