use mathlib.Core.Path.{◌≡◌, ◌∙◌, ap, ap₂}
use native.Mathlib.Numerals.{add-one}
use native.Mathlib.Omega.{arith}
use lib.IntN.{pos, ◌-ℤ◌}
use mir.Facts.{to_z-of_z}
use mir.Syntax.{w64}
use mir.Val.{to_z, of_z}
use Rattle.integers.proofs.Machine.{fits_signed, read_signed, read_unsigned}
use Rattle.plain.specs.InTable.{entry_in, half_in, left_in}
use Rattle.plain.proofs.InTable.{half_small, left_small}
use Rattle.plain.proofs.FunctionTable.linear_left.Goals as goal

pub overflow_cast-result : goal.overflow_cast-result
overflow_cast-result c = fits_signed w64 (pos c.half_row_sum.result) (omega (arith, c.half_row_sum.ensures, half_small _ _ c.args.self.now.small c.args.i c.requires))

-- the difference that the code takes, at its bits
difference : (c : goal.After-half_row_sum) → to_z w64 (of_z w64 c.entry.result) -ℤ to_z w64 c.half_row_sum.result ≡ left_in c.args.self.now.n c.args.self.now.numbers.now c.args.i
unfolding left_in
difference c =
    let a = c.args in
    ap₂ ◌-ℤ◌
    (to_z-of_z {w = w64} (record { sfits = c.entry.type_inv }) ∙ c.entry.ensures ∙ ap (entry_in a.self.now.n a.self.now.numbers.now 0) (add-one a.i))
    (ap (to_z w64) c.half_row_sum.ensures ∙ read_unsigned w64 (half_in a.self.now.n a.self.now.numbers.now a.i) (omega (arith, half_small _ _ c.args.self.now.small a.i c.requires)))

pub overflow_sub-result : goal.overflow_sub-result
overflow_sub-result c =
    let a = c.args in
    rw (difference c) (fits_signed w64 (left_in a.self.now.n a.self.now.numbers.now a.i) (omega (arith, left_small _ _ c.args.self.now.small a.i c.requires)))

pub returns : goal.returns
returns c =
    let a = c.args in
    ap (λ x. to_z w64 (of_z w64 x)) (difference c)
    ∙ read_signed w64 (left_in a.self.now.n a.self.now.numbers.now a.i) (omega (arith, left_small _ _ c.args.self.now.small a.i c.requires))
