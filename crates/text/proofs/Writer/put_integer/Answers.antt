-- A space, the sign, and then the digits of the magnitude.
use native.Mathlib.Omega.{arith}
use mathlib.Core.Path.{sym, ap, ◌∙◌}
use lib.ListN.{length}
use lib.IntN.{nat_abs}
use mir.Facts.{to_z-of_z}
use Rattle.text.specs.Text.{digits}
use Rattle.text.specs.Fields.{sign}
use Rattle.text.proofs.Lines.{field_integer, length_integer}
use Rattle.text.proofs.Writing.{writes_then, writes_same, length_kept}
use Rattle.text.proofs.Writer.put_integer.Goals as goal

pub put_byte-requires : goal.put_byte-requires
put_byte-requires c = omega (arith, length_integer c.args.x)

pub put_sign-requires : goal.put_sign-requires
put_sign-requires c = omega (arith, length_integer c.args.x, ap (λ z. length (sign z)) (to_z-of_z c.ranges.x), length_kept c.put_byte.ensures)

pub put_digits-requires : goal.put_digits-requires
put_digits-requires c =
    omega (
      arith,
      length_integer c.args.x,
      ap (λ z. length (sign z)) (to_z-of_z c.ranges.x),
      ap (λ k. length (digits k)) (c.unsigned_abs.ensures.value ∙ ap nat_abs (to_z-of_z c.ranges.x)),
      length_kept c.put_byte.ensures,
      length_kept c.put_sign.ensures,
    )

pub returns : goal.returns
returns c =
    let e = to_z-of_z c.ranges.x in
    let signed = writes_then c.put_byte.ensures (writes_same c.put_sign.ensures (ap sign e)) in
    writes_same (writes_then signed (writes_same c.put_digits.ensures (ap digits (c.unsigned_abs.ensures.value ∙ ap nat_abs e)))) (sym (field_integer c.args.x))
