-- By the number's sign.
use native.Mathlib.Omega.{arith}
use mathlib.Core.Path.{sym, ap}
use lib.ListN.{length}
use mir.Facts.{to_z-of_z}
use Rattle.text.proofs.Digits.{sign_below, sign_none}
use Rattle.text.proofs.Writing.{writes_same, writes_nothing}
use Rattle.text.proofs.Writer.put_sign.Goals as goal

pub put_byte-requires : goal.put_byte-requires
put_byte-requires c = omega (arith, ap length (sign_below c.args.x (rw (to_z-of_z c.ranges.x) at c.if-x-lt0.true)))

pub returns-then-x-lt0 : goal.returns-then-x-lt0
returns-then-x-lt0 c = writes_same c.put_byte.ensures (sym (sign_below c.args.x (rw (to_z-of_z c.ranges.x) at c.if-x-lt0.true)))

pub returns-else-x-lt0 : goal.returns-else-x-lt0
returns-else-x-lt0 c = writes_same (writes_nothing c.args.self.now) (sym (sign_none c.args.x (rw (to_z-of_z c.ranges.x) at c.if-x-lt0.false)))
