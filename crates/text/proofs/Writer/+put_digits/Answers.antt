-- The last digit is written after the others.
use native.Mathlib.Omega.{arith}
use mathlib.Core.Path.{sym, ap}
use lib.ListN.{length}
use Rattle.text.proofs.Digits.{digits_one, digits_more, length_more}
use Rattle.text.proofs.Writing.{writes_then, writes_same, length_kept}
use Rattle.text.proofs.Writer.+put_digits.Goals as goal

pub put_byte-requires : goal.put_byte-requires
put_byte-requires t c = omega (arith, ap length (digits_one c.args.n (omega arith)))

pub put_digits-requires : goal.put_digits-requires
put_digits-requires t c = (omega arith, omega (arith, length_more c.args.n (omega arith)))

pub put_byte-requires-else-n-lt10 : goal.put_byte-requires-else-n-lt10
put_byte-requires-else-n-lt10 t c = omega (arith, length_more c.args.n (omega arith), length_kept c.put_digits.ensures)

pub returns-then-n-lt10 : goal.returns-then-n-lt10
returns-then-n-lt10 t c = writes_same c.put_byte.ensures (sym (digits_one c.args.n (omega arith)))

pub returns-else-n-lt10 : goal.returns-else-n-lt10
returns-else-n-lt10 t c = writes_same (writes_then c.put_digits.ensures c.put_byte-else-n-lt10.ensures) (sym (digits_more c.args.n (omega arith)))
