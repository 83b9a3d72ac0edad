-- Four bytes, by the law that splits a number's bytes.
use native.Mathlib.Omega.{arith}
use Rattle.wire.proofs.Number.{nat_at_split}
use Rattle.wire.proofs.endian.U32FromBytes.read.Goals as goal

pub returns : goal.returns
returns c = omega (arith, nat_at_split 2 2 c.args.bytes.now c.args.at (omega arith))
