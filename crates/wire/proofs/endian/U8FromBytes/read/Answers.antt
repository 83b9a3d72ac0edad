use mathlib.Core.Path.{sym}
use Rattle.wire.proofs.Number.{nat_at_one}
use Rattle.wire.proofs.endian.U8FromBytes.read.Goals as goal

pub returns : goal.returns
returns c = sym (nat_at_one c.args.bytes.now c.args.at c.requires)
