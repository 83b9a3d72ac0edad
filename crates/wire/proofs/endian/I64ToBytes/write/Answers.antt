-- The bytes of its unsigned number.
use mathlib.Core.Path.{◌∙◌, ap}
use mir.Syntax.{w64}
use mir.Val.{of_z}
use mir.Facts.{to_z-of_z}
use Rattle.wire.specs.Number.{put_at}
use Rattle.wire.proofs.endian.I64ToBytes.write.Goals as goal

pub returns : goal.returns
returns c = c.write.ensures ∙ ap (put_at 8 c.args.bytes.now c.args.at) (c.cast_unsigned.ensures ∙ ap (of_z w64) (to_z-of_z {w = w64} c.ranges.self))
