-- The signed reading of the unsigned number.
use mathlib.Core.Path.{◌∙◌, ap}
use mir.Syntax.{w32}
use mir.Val.{to_z}
use mir.Facts.{to_z-of_z}
use Rattle.wire.specs.Number.{int_at}
use Rattle.wire.proofs.endian.I32FromBytes.read.Goals as goal

pub returns : goal.returns
unfolding int_at
returns c = to_z-of_z {w = w32} (record { sfits = c.cast_signed.type_inv }) ∙ c.cast_signed.ensures ∙ ap (to_z w32) c.read.ensures
