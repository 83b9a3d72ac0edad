-- The signed reading of the unsigned number.
use mathlib.Core.Path.{◌∙◌, ap}
use mir.Syntax.{w16}
use mir.Val.{to_z}
use mir.Facts.{to_z-of_z}
use Rattle.wire.specs.Number.{int_at}
use Rattle.wire.proofs.endian.I16FromBytes.read.Goals as goal

pub returns : goal.returns
unfolding int_at
returns c = to_z-of_z {w = w16} (record { sfits = c.cast_signed.type_inv }) ∙ c.cast_signed.ensures ∙ ap (to_z w16) c.read.ensures
