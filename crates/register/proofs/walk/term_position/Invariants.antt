use Prim.Native.Nat.{◌-◌}
use lib.ListN.{length}
use Rattle.wire.proofs.Walk.{Walking}
use Rattle.register.specs.Format.{register_part}
use Rattle.register.specs.Encoding.{term_kind}
use Rattle.register.specs.Position.{term_position}
use Rattle.register.proofs.walk.term_position.Given as goal

abbrev pub invariant-loop-at : goal.invariant-loop-at
invariant-loop-at l = Walking register_part term_kind.bytes l.bytes (term_position l.bytes l.term) l.left l.at

abbrev pub decreases-loop-at : goal.decreases-loop-at
decreases-loop-at l = length l.bytes - l.at
