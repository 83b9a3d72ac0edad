-- The square at a position, entry by entry.
use native.Mathlib.Omega.{arith}
use Rattle.certificate.proofs.Filling.{filled_all}
use Rattle.certificate.proofs.Sizes.{size_square}
use Rattle.certificate.proofs.layout.square_at.Goals as goal

pub read-requires : goal.read-requires
read-requires c = omega (arith, size_square)

pub read-requires-in-loop-i : goal.read-requires-in-loop-i
read-requires-in-loop-i c = omega (arith, size_square)

pub returns : goal.returns
returns c = filled_all c.loop-i.invariant (omega arith)
