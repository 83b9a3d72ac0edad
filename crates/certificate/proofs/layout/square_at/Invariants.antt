-- The entries passed are filled.
use Rattle.certificate.proofs.Filling.{Filling}
use Rattle.certificate.proofs.layout.square_at.Given as goal

abbrev pub invariant-loop-i : goal.invariant-loop-i
invariant-loop-i l = Filling l.bytes l.at l.square l.i
