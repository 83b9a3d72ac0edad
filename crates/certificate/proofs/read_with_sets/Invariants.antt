-- What is read from here on is what the whole is.
use Rattle.std.proofs.Common.{length, ◌-◌}
use Rattle.certificate.proofs.Going.{Counted}
use Rattle.certificate.proofs.read_with_sets.Given as goal

abbrev pub invariant-loop-at : goal.invariant-loop-at
invariant-loop-at l = Counted l.quadratization.register l.quadratization.scheme l.bytes l.previous l.certificate l.at

abbrev pub decreases-loop-at : goal.decreases-loop-at
decreases-loop-at l = length l.bytes - l.at
