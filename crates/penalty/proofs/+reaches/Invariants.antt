-- The number of the variable falls at each call, since the operands of a product are smaller.
use Rattle.penalty.proofs.+reaches.Given as goal

abbrev pub decreases-reaches : goal.decreases-reaches
decreases-reaches l = l.v
