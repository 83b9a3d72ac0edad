-- The number of undecided choices falls at each call.
use Rattle.search.proofs.+walk.Given as goal

abbrev pub decreases-walk : goal.decreases-walk
decreases-walk l = l.undecided
