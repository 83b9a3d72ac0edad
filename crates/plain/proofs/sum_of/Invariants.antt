use mathlib.Core.Path.{◌≡◌}
use lib.IntN.{pos}
use Rattle.integers.specs.Sum.{sum_below}
use Rattle.plain.proofs.sum_of.Given as goal

abbrev pub invariant-loop-i : goal.invariant-loop-i
invariant-loop-i g l = pos l.total ≡ sum_below l.i g.terms
