-- The total is what the terms so far contribute.
use mathlib.Core.Path.{◌≡◌}
use lib.IntN.{pos}
use Rattle.integers.specs.Sum.{sum_below}
use Rattle.register.specs.Register.{coefficient}
use Rattle.penalty.specs.Weights.{contribution}
use Rattle.penalty.proofs.usage.Given as goal

abbrev pub invariant-loop-t : goal.invariant-loop-t
invariant-loop-t l =
    let q = l.quadratization in
    pos l.total ≡ sum_below l.t (contribution (coefficient q.register) q.register.choices q.scheme l.k)
