-- The loop's invariant: the total is the base cost and the terms passed.
use mathlib.Core.Path.{◌≡◌}
use Rattle.register.specs.Register.{high}
use Rattle.plan.proofs.Bounds.{cost_to}
use Rattle.plan.proofs.cost_of.Given as goal

abbrev pub invariant-loop-t : goal.invariant-loop-t
invariant-loop-t l = l.total ≡ cost_to (high l.register) l.register l.plan l.t
