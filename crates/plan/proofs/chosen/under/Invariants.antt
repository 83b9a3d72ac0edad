-- The coefficients passed are the chosen ones, and all else of the register is as it was.
use mathlib.Core.Path.{◌≡◌}
use mathlib.Core.List.{[], ◌∷◌}
use lib.Seq.{sets}
use Rattle.integers.specs.Lists.{join_below}
use Rattle.plan.specs.Chosen.{chosen}
use Rattle.plan.proofs.chosen.under.Given as goal

abbrev pub invariant-loop-t : goal.invariant-loop-t
invariant-loop-t l = l.register ≡ record l.fn.register { coefficients = sets l.fn.register.coefficients 0 (join_below l.t (λ t. chosen l.fn.register l.plan t ∷ [])) }
