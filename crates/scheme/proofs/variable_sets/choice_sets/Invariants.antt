-- The entries passed are the sets of the choices, the others 0.
use Rattle.scheme.specs.declared.Scheme.{Scheme}
use Rattle.scheme.specs.Sets.{SetsBelow}
use Rattle.scheme.proofs.variable_sets.choice_sets.Given as goal

abbrev pub invariant-loop-i : goal.invariant-loop-i
invariant-loop-i l = record { so_far : (s : Scheme) → SetsBelow l.n s l.i l.sets }
