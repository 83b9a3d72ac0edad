-- The entries passed are the sets of the variables, the others 0.
use Prim.Native.Nat.{◌+◌}
use Rattle.scheme.specs.Sets.{SetsBelow}
use Rattle.scheme.proofs.variable_sets.sets_of.Given as goal

abbrev pub invariant-loop-k : goal.invariant-loop-k
invariant-loop-k l = record { so_far : SetsBelow l.n l.scheme (l.n + l.k) l.sets }
