-- What is left leads to what the whole leads to.
use Rattle.builder.proofs.Terms.{Building}
use Rattle.builder.proofs.built.Given as goal

abbrev pub invariant-loop-t : goal.invariant-loop-t
invariant-loop-t l = Building l.register l.work l.t-counter
