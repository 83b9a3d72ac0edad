-- The pairs passed are joined, and what is left leads to what the whole pass leads to.
use Rattle.builder.proofs.Passing.{Pairing}
use Rattle.builder.proofs.state.Work.pair_up.Given as goal

abbrev pub invariant-loop-i : goal.invariant-loop-i
invariant-loop-i l = Pairing l.fn.self.choices l.fn.self.scheme l.fn.members l.self l.members l.i
