-- What is left leads to what all passes lead to; each pass makes the list shorter.
use Rattle.builder.specs.Work.{listed}
use Rattle.builder.proofs.Reducing.{Reducing}
use Rattle.builder.proofs.state.Work.reduce.Given as goal

abbrev pub invariant-loop-members : goal.invariant-loop-members
invariant-loop-members l = Reducing l.fn.self.choices l.fn.self.scheme (listed l.fn.members) l.self l.members

abbrev pub decreases-loop-members : goal.decreases-loop-members
decreases-loop-members l = l.members.count
