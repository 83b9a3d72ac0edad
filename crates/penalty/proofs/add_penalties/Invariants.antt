-- After i turns the penalties of the first i products are added.
use Rattle.integers.specs.Lists.{join_below}
use Rattle.forms.specs.Store.{Adds}
use Rattle.register.specs.Register.{coefficient}
use Rattle.penalty.specs.Penalty.{penalty_of}
use Rattle.penalty.proofs.add_penalties.Given as goal

abbrev pub invariant-loop-i : goal.invariant-loop-i
invariant-loop-i l =
    let q = l.quadratization in
    Adds (join_below l.i (penalty_of (coefficient q.register) q.register q.scheme)) l.fn.table l.table
