use Prim.Native.Nat.{◌-◌}
use lib.ListN.{length}
use Rattle.residual.proofs.Filled.{Holding}
use Rattle.residual.proofs.put_commands.Given as goal

abbrev pub invariant-loop-at : goal.invariant-loop-at
invariant-loop-at l = Holding l.quadratization.register l.quadratization.scheme l.bytes l.fn.table l.table l.at

abbrev pub decreases-loop-at : goal.decreases-loop-at
decreases-loop-at l = length l.bytes - l.at
