-- What is read from here on is what the whole is; and the array holds the sets.
use Prim.Native.Nat.{◌-◌}
use lib.ListN.{length}
use Rattle.wire.proofs.Accepting.{reached}
use Rattle.wire.proofs.Loop.{Going}
use Rattle.scheme.specs.Scheme.{variables, initial}
use Rattle.scheme.specs.Sets.{SetsBelow}
use Rattle.scheme.specs.Format.{scheme_rows}
use Rattle.scheme.proofs.Laws.{Good}
use Rattle.scheme.proofs.read_scheme.Given as goal

abbrev pub invariant-loop-at : goal.invariant-loop-at
invariant-loop-at l = record {
  going : Going initial (scheme_rows l.register) (Good l.register) l.bytes (reached l.previous l.scheme) l.at;
  held : SetsBelow l.register.choices l.scheme (variables l.register.choices l.scheme) l.sets;
}

abbrev pub decreases-loop-at : goal.decreases-loop-at
decreases-loop-at l = length l.bytes - l.at
