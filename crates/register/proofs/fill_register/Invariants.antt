use Prim.Native.Nat.{◌-◌}
use lib.ListN.{length}
use Rattle.wire.proofs.Accepting.{reached}
use Rattle.wire.proofs.Loop.{Going}
use Rattle.register.specs.Register.{fresh}
use Rattle.register.specs.Format.{register_rows}
use Rattle.register.proofs.Laws.{Good}
use Rattle.register.proofs.Passed.{Passed}
use Rattle.register.proofs.fill_register.Given as goal

-- what is read from here on is what the whole is; and which windows no later choice need look at
abbrev pub invariant-loop-at : goal.invariant-loop-at
invariant-loop-at l = record {
  going : Going fresh register_rows Good l.bytes (reached l.previous l.register) l.at;
  lower : Passed l.register l.passed;
}

abbrev pub decreases-loop-at : goal.decreases-loop-at
decreases-loop-at l = length l.bytes - l.at
