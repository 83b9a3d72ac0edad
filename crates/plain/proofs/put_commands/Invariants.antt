use Rattle.plain.specs.Encoding.{encode_multipliers}
use Rattle.wire.proofs.Written.{Going}
use Rattle.plain.proofs.put_commands.Given as goal

abbrev pub invariant-loop-i : goal.invariant-loop-i
invariant-loop-i g l = Going (λ i. encode_multipliers (g.multipliers i)) l.n l.start l.initial.out l.i l.at l.out
