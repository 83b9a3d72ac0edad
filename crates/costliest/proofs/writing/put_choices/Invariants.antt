-- The choices passed are written.
use Prim.Native.Nat.{◌+◌, ◌*◌}
use Rattle.wire.proofs.Written.{Going}
use Rattle.register.specs.Encoding.{encode_choice}
use Rattle.costliest.proofs.writing.put_choices.Given as goal

abbrev pub invariant-loop-i : goal.invariant-loop-i
invariant-loop-i l = record { so_far : Going (encode_choice 1) l.count l.start l.fn.out l.i (l.start + 5 * l.i) l.out }
