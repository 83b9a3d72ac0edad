-- A choice is written after those passed.
use native.Mathlib.Nat.{add-zero}
use native.Mathlib.Omega.{arith}
use Rattle.wire.proofs.Written.{begins, turn}
use Rattle.register.specs.Encoding.{encode_choice}
use Rattle.costliest.proofs.Lengths.{length_choice}
use Rattle.costliest.proofs.writing.put_choices.Goals as goal

pub loop-i-init : goal.loop-i-init
loop-i-init c = let a = c.args in record { so_far = rw add-zero (begins (encode_choice 1) a.count a.start a.out.now) }

pub loop-i-preserved : goal.loop-i-preserved
loop-i-preserved c =
    let a = c.args in
    record {
      so_far = turn (encode_choice 1) a.count a.start a.out.now c.loop-i.invariant.so_far (omega arith) (omega (arith, length_choice 1 c.loop-i.i), c.put_choice.ensures);
    }
