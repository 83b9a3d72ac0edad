-- A byte and two numbers.
use mathlib.Core.Path.{refl}
use native.Mathlib.Omega.{arith}
use Rattle.wire.proofs.Written.{command_stored}
use Rattle.register.specs.Encoding.{encode_choice}
use Rattle.costliest.proofs.writing.put_choice.Goals as goal

pub returns : goal.returns
unfolding encode_choice
returns c = let a = c.args in command_stored a.out.now a.at 2 2 0x11 1 a.minute (omega arith) c.write.ensures c.write-2.ensures c.write-3.ensures refl (omega arith)
