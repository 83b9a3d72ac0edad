-- A byte and two numbers.
use mathlib.Core.Path.{refl}
use native.Mathlib.Omega.{arith}
use Rattle.wire.proofs.Written.{command_stored}
use Rattle.register.specs.Encoding.{encode_term}
use Rattle.costliest.proofs.writing.put_term.Goals as goal

pub returns : goal.returns
unfolding encode_term
returns c = let a = c.args in command_stored a.out.now a.at 4 4 0x12 a.mask 1 (omega arith) c.write.ensures c.write-2.ensures c.write-3.ensures refl (omega arith)
