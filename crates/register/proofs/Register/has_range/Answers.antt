use native.Mathlib.Omega.{arith}
use mathlib.Core.Path.{sym}
use Rattle.integers.proofs.Any.{any_at}
use Rattle.register.specs.Register.{is_range}
use Rattle.register.proofs.Register.has_range.Goals as goal

pub returns-then-self-t : goal.returns-then-self-t
returns-then-self-t c = sym (any_at c.args.self.now.terms (is_range c.args.self.now) c.loop-t.t (omega arith) c.if-self-t.true)
