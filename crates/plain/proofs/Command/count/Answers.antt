use mathlib.Core.Path.{◌≡◌, refl, sym, ◌∙◌}
use mathlib.Core.Bool.{Bool, true, false, cond, not}
use lib.Dec.{eqb}
use mir.Val.{bool_byte}
use Rattle.plain.proofs.Commands.{length-unless_zero}
use Rattle.plain.proofs.Command.count.Goals as goal

-- as a number
number : (zero : Bool) → bool_byte (not zero) ≡ cond zero 0 1
number true = refl
number false = refl

pub returns : goal.returns
returns c = number (eqb c.args.self.m 0) ∙ sym (length-unless_zero c.args.self.kind c.args.self.name c.args.self.m)
