use mathlib.Core.Path.{refl}
use Rattle.register.specs.Register.{fresh}
use Rattle.register.proofs.Register.fresh.Goals as goal

pub returns : goal.returns
unfolding fresh
returns c = refl
