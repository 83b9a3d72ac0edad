use mathlib.Core.Path.{refl}
use Rattle.scheme.specs.Scheme.{fresh}
use Rattle.scheme.proofs.Scheme.fresh.Goals as goal

pub returns : goal.returns
unfolding fresh
returns c = refl
