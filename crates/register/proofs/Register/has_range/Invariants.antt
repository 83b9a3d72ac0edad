-- No term looked at has a range.
use mathlib.Core.Path.{◌≡◌}
use mathlib.Core.Bool.{false}
use Rattle.integers.specs.Lists.{any_below}
use Rattle.register.specs.Register.{is_range}
use Rattle.register.proofs.Register.has_range.Given as goal

abbrev pub invariant-loop-t : goal.invariant-loop-t
invariant-loop-t l = any_below l.t (is_range l.self) ≡ false
