-- The test is that of the definition: the product of two numbers of 32 bits is not wrapped in 64.
use mathlib.Core.Path.{◌≡◌}
use mathlib.Core.Bool.{true, false}
use Rattle.costliest.specs.Costliest.{is_refused}
use Rattle.costliest.proofs.shape_of.Goals as goal

pub returns : goal.returns
unfolding is_refused
returns c =
    let fine : is_refused c.args.m c.args.d ≡ false = rw (c.from.ensures, c.from-2.ensures, c.from-3.ensures) at (c.if-refused.false) in
    rw fine

pub returns-then-refused : goal.returns-then-refused
unfolding is_refused
returns-then-refused c =
    let refused : is_refused c.args.m c.args.d ≡ true = rw (c.from.ensures, c.from-2.ensures, c.from-3.ensures) at (c.if-refused.true) in
    rw (c.nowhere.ensures, refused)
