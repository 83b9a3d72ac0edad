use mathlib.Core.Path.{◌≡◌, sym, ◌∙◌, ap, ap₂}
use Prim.Native.Nat.{ℕ, suc, ◌+◌}
use native.Mathlib.Omega.{arith}
use native.Mathlib.Numerals.{add-one}
use lib.IntN.{ℤ, pos, nat_abs, ◌+ℤ◌}
use Rattle.integers.specs.Sum.{sum_below}
use Rattle.integers.proofs.Sum.{sum_below-zero, sum_below-suc}
use Rattle.plain.proofs.sum_of.Goals as goal

-- one turn of the loop
turn : (f : ℕ → ℤ) (i total x : ℕ) → pos total ≡ sum_below i f → pos x ≡ f i → pos (total + x) ≡ sum_below (suc i) f
turn f i total x e d = ap₂ ◌+ℤ◌ e d ∙ sym (sum_below-suc i f)

pub loop-i-init : goal.loop-i-init
loop-i-init g c = sym (sum_below-zero _)

pub overflow_add-total : goal.overflow_add-total
overflow_add-total g c =
    let l = c.loop-i in
    let d = c.requires.1.1.0 l.i c.term-total.result (omega arith) c.term-total.ensures in
    omega (arith, ap nat_abs (turn g.terms l.i l.total _ l.invariant d), c.requires.1.1.1 (suc l.i) (omega arith))

pub loop-i-preserved : goal.loop-i-preserved
loop-i-preserved g c =
    let l = c.loop-i in
    let d = c.requires.1.1.0 l.i c.term-total.result (omega arith) c.term-total.ensures in
    rw add-one (turn g.terms l.i l.total _ l.invariant d)
