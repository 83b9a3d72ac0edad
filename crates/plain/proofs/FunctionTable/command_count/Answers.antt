use mathlib.Core.Path.{◌≡◌, refl, ◌∙◌, ap}
use Prim.Native.Nat.{ℕ, ◌≤◌}
use native.Mathlib.Omega.{arith}
use native.Mathlib.Numerals.{add-one}
use lib.Dec.{eqb}
use lib.ListN.{length, length-append}
use Rattle.integers.specs.Lists.{join_below}
use Rattle.plain.specs.Plain.{unless_zero}
use Rattle.plain.specs.InTable.{diagonal_in, linear_in}
use Rattle.plain.proofs.Commands.{length-unless_zero, one_at_most}
use Rattle.plain.proofs.FunctionTable.command_count.Goals as goal

few : (kind i m x : ℕ) → x ≡ length (unless_zero kind i m) → x ≤ 1
few kind i m x e = rw (e, length-unless_zero) (one_at_most (eqb m 0))

pub loop-i-init : goal.loop-i-init
unfolding join_below
loop-i-init c = record { few = omega arith; so_far = refl }

pub overflow_add-count : goal.overflow_add-count
overflow_add-count c = omega (arith, few _ _ _ _ c.count.ensures, few _ _ _ _ c.count-in-loop-i.ensures)

pub overflow_add-count-in-loop-i : goal.overflow_add-count-in-loop-i
overflow_add-count-in-loop-i c =
    omega (arith, few _ _ _ _ c.count.ensures, few _ _ _ _ c.count-in-loop-i.ensures, c.loop-i.invariant.few, c.args.self.now.small.few)

pub loop-i-preserved : goal.loop-i-preserved
unfolding join_below
loop-i-preserved c =
    let q = c.args.self.now in
    let i = c.loop-i.i in
    let f = diagonal_in q.n q.numbers.now in
    let g = linear_in q.n q.numbers.now in
    record {
      few = omega (arith, few _ _ _ _ c.count.ensures, few _ _ _ _ c.count-in-loop-i.ensures, c.loop-i.invariant.few);
      so_far =
          rw add-one (omega (
            arith,
            length-append (join_below i f) (f i),
            length-append (join_below i g) (g i),
            c.count.ensures ∙ ap length c.diagonal.ensures,
            c.count-in-loop-i.ensures ∙ ap length c.linear.ensures,
            c.loop-i.invariant.so_far,
          ));
    }
