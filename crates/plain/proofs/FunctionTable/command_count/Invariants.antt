use mathlib.Core.Path.{◌≡◌}
use Prim.Native.Nat.{◌+◌, ◌*◌, ◌≤◌}
use lib.ListN.{length}
use Rattle.integers.specs.Lists.{join_below}
use Rattle.plain.specs.InTable.{diagonal_in, linear_in}
use Rattle.plain.proofs.FunctionTable.command_count.Given as goal

abbrev pub invariant-loop-i : goal.invariant-loop-i
invariant-loop-i l =
    let t = l.self.numbers.now in
    record {
      few : l.count ≤ 2 * l.i;
      so_far : l.count ≡ length (join_below l.i (diagonal_in l.self.n t)) + length (join_below l.i (linear_in l.self.n t));
    }
