-- The loop's invariant: the sum is that over the choices passed, each of 8 bits.
use Prim.Native.Nat.{◌*◌}
use lib.IntN.{pos, neg_ℤ}
use lib.Signed.{◌≤ℤ◌}
use mathlib.Core.Path.{◌≡◌}
use Rattle.plan.specs.Fits.{fed_sum}
use Rattle.register.specs.Register.{row_entry}
use Rattle.plan.proofs.rows.fed_sum.Given as goal

abbrev pub invariant-loop-j : goal.invariant-loop-j
invariant-loop-j l = record {
  so_far : l.sum ≡ fed_sum l.j (row_entry l.register l.row) l.plan;
  above : neg_ℤ (pos (128 * l.j)) ≤ℤ l.sum;
  below : l.sum ≤ℤ pos (128 * l.j);
}
