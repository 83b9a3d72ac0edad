-- All rows passed hold. In a row, what is left of the diagonal entry, which is at least 0 once an entry was passed.
use mathlib.Core.Path.{◌≡◌}
use Prim.Native.Nat.{ℕ, ◌<◌}
use lib.Dec.{T}
use lib.IntN.{pos}
use lib.Signed.{◌≤ℤ◌}
use Rattle.std.proofs.Common.{None}
use Rattle.bound.specs.Bound.{row_holds}
use Rattle.residual.specs.Built.{cells}
use Rattle.bound.proofs.FirstShort.{slack}
use Rattle.bound.proofs.dominance.first_short.Given as goal

abbrev pub invariant-loop-column : goal.invariant-loop-column
invariant-loop-column l = record {
  left_is : l.left ≡ slack (cells l.side l.table) l.row l.column;
  not_short : 0 < l.column → pos 0 ≤ℤ slack (cells l.side l.table) l.row l.column;
  none : l.short ≡ None;
}

abbrev pub invariant-rows : goal.invariant-rows
invariant-rows l = record { hold : (i : ℕ) → i < l.row → T (row_holds l.side (cells l.side l.table) i); none : l.short ≡ None }
