use Prim.Native.Nat.{ℕ, ◌≤◌, ◌<◌}
use lib.IntN.{nat_abs}
use Rattle.forms.specs.Store.{Adds}
use Rattle.register.specs.Register.{row_entry}
use Rattle.residual.proofs.RowAdded.{first}
use Rattle.residual.proofs.add_row_form.Given as goal

-- the form of the first j choices is added, and their entries are of 8 bits
abbrev pub invariant-loop-j : goal.invariant-loop-j
invariant-loop-j l = record {
  so_far : Adds (first (row_entry l.register l.row) l.variable l.m l.j) l.fn.table l.table;
  small : (k : ℕ) → k < l.j → nat_abs (row_entry l.register l.row k) ≤ 128;
}
