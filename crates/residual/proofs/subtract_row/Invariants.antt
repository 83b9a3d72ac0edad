use Prim.Native.Nat.{ℕ}
use mathlib.Core.Path.{◌≡◌}
use mathlib.Core.Bool.{Bool, ◌&&◌}
use lib.Dec.{eqb, ltb}
use Rattle.residual.specs.Built.{times_entries, less_where}
use Rattle.residual.proofs.subtract_row.Given as goal

-- the first j columns of row i
abbrev pub first : ℕ → ℕ → ℕ → ℕ → Bool
first i j k l = eqb k i && ltb l j

abbrev pub invariant-loop-j : goal.invariant-loop-j
invariant-loop-j l = record { so_far : l.numbers ≡ less_where l.side (times_entries l.factor l.entries) (first l.row l.j) l.fn.numbers }
