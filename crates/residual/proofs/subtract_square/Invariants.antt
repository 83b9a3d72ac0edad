use Prim.Native.Nat.{ℕ}
use mathlib.Core.Bool.{Bool}
use lib.Dec.{ltb}
use Rattle.forms.specs.Store.{Becomes}
use Rattle.certificate.specs.Answer.{square_in}
use Rattle.residual.specs.Residual.{square_at}
use Rattle.residual.specs.Built.{less_where}
use Rattle.residual.proofs.subtract_square.Given as goal

-- the first i rows
abbrev pub first : ℕ → ℕ → ℕ → Bool
first i k l = ltb k i

abbrev pub invariant-loop-row : goal.invariant-loop-row
invariant-loop-row l = Becomes (less_where l.fn.table.side (square_at (square_in l.square)) (first l.row) l.fn.table.numbers.now) l.fn.table l.table
