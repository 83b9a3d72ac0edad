-- By the column: nothing on the diagonal, else the entry's absolute value, whose bits read back as they are.
use Prim.Native.Nat.{◌+◌, ◌*◌}
use mathlib.Core.Path.{◌∙◌, ap}
use native.Mathlib.Omega.{arith}
use borrow.Author.Tests.{eq-eqb, ne_eqb}
use lib.IntN.{pos, nat_abs}
use mir.Syntax.{w64}
use mir.Facts.{to_z-of_z}
use Rattle.integers.specs.Integer.{abs}
use Rattle.integers.specs.Sum.{except}
use Rattle.integers.proofs.Machine.{read_signed}
use Rattle.forms.proofs.Store.{place_inside}
use Rattle.residual.specs.Built.{cells}
use Rattle.bound.proofs.dominance.off_diagonal_term.Goals as goal

pub returns-then-column-row : goal.returns-then-column-row
unfolding except
returns-then-column-row c = rw (eq-eqb c.args.column c.args.row c.if-column-row.true)

pub returns-else-column-row : goal.returns-else-column-row
unfolding except abs
returns-else-column-row c =
    let entry = read_signed w64 (cells c.args.side c.args.table.now c.args.row c.args.column) (omega (arith, c.requires.bounded.low (c.args.row * c.args.side + c.args.column) (place_inside c.args.side c.args.row c.args.column (omega arith) (omega arith)))) in
    rw (ne_eqb c.args.column c.args.row c.if-column-row.false)
    (to_z-of_z {w = w64} (record { sfits = c.abs.type_inv }) ∙ c.abs.ensures.value ∙ ap (λ x. pos (nat_abs x)) entry)
