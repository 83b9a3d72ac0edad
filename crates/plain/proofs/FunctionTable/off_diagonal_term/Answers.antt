use mathlib.Core.Path.{sym, ◌∙◌, ap, ap₂}
use native.Mathlib.Numerals.{add-one}
use lib.IntN.{pos, nat_abs}
use mir.Facts.{to_z-of_z}
use mir.Syntax.{w64}
use Rattle.integers.specs.Integer.{abs}
use Rattle.integers.proofs.Sum.{except_same, except_other}
use Rattle.plain.specs.InTable.{entry_in}
use Rattle.plain.proofs.FunctionTable.off_diagonal_term.Goals as goal

pub returns-then-j-i : goal.returns-then-j-i
returns-then-j-i c = rw c.if-j-i.true (sym (except_same c.args.i _))

pub returns : goal.returns
unfolding abs
returns c =
    let a = c.args in
    ap pos (c.unsigned_abs.ensures.value ∙ ap nat_abs (to_z-of_z {w = w64} (record { sfits = c.entry.type_inv }) ∙ c.entry.ensures) ∙ ap₂ (λ x y. nat_abs (entry_in a.self.now.n a.self.now.numbers.now x y)) (add-one a.i) (add-one a.j))
    ∙ sym (except_other a.i _ a.j c.if-j-i.false)
