-- A term is one monomial.
use native.Mathlib.Numerals.{add-one}
use native.Mathlib.Omega.{arith}
use mir.Syntax.{w64}
use borrow.Author.Tests.{eq-eqb, ne_eqb}
use Rattle.integers.proofs.Machine.{read_signed}
use Rattle.forms.proofs.Added.{adds_same}
use Rattle.scheme.specs.Function.{term}
use Rattle.penalty.proofs.add_term.Goals as goal

pub returns-then-l-r : goal.returns-then-l-r
unfolding term
returns-then-l-r c =
    adds_same c.add_monomial.ensures (rw (eq-eqb c.args.l c.args.r c.if-l-r.true, add-one c.args.l, read_signed w64 c.args.c (omega arith)))

pub returns-else-l-r : goal.returns-else-l-r
unfolding term
returns-else-l-r c =
    adds_same c.add_monomial-else-l-r.ensures
    (rw (ne_eqb c.args.l c.args.r c.if-l-r.false, add-one c.args.l, add-one c.args.r, read_signed w64 c.args.c (omega arith)))
