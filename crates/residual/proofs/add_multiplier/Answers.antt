use mathlib.Core.Path.{◌≡◌, sym, subst}
use native.Mathlib.Omega.{arith}
use native.Mathlib.Numerals.{add-one}
use Prim.Native.Nat.{ℕ}
use Rattle.forms.specs.Form.{times}
use Rattle.forms.proofs.Form.{Below}
use Rattle.forms.proofs.Added.{adds_same}
use Rattle.scheme.specs.declared.Scheme.{Scheme}
use Rattle.scheme.specs.Scheme.{side}
use Rattle.scheme.specs.Valid.{Products}
use Rattle.certificate.specs.declared.Multiplier.{Multiplier as Named}
use Rattle.certificate.specs.Rules.{by_key}
use Rattle.residual.specs.Built.{signed_of, Addable}
use Rattle.residual.proofs.Adds.{negated, rule_for, form_below, added_at}
use Rattle.residual.proofs.add_multiplier.Goals as goal

-- the places of the form of a kind
below : {n m : ℕ} {s : Scheme} {t : Named} → Products n s → m ≡ side n s → (ok : Addable n s t) → (kind : ℕ) → t.kind ≡ kind → Below m (rule_for ok.reg s t kind).form
below {n} {m} {s} {t} products e ok kind k = subst (λ m. Below m (rule_for ok.reg s t kind).form) (sym e) (form_below ok products kind k)

pub add_difference-requires-clause-places : goal.add_difference-requires-clause-places
unfolding by_key
add_difference-requires-clause-places c =
    let h = (below c.requires.products c.requires.side_value c.requires.addable 0x31 c.in-49.is).all in
    (omega (arith, h.0), omega (arith, h.0), omega (arith, h.1.0), omega (arith, h.1.0))

pub add_difference-requires-in-50-clause-places : goal.add_difference-requires-in-50-clause-places
unfolding by_key
add_difference-requires-in-50-clause-places c =
    let h = (below c.requires.products c.requires.side_value c.requires.addable 0x32 c.in-50.is).all in
    (omega (arith, h.0), omega (arith, h.0), omega (arith, h.1.0), omega (arith, h.1.0))

pub add_difference-requires-in-51-clause-places : goal.add_difference-requires-in-51-clause-places
unfolding by_key
add_difference-requires-in-51-clause-places c =
    let h = (below c.requires.products c.requires.side_value c.requires.addable 0x33 c.in-51.is).all in
    (omega (arith, h.0), omega (arith, h.0), omega (arith, h.1.0), omega (arith, h.1.0))

pub add_difference-requires-in-52-clause-places : goal.add_difference-requires-in-52-clause-places
unfolding by_key
add_difference-requires-in-52-clause-places c =
    let h = (below c.requires.products c.requires.side_value c.requires.addable 0x34 c.in-52.is).all in
    (omega (arith, h.0), omega (arith, h.0), omega (arith, h.1.0), omega (arith, h.1.0))

pub add_multiple-requires-clause-p_lt_side : goal.add_multiple-requires-clause-p_lt_side
unfolding by_key
add_multiple-requires-clause-p_lt_side c =
    let h = (below c.requires.products c.requires.side_value c.requires.addable 0x38 c.in-56.is).all in
    (omega (arith, h.0), omega (arith, h.0))

pub add_difference-requires-in_default-clause-places : goal.add_difference-requires-in_default-clause-places
unfolding by_key
add_difference-requires-in_default-clause-places c =
    let last : c.args.t.kind ≡ 0x39 = omega arith in
    let h = (below c.requires.products c.requires.side_value c.requires.addable 0x39 last).all in
    (omega (arith, h.0), omega (arith, h.0), omega (arith, h.1.0), omega (arith, h.1.0))

pub returns-in-49 : goal.returns-in-49
unfolding signed_of by_key
returns-in-49 c = λ reg e.
    let a = c.args in
    adds_same c.add_difference.ensures (rw ((negated a.t.m c.requires.addable.m_within).read, add-one a.t.i) (added_at reg a.scheme.now a.t 0x31 c.in-49.is))

pub returns-in-50 : goal.returns-in-50
unfolding signed_of by_key
returns-in-50 c = λ reg e.
    let a = c.args in
    adds_same c.add_difference-in-50.ensures (rw ((negated a.t.m c.requires.addable.m_within).read, add-one a.t.i, add-one a.t.j) (added_at reg a.scheme.now a.t 0x32 c.in-50.is))

pub returns-in-51 : goal.returns-in-51
unfolding signed_of by_key
returns-in-51 c = λ reg e.
    let a = c.args in
    adds_same c.add_difference-in-51.ensures (rw ((negated a.t.m c.requires.addable.m_within).read, add-one a.t.i, add-one a.t.j, add-one a.t.k) (added_at reg a.scheme.now a.t 0x33 c.in-51.is))

pub returns-in-52 : goal.returns-in-52
unfolding signed_of by_key
returns-in-52 c = λ reg e.
    let a = c.args in
    adds_same c.add_difference-in-52.ensures (rw ((negated a.t.m c.requires.addable.m_within).read, add-one a.t.i, add-one a.t.j, add-one a.t.k, add-one a.t.l) (added_at reg a.scheme.now a.t 0x34 c.in-52.is))

pub returns-in-56 : goal.returns-in-56
unfolding signed_of by_key times
returns-in-56 c = λ reg e.
    let a = c.args in
    adds_same c.add_multiple.ensures (rw ((negated a.t.m c.requires.addable.m_within).less_read, add-one a.t.i) (added_at reg a.scheme.now a.t 0x38 c.in-56.is))

pub returns-in_default : goal.returns-in_default
unfolding signed_of by_key
returns-in_default c = λ reg e.
    let a = c.args in
    let last : a.t.kind ≡ 0x39 = omega arith in
    adds_same c.add_difference-in_default.ensures (rw ((negated a.t.m c.requires.addable.m_within).less_read, add-one a.t.i) (added_at reg a.scheme.now a.t 0x39 last))
