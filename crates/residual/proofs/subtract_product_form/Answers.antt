use Prim.Native.Nat.{ℕ, ◌+◌, ◌-◌, ◌≤◌, ◌<◌}
use mathlib.Core.Path.{◌≡◌}
use native.Mathlib.Omega.{arith}
use native.Mathlib.Numerals.{add-one}
use Rattle.forms.proofs.Added.{adds_same}
use Rattle.scheme.specs.declared.Scheme.{Scheme}
use Rattle.scheme.specs.Scheme.{max_products, left, right, side}
use Rattle.scheme.specs.Valid.{Products}
use Rattle.certificate.specs.declared.Multiplier.{Multiplier as Named}
use Rattle.certificate.specs.Rules.{by_key}
use Rattle.residual.specs.Built.{signed_of, Addable}
use Rattle.residual.proofs.Adds.{negated, added_at, names_product}
use Rattle.residual.proofs.subtract_product_form.Goals as goal

-- the places of a product and of its operands
record Places (n m : ℕ) (s : Scheme) (t : Named) : Type 0 where
  after : n ≤ t.i
  at : t.i - n < 32
  constant : 0 < m
  z : t.i + 1 < m
  l : left n s t.i + 1 < m
  r : right n s t.i + 1 < m

places : {n m : ℕ} {s : Scheme} {t : Named} → Products n s → s.products ≤ max_products → m ≡ side n s → Addable n s t → (0x35 ≤ t.kind) × (t.kind ≤ 0x37) → Places n m s t
places products few e ok k =
    let p = names_product ok products k.0 k.1 in
    record {
      after = p.after;
      at = omega (arith, p.there, p.after, few);
      constant = omega (arith, e);
      z = omega (arith, p.there, e);
      l = omega (arith, p.there, p.left_below, e);
      r = omega (arith, p.there, p.right_below, e);
    }

pub overflow_sub-at : goal.overflow_sub-at
overflow_sub-at c =
    let r = c.requires in
    (places r.products r.products_le_max_products r.side_value r.addable r.le_kind).after

pub bounds-scheme-at : goal.bounds-scheme-at
bounds-scheme-at c =
    let r = c.requires in
    (places r.products r.products_le_max_products r.side_value r.addable r.le_kind).at

pub bounds-scheme-at-2 : goal.bounds-scheme-at-2
bounds-scheme-at-2 c =
    let r = c.requires in
    (places r.products r.products_le_max_products r.side_value r.addable r.le_kind).at

pub add_difference-requires-clause-places : goal.add_difference-requires-clause-places
add_difference-requires-clause-places c =
    let r = c.requires in
    let p = places r.products r.products_le_max_products r.side_value r.addable r.le_kind in
    (p.constant, p.l, p.constant, p.z)

pub add_difference-requires-in-54-clause-places : goal.add_difference-requires-in-54-clause-places
add_difference-requires-in-54-clause-places c =
    let r = c.requires in
    let p = places r.products r.products_le_max_products r.side_value r.addable r.le_kind in
    (p.constant, p.r, p.constant, p.z)

pub add_product_bound-requires-clause-places : goal.add_product_bound-requires-clause-places
add_product_bound-requires-clause-places c =
    let r = c.requires in
    let p = places r.products r.products_le_max_products r.side_value r.addable r.le_kind in
    (p.z, p.l, p.r)

pub returns-in-53 : goal.returns-in-53
unfolding signed_of by_key
returns-in-53 c = λ reg e.
    let a = c.args in
    adds_same c.add_difference.ensures (rw ((negated a.t.m c.requires.addable.m_within).less_read, ← e, add-one (left reg.choices a.scheme.now a.t.i), add-one a.t.i) (added_at reg a.scheme.now a.t 0x35 c.in-53.is))

pub returns-in-54 : goal.returns-in-54
unfolding signed_of by_key
returns-in-54 c = λ reg e.
    let a = c.args in
    adds_same c.add_difference-in-54.ensures (rw ((negated a.t.m c.requires.addable.m_within).less_read, ← e, add-one (right reg.choices a.scheme.now a.t.i), add-one a.t.i) (added_at reg a.scheme.now a.t 0x36 c.in-54.is))

pub returns-in_default : goal.returns-in_default
unfolding signed_of by_key
returns-in_default c = λ reg e.
    let a = c.args in
    adds_same c.add_product_bound.ensures (rw ((negated a.t.m c.requires.addable.m_within).less_read, ← e, add-one a.t.i, add-one (left reg.choices a.scheme.now a.t.i), add-one (right reg.choices a.scheme.now a.t.i)) (added_at reg a.scheme.now a.t 0x37 (omega arith)))
