-- The four monomials.
use Prim.Native.Nat.{ℕ}
use mathlib.Core.Path.{◌≡◌}
use mathlib.Core.List.{[], ◌∷◌}
use native.Mathlib.Omega.{arith}
use lib.IntN.{ℤ, pos, ◌*ℤ◌}
use Rattle.forms.specs.Form.{Form, mono, times}
use Rattle.forms.specs.Store.{max_before_monomial}
use Rattle.forms.proofs.Form.{below-[], below_∷}
use Rattle.forms.proofs.Store.{norm1}
use Rattle.forms.proofs.Added.{adds_then, adds_same, room_after}
use Rattle.certificate.specs.Rules.{minus1}
use Rattle.residual.proofs.Adds.{multiple_read, multiple_small}
use Rattle.residual.proofs.add_product_bound.Goals as goal

-- by k as the code has it
all_four : (z l r : ℕ) (k k' : ℤ) → k' ≡ k →
    ◌≡◌ {A = Form}
    (mono 0 z (k' *ℤ pos 1) ∷ mono 0 l (k' *ℤ minus1) ∷ mono 0 r (k' *ℤ minus1) ∷ mono 0 0 (k' *ℤ pos 1) ∷ [])
    (times k (mono 0 z (pos 1) ∷ mono 0 l minus1 ∷ mono 0 r minus1 ∷ mono 0 0 (pos 1) ∷ []))
unfolding times
all_four z l r k k' e = rw e

pub add_multiple-requires-2-clause-room : goal.add_multiple-requires-2-clause-room
unfolding norm1
add_multiple-requires-2-clause-room c =
    let l = multiple_small c.args.k (pos 1) c.requires.k_bound (omega arith) in
    room_after c.requires.room c.add_multiple.ensures (below_∷ (omega arith) (omega arith) below-[]) max_before_monomial (omega (arith, l))

pub add_multiple-requires-3-clause-room : goal.add_multiple-requires-3-clause-room
unfolding norm1
add_multiple-requires-3-clause-room c =
    let l = multiple_small c.args.k (pos 1) c.requires.k_bound (omega arith) in
    let m = multiple_small c.args.k minus1 c.requires.k_bound (omega arith) in
    room_after c.requires.room (adds_then c.add_multiple.ensures c.add_multiple-2.ensures) (below_∷ (omega arith) (omega arith) (below_∷ (omega arith) (omega arith) below-[])) max_before_monomial (omega (arith, l, m))

pub add_multiple-requires-4-clause-room : goal.add_multiple-requires-4-clause-room
unfolding norm1
add_multiple-requires-4-clause-room c =
    let l = multiple_small c.args.k (pos 1) c.requires.k_bound (omega arith) in
    let m = multiple_small c.args.k minus1 c.requires.k_bound (omega arith) in
    room_after c.requires.room (adds_then (adds_then c.add_multiple.ensures c.add_multiple-2.ensures) c.add_multiple-3.ensures)
    (below_∷ (omega arith) (omega arith) (below_∷ (omega arith) (omega arith) (below_∷ (omega arith) (omega arith) below-[]))) max_before_monomial (omega (arith, l, m))

pub returns : goal.returns
returns c =
    adds_same (adds_then (adds_then (adds_then c.add_multiple.ensures c.add_multiple-2.ensures) c.add_multiple-3.ensures) c.add_multiple-4.ensures)
    (all_four c.args.z c.args.l c.args.r c.args.k _ (multiple_read c.args.k c.requires.k_bound))
