-- The bracket is four monomials.
use mathlib.Core.Path.{◌≡◌}
use mathlib.Core.List.{[], ◌∷◌}
use Prim.Native.Nat.{ℕ, ◌+◌, ◌*◌, ◌≤◌, ◌<◌}
use native.Mathlib.Nat.{mul-le-mul}
use native.Mathlib.Omega.{arith}
use native.Mathlib.Numerals.{add-one}
use mir.Syntax.{w64}
use mir.Val.{to_z, of_z}
use lib.IntN.{ℤ, pos, negsuc, nat_abs, ◌*ℤ◌}
use Rattle.integers.proofs.Machine.{read_signed}
use Rattle.integers.proofs.Order.{nat_abs-*}
use Rattle.forms.specs.Form.{Form, mono, times}
use Rattle.forms.specs.declared.SquareTable.{SquareTable}
use Rattle.forms.specs.Store.{Room, Adds}
use Rattle.forms.proofs.Form.{below-[], below_∷}
use Rattle.forms.proofs.Store.{norm1, bounded_weaken}
use Rattle.forms.proofs.Added.{adds_then, adds_same, room_after}
use Rattle.penalty.specs.Weights.{max_product_weight}
use Rattle.penalty.specs.Penalty.{bracket}
use Rattle.penalty.proofs.add_bracket.Goals as goal

-- the weight as the code has it, times a coefficient of the bracket
weighted : (w a : ℤ) → nat_abs w ≤ max_product_weight → nat_abs a ≤ 3 → nat_abs (to_z w64 (of_z w64 w) *ℤ a) ≤ 3 * max_product_weight
weighted w a h l = rw (nat_abs-*, read_signed w64 w (omega arith)) (mul-le-mul h l)

-- the four, whose coefficients are multiples of w
bracketed : (k l r : ℕ) (x w : ℤ) → x ≡ w →
    ◌≡◌ {A = Form}
    (mono 0 (k + 1) (x *ℤ pos 3) ∷ mono (k + 1) (l + 1) (x *ℤ negsuc 1) ∷ mono (k + 1) (r + 1) (x *ℤ negsuc 1) ∷ mono (l + 1) (r + 1) (x *ℤ pos 1) ∷ [])
    (times w (bracket k l r))
unfolding times bracket
bracketed k l r x w d = rw (d, add-one k, add-one l, add-one r)

-- room for one more
step : {b p q : ℕ} {x : ℤ} {t u : SquareTable} → Room b t → Adds (mono p q x ∷ []) t u → p < t.side → q < t.side → nat_abs x ≤ 3 * max_product_weight → Room (b + 6 * max_product_weight) u
unfolding norm1
step r a l m h = room_after r a (below_∷ l m below-[]) _ (omega (arith, h))

pub add_multiple-requires-2-clause-room : goal.add_multiple-requires-2-clause-room
add_multiple-requires-2-clause-room c =
    let r₁ = step c.requires.room c.add_multiple.ensures (omega arith) (omega arith) (weighted c.args.w _ c.requires.w_bound (omega arith)) in
    bounded_weaken r₁ (omega arith)

pub add_multiple-requires-3-clause-room : goal.add_multiple-requires-3-clause-room
add_multiple-requires-3-clause-room c =
    let r₁ = step c.requires.room c.add_multiple.ensures (omega arith) (omega arith) (weighted c.args.w _ c.requires.w_bound (omega arith)) in
    let r₂ = step r₁ c.add_multiple-2.ensures (omega arith) (omega arith) (weighted c.args.w _ c.requires.w_bound (omega arith)) in
    bounded_weaken r₂ (omega arith)

pub add_multiple-requires-4-clause-room : goal.add_multiple-requires-4-clause-room
add_multiple-requires-4-clause-room c =
    let r₁ = step c.requires.room c.add_multiple.ensures (omega arith) (omega arith) (weighted c.args.w _ c.requires.w_bound (omega arith)) in
    let r₂ = step r₁ c.add_multiple-2.ensures (omega arith) (omega arith) (weighted c.args.w _ c.requires.w_bound (omega arith)) in
    let r₃ = step r₂ c.add_multiple-3.ensures (omega arith) (omega arith) (weighted c.args.w _ c.requires.w_bound (omega arith)) in
    bounded_weaken r₃ (omega arith)

pub returns : goal.returns
returns c =
    adds_same (adds_then (adds_then (adds_then c.add_multiple.ensures c.add_multiple-2.ensures) c.add_multiple-3.ensures) c.add_multiple-4.ensures)
    (bracketed c.args.k c.args.l c.args.r _ c.args.w (read_signed w64 c.args.w (omega arith)))
