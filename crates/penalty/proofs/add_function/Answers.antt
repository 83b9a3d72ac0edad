-- The scaled base cost is added, and then the scaled terms.
use mathlib.Core.Path.{◌≡◌}
use mathlib.Core.List.{[], ◌∷◌}
use Prim.Native.Nat.{◌*◌, ◌≤◌, ◌<◌}
use native.Mathlib.Omega.{arith}
use lib.IntN.{ℤ, nat_abs, ◌*ℤ◌}
use mir.Syntax.{w32, w64}
use mir.Val.{to_z, of_z}
use Rattle.integers.proofs.Machine.{read_signed}
use Rattle.forms.specs.declared.SquareTable.{SquareTable}
use Rattle.forms.specs.Form.{mono, times}
use Rattle.forms.specs.Store.{Room, Adds, max_before_form, max_before_forms}
use Rattle.forms.proofs.Form.{below-[], below_∷}
use Rattle.forms.proofs.Store.{norm1}
use Rattle.forms.proofs.Added.{adds_then, adds_same, room_after}
use Rattle.register.specs.declared.Register.{Register}
use Rattle.register.specs.Limits.{max_base}
use Rattle.register.specs.Register.{coefficient}
use Rattle.register.specs.Valid.{Within}
use Rattle.scheme.specs.declared.Scheme.{Scheme}
use Rattle.scheme.specs.Function.{g}
use Rattle.penalty.specs.Multiple.{max_multiple}
use Rattle.penalty.proofs.Scaled.{Product, product, first_terms, times-g}
use Rattle.scheme.proofs.Truncated.{valid_register}
use Rattle.penalty.proofs.add_function.Goals as goal

-- the scaled base cost as the code has it
base : (z : ℤ) (r : Register) (y : ℤ) → y ≡ to_z w32 (of_z w32 r.base) → nat_abs z ≤ max_multiple → Within r → Product (to_z w64 (of_z w64 z)) r.base y
base z r y e h within = product (to_z w64 (of_z w64 z)) r.base y e (rw (read_signed w64 z (omega arith)) h) within.base

-- the table after the base cost, and after the terms: x is the scaled base cost and j and i the scale, as the code has them
module _ (j x : ℤ) (r : Register) (s : Scheme) (e : x ≡ j *ℤ r.base) {t u : SquareTable} (a : Adds (mono 0 0 x ∷ []) t u) where
  room : 0 < t.side → nat_abs (j *ℤ r.base) ≤ max_multiple * max_base → Room max_before_forms t → Room max_before_form u
  unfolding norm1
  room l low h = room_after h a (below_∷ l l below-[]) max_before_form (rw e (omega (arith, low)))

  whole : (k i : ℤ) {v : SquareTable} → j ≡ k → i ≡ k → Adds (first_terms i r s r.terms) u v → Adds (times k (g (coefficient r) r s)) t v
  whole k i p q b = adds_same (adds_then a b) (rw (e, p, q, times-g k (coefficient r) r s))

pub overflow_mul-scale : goal.overflow_mul-scale
overflow_mul-scale c =
    let q = c.args.quadratization.now in
    (base c.args.scale q.register _ c.from.ensures c.requires.scale_bound (valid_register q.register_valid).within).fits

pub add_monomial-requires-clause-c_bound : goal.add_monomial-requires-clause-c_bound
add_monomial-requires-clause-c_bound c =
    let q = c.args.quadratization.now in
    let k = base c.args.scale q.register _ c.from.ensures c.requires.scale_bound (valid_register q.register_valid).within in
    rw k.reads (omega (arith, k.low))

pub add_terms-requires-clause-room : goal.add_terms-requires-clause-room
add_terms-requires-clause-room c =
    let q = c.args.quadratization.now in
    let k = base c.args.scale q.register _ c.from.ensures c.requires.scale_bound (valid_register q.register_valid).within in
    room (to_z w64 (of_z w64 c.args.scale)) _ q.register q.scheme k.reads c.add_monomial.ensures (omega arith) k.low c.requires.room

pub returns : goal.returns
returns c =
    let q = c.args.quadratization.now in
    let k = base c.args.scale q.register _ c.from.ensures c.requires.scale_bound (valid_register q.register_valid).within in
    let same = read_signed w64 c.args.scale (omega arith) in
    whole (to_z w64 (of_z w64 c.args.scale)) _ q.register q.scheme k.reads c.add_monomial.ensures c.args.scale _ same same c.add_terms.ensures
