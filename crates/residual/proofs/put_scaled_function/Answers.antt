-- The table is cleared, and g times the scale and the target are added.
use Prim.Native.Nat.{ℕ, ◌*◌, ◌≤◌}
use mathlib.Core.Path.{◌≡◌, sym, ◌∙◌, ap}
use mathlib.Core.List.{List, [], ◌∷◌}
use native.Mathlib.Nat.{mul-le-mul}
use native.Mathlib.Omega.{arith}
use lib.IntN.{ℤ, pos, neg_ℤ, nat_abs, ◌-ℤ◌, +ℤ_idl}
use lib.ListN.{length}
use mir.Syntax.{w64}
use mir.Val.{SFits, to_z, of_z}
use mir.Facts.{to_z-of_z}
use Rattle.integers.proofs.Machine.{fits_signed, read_signed, read_unsigned}
use Rattle.integers.proofs.Order.{nat_abs_neg}
use Rattle.forms.specs.Form.{Form, mono, times}
use Rattle.forms.specs.Table.{table_numbers, with_table}
use Rattle.forms.specs.declared.SquareTable.{SquareTable}
use Rattle.forms.specs.Store.{cleared, Room, Adds, Becomes, max_before_monomial}
use Rattle.forms.proofs.Form.{below-[], below_∷, below_append, below_times, entry-append}
use Rattle.forms.proofs.Store.{stored, bounded_cleared, norm1_times}
use Rattle.forms.proofs.Added.{adds_then, room_after}
use Rattle.forms.proofs.Table.{with_table_cong}
use Rattle.wire.specs.Number.{nat_at, int_at}
use Rattle.register.specs.declared.Register.{Register}
use Rattle.register.specs.Register.{coefficient}
use Rattle.register.specs.Valid as Reg
use Rattle.scheme.specs.declared.Scheme.{Scheme}
use Rattle.scheme.specs.Scheme.{side}
use Rattle.scheme.specs.Function.{g}
use Rattle.scheme.specs.Valid.{Valid}
use Rattle.scheme.proofs.Table.{g_below}
use Rattle.scheme.proofs.Truncated.{valid_register}
use Rattle.penalty.proofs.Bounds.{side_square}
use Rattle.certificate.specs.Limits.{max_scale, max_target}
use Rattle.residual.specs.Residual.{R}
use Rattle.residual.specs.Built.{with_scale, Reads}
use Rattle.residual.proofs.Bounds.{small, norm1_g_within}
use Rattle.residual.proofs.ByCommand.{R-with_scale}
use Rattle.certificate.proofs.Sizes.{size_scale}
use Rattle.residual.proofs.Midway.{Started, started}
use Rattle.residual.proofs.put_scaled_function.Goals as goal

-- the table t as it is lent, u cleared, v after g times the scale x, w after y, which is minus the target
module _ (r : Register) (s : Scheme) (within : Reg.Within r) (valid : Valid r s) {t u : SquareTable} (is_side : t.side ≡ side r.choices s) (long : table_numbers ≤ length t.numbers.now)
    (a : Becomes (cleared (t.side * t.side) t.numbers.now) t u) where
  square : t.side * t.side ≤ length t.numbers.now
  square = rw is_side (omega (arith, side_square r s valid))

  abbrev scaled : ℕ → Form
  scaled scale = times (pos scale) (g (coefficient r) r s)

  room_cleared : Room 0 u
  room_cleared = rw (a.same_side, a.holds) (bounded_cleared t.side t.numbers.now square)

  module _ (scale : ℕ) {x : ℤ} (i : x ≡ pos scale) (low : scale ≤ max_scale) {v : SquareTable} (b : Adds (times x (g (coefficient r) r s)) u v) where
    function : Adds (scaled scale) u v
    function = rw i at b

    room_function : Room max_before_monomial v
    room_function =
        room_after room_cleared function (rw (a.same_side, is_side) (below_times (pos scale) (g_below (coefficient r) r s valid))) max_before_monomial
        (omega (arith, norm1_times (pos scale) (g (coefficient r) r s), mul-le-mul low (norm1_g_within (coefficient r) r s (small r within))))

    whole : (target : ℤ) {y : ℤ} → y ≡ neg_ℤ target → {w : SquareTable} → Adds (mono 0 0 y ∷ []) v w → Becomes (with_table t.side (R (coefficient r) r s (with_scale scale target)) t.numbers.now) t w
    whole target j d =
        let last = mono 0 0 (neg_ℤ target) ∷ [] in
        let e = adds_then function (rw j at d) in
        record {
          same_reference = e.same_reference ∙ a.same_reference;
          same_side = e.same_side ∙ a.same_side;
          holds =
              e.holds
              ∙ rw (a.same_side, a.holds, is_side)
              (stored (below_append (below_times (pos scale) (g_below (coefficient r) r s valid)) (below_∷ (omega arith) (omega arith) below-[])) t.numbers.now (rw is_side at square)
              ∙ with_table_cong (side r.choices s) _ (R (coefficient r) r s (with_scale scale target)) t.numbers.now (λ i j _ _. entry-append (scaled scale) last i j ∙ sym (R-with_scale (coefficient r) r s scale target i j)));
        }

-- the first command
module _ {r : Register} {s : Scheme} {bytes : List ℕ} {reads : Reads r s bytes} (first : Started r s bytes reads) where
  abbrev scale : ℕ
  scale = nat_at 4 bytes 1

  abbrev target : ℤ
  target = int_at w64 bytes 5

  scale_low : scale ≤ max_scale
  scale_low = first.midway.within.scale_within

  scale_read : {x : ℕ} → x ≡ scale → to_z w64 x ≡ pos scale
  scale_read e = ap (to_z w64) e ∙ read_unsigned w64 scale (omega (arith, scale_low))

  -- the target, as the code has it, and its negation
  module _ {x : ℤ} (f : SFits w64 x) (e : x ≡ target) where
    less : pos 0 -ℤ to_z w64 (of_z w64 x) ≡ neg_ℤ target
    less = ap (λ z. pos 0 -ℤ z) (to_z-of_z f ∙ e) ∙ +ℤ_idl (neg_ℤ target)

    less_low : nat_abs (neg_ℤ target) ≤ max_target
    less_low = rw (nat_abs_neg target) first.midway.within.target_within

    less_fits : SFits w64 (pos 0 -ℤ to_z w64 (of_z w64 x))
    less_fits = rw less (fits_signed w64 (neg_ℤ target) (omega (arith, less_low)))

    less_read : to_z w64 (of_z w64 (pos 0 -ℤ to_z w64 (of_z w64 x))) ≡ neg_ℤ target
    less_read = rw less (read_signed w64 (neg_ℤ target) (omega (arith, less_low)))

pub clear-requires : goal.clear-requires
clear-requires c =
    let q = c.args.quadratization.now in
    rw c.requires.side_value (omega (arith, side_square q.register q.scheme q.scheme_valid, c.requires.table_numbers_in_bounds))

pub read-scale-requires : goal.read-scale-requires
read-scale-requires c = omega (arith, size_scale, (started _ _ c.args.bytes.now c.requires.reads).room)

pub read-target-requires : goal.read-target-requires
read-target-requires c = omega (arith, size_scale, (started _ _ c.args.bytes.now c.requires.reads).room)

pub add_function-requires-clause-scale_bound : goal.add_function-requires-clause-scale_bound
add_function-requires-clause-scale_bound c =
    let first = started _ _ c.args.bytes.now c.requires.reads in
    rw (scale_read first c.read-scale.ensures) (omega (arith, scale_low first))

pub overflow_sub-target : goal.overflow_sub-target
overflow_sub-target c =
    let first = started _ _ c.args.bytes.now c.requires.reads in
    less_fits first (record { sfits = c.read-target.type_inv }) c.read-target.ensures

pub add_monomial-requires-clause-room : goal.add_monomial-requires-clause-room
add_monomial-requires-clause-room c =
    let q = c.args.quadratization.now in
    let first = started _ _ c.args.bytes.now c.requires.reads in
    room_function q.register q.scheme (valid_register q.register_valid).within q.scheme_valid c.requires.side_value c.requires.table_numbers_in_bounds c.clear.ensures
    (scale first) (scale_read first c.read-scale.ensures) (scale_low first) c.add_function.ensures

pub add_monomial-requires-clause-c_bound : goal.add_monomial-requires-clause-c_bound
add_monomial-requires-clause-c_bound c =
    let first = started _ _ c.args.bytes.now c.requires.reads in
    let f : SFits w64 c.read-target.result = record { sfits = c.read-target.type_inv } in
    rw (less_read first f c.read-target.ensures) (omega (arith, less_low first f c.read-target.ensures))

pub returns : goal.returns
returns c =
    let q = c.args.quadratization.now in
    let first = started _ _ c.args.bytes.now c.requires.reads in
    whole q.register q.scheme (valid_register q.register_valid).within q.scheme_valid c.requires.side_value c.requires.table_numbers_in_bounds c.clear.ensures
    (scale first) (scale_read first c.read-scale.ensures) (scale_low first) c.add_function.ensures
    (target first) (less_read first (record { sfits = c.read-target.type_inv }) c.read-target.ensures) c.add_monomial.ensures
