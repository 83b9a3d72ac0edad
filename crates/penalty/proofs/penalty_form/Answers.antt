-- The table is cleared, and g and the penalties are added.
use mathlib.Core.Path.{◌≡◌, ◌∙◌}
use mathlib.Core.List.{List}
use Prim.Native.Nat.{◌*◌, ◌≤◌}
use native.Mathlib.Omega.{arith}
use lib.IntN.{ℤ, pos}
use lib.ListN.{length}
use borrow.Author.Rules.{rules}
use Rattle.integers.specs.Lists.{join_below}
use Rattle.forms.specs.declared.SquareTable.{SquareTable}
use Rattle.forms.specs.Form.{times, entry}
use Rattle.forms.specs.Table.{table_numbers, with_table}
use Rattle.forms.specs.Store.{cleared, Room, Becomes, Adds, max_before_forms}
use Rattle.forms.proofs.Store.{stored, bounded_cleared, bounded_weaken}
use Rattle.forms.proofs.Times.{times_one}
use Rattle.forms.proofs.Added.{adds_then, room_after}
use Rattle.register.specs.declared.Register.{Register}
use Rattle.register.specs.Register.{coefficient}
use Rattle.register.specs.Valid.{Within}
use Rattle.scheme.specs.declared.Scheme.{Scheme}
use Rattle.scheme.specs.Scheme.{side}
use Rattle.scheme.specs.Function.{g}
use Rattle.scheme.specs.Valid.{Valid}
use Rattle.scheme.proofs.Table.{g_below}
use Rattle.scheme.proofs.Truncated.{valid_register}
use Rattle.penalty.specs.Penalty.{penalty_of, h}
use Rattle.penalty.proofs.Penalty.{below_h}
use Rattle.penalty.proofs.Bounds.{g_norm, side_square}
use Rattle.penalty.proofs.penalty_form.Goals as goal

-- the table t as it is lent, u cleared, v after g, w after the penalties
module _ (r : Register) (s : Scheme) (within : Within r) (valid : Valid r s) {t u : SquareTable} (is_side : t.side ≡ side r.choices s) (long : table_numbers ≤ length t.numbers.now)
    (a : Becomes (cleared (t.side * t.side) t.numbers.now) t u) where
  square : t.side * t.side ≤ length t.numbers.now
  square = rw is_side (omega (arith, side_square r s valid))

  room_cleared : Room max_before_forms u
  room_cleared = rw (a.same_side, a.holds) (bounded_weaken (bounded_cleared t.side t.numbers.now square) (omega arith))

  module _ {v : SquareTable} (b : Adds (times (pos 1) (g (coefficient r) r s)) u v) where
    room_function : Room max_before_forms v
    room_function = room_after {b = 0} (rw (a.same_side, a.holds) (bounded_cleared t.side t.numbers.now square)) b (rw (times_one (g (coefficient r) r s), a.same_side, is_side) (g_below (coefficient r) r s valid)) max_before_forms (rw (times_one (g (coefficient r) r s)) (omega (arith, g_norm r s within)))

    whole : {w : SquareTable} {x : List ℤ} → Adds (join_below s.products (penalty_of (coefficient r) r s)) v w → x ≡ w.numbers.now → x ≡ with_table (side r.choices s) (entry (h (coefficient r) r s)) t.numbers.now
    unfolding h
    whole d e = e ∙ (adds_then b d).holds ∙ rw (times_one (g (coefficient r) r s), a.same_side, a.holds, is_side) (stored (below_h (coefficient r) r s valid) t.numbers.now (rw is_side at square))

pub add_function-requires-clause-room : goal.add_function-requires-clause-room
add_function-requires-clause-room c =
    let q = c.args.quadratization.now in
    room_cleared q.register q.scheme (valid_register q.register_valid).within q.scheme_valid c.side.ensures c.requires c.clear.ensures

pub add_penalties-requires-clause-room : goal.add_penalties-requires-clause-room
add_penalties-requires-clause-room c =
    let q = c.args.quadratization.now in
    room_function q.register q.scheme (valid_register q.register_valid).within q.scheme_valid c.side.ensures c.requires c.clear.ensures c.add_function.ensures

pub returns : goal.returns
returns c =
    let q = c.args.quadratization.now in
    whole q.register q.scheme (valid_register q.register_valid).within q.scheme_valid c.side.ensures c.requires c.clear.ensures c.add_function.ensures c.add_penalties.ensures (search rules)
