use mathlib.Core.Path.{◌≡◌, ◌∙◌}
use Prim.Native.Nat.{ℕ, ◌+◌, ◌≤◌, ◌<◌, ◌-◌}
use native.Mathlib.Omega.{arith}
use native.Mathlib.Numerals.{add-one}
use lib.IntN.{ℤ, pos}
use lib.ListN.{get_or}
use mir.Syntax.{w64}
use Rattle.integers.specs.Lists.{join_below}
use Rattle.integers.proofs.Machine.{fits_signed, read_unsigned}
use Rattle.forms.specs.Form.{times}
use Rattle.forms.specs.declared.SquareTable.{SquareTable}
use Rattle.forms.specs.Store.{Room, Adds, max_before_form, max_before_forms}
use Rattle.forms.proofs.Added.{adds_none, adds_then, adds_same, room_after}
use Rattle.register.specs.declared.Register.{Register}
use Rattle.register.specs.Register.{coefficient}
use Rattle.register.specs.Valid.{Within}
use Rattle.scheme.specs.declared.Scheme.{Scheme}
use Rattle.scheme.specs.Scheme.{left, side}
use Rattle.scheme.specs.Valid.{Valid}
use Rattle.penalty.specs.Weights.{weight}
use Rattle.penalty.specs.Penalty.{bracket, penalty_of}
use Rattle.penalty.proofs.Penalty.{below_penalties}
use Rattle.penalty.proofs.Bounds.{penalties_norm, weight_read_small}
use Rattle.scheme.proofs.Truncated.{valid_register}
use Rattle.penalty.proofs.add_penalties.Goals as goal

-- the table after i products has room for one more
room : (r : Register) (s : Scheme) (i : ℕ) {before now : SquareTable} → Within r → Valid r s → before.side ≡ side r.choices s → Room max_before_forms before →
    i ≤ s.products → Adds (join_below i (penalty_of (coefficient r) r s)) before now → Room max_before_form now
room r s i within valid e h l a =
    room_after h a (rw e (below_penalties (coefficient r) r s valid i l)) max_before_form
    (omega (arith, penalties_norm r s within valid.within.factor i, valid.within.products_within))

-- the operands of product n + i, as the code reads them
same : (n i : ℕ) → n + i - n ≡ i
same n i = omega arith

operands : (r : Register) (s : Scheme) (i : ℕ) → Valid r s → i < s.products → (get_or s.lefts i 0 < r.choices + i) × (get_or s.rights i 0 < r.choices + i)
operands r s i valid l =
    let p = valid.within.products (r.choices + i) (omega arith) (omega arith) in
    let x : left r.choices s (r.choices + i) < r.choices + i = omega (arith, p.ordered, p.falls) in
    (rw (same r.choices i) at x, rw (same r.choices i) at p.falls)

turn : (r : Register) (s : Scheme) (i : ℕ) (w : ℤ) {before now after : SquareTable} → w ≡ weight (coefficient r) r s (r.choices + i) →
    Adds (join_below i (penalty_of (coefficient r) r s)) before now →
    Adds (times w (bracket (r.choices + i) (get_or s.lefts i 0) (get_or s.rights i 0))) now after →
    Adds (join_below (i + 1) (penalty_of (coefficient r) r s)) before after
unfolding join_below
turn r s i w e a b = adds_same (adds_then a b) (rw (e, add-one, same r.choices i))

pub loop-i-init : goal.loop-i-init
unfolding join_below
loop-i-init c = adds_none _

pub overflow_cast-weight : goal.overflow_cast-weight
overflow_cast-weight c =
    let q = c.args.quadratization.now in
    let l = weight_read_small q.register q.scheme _ _ (valid_register q.register_valid).within q.scheme_valid.within.factor c.weight-weight.ensures in
    fits_signed w64 (pos c.weight-weight.result) (omega (arith, l))

pub add_bracket-requires-clause-room : goal.add_bracket-requires-clause-room
add_bracket-requires-clause-room c =
    let q = c.args.quadratization.now in
    room q.register q.scheme c.loop-i.i (valid_register q.register_valid).within q.scheme_valid c.requires.side_value c.requires.room (omega arith) c.loop-i.invariant

pub add_bracket-requires-clause-k_bound : goal.add_bracket-requires-clause-k_bound
add_bracket-requires-clause-k_bound c =
    let q = c.args.quadratization.now in
    let o = operands q.register q.scheme c.loop-i.i q.scheme_valid (omega arith) in
    (omega (arith, c.loop-i.invariant.same_side), rw c.from.ensures o.0, rw c.from-in-loop-i.ensures o.1)

pub add_bracket-requires-clause-w_bound : goal.add_bracket-requires-clause-w_bound
add_bracket-requires-clause-w_bound c =
    let q = c.args.quadratization.now in
    let w = weight_read_small q.register q.scheme _ _ (valid_register q.register_valid).within q.scheme_valid.within.factor c.weight-weight.ensures in
    rw (read_unsigned w64 c.weight-weight.result (omega (arith, w))) (omega (arith, w))

pub loop-i-preserved : goal.loop-i-preserved
loop-i-preserved c =
    let q = c.args.quadratization.now in
    let w = weight_read_small q.register q.scheme _ _ (valid_register q.register_valid).within q.scheme_valid.within.factor c.weight-weight.ensures in
    turn q.register q.scheme c.loop-i.i _ (read_unsigned w64 _ (omega (arith, w)) ∙ c.weight-weight.ensures) c.loop-i.invariant (rw (c.from.ensures, c.from-in-loop-i.ensures) at c.add_bracket.ensures)
