-- The loop over the commands: the table holds R of those read so far.
use mathlib.Core.Path.{refl}
use mathlib.Core.Logic.{inl, ⊎_elim}
use native.Mathlib.Omega.{arith}
use lib.ListN.{get_or}
use mir.Syntax.{w64}
use mir.Val.{SFits}
use mir.Facts.{to_z-of_z}
use borrow.Author.Rules.{rules}
use Rattle.scheme.proofs.Truncated.{valid_register}
use Rattle.certificate.specs.Answer.{multiplier_at}
use Rattle.certificate.proofs.Sizes.{size_above}
use Rattle.residual.proofs.Squares.{range_of}
use Rattle.residual.proofs.Adds.{addable}
use Rattle.residual.proofs.Midway.{multiplier_allowed, square_allowed}
use Rattle.residual.proofs.Filled.{Begun, side_small, first_filled, filled_inside, side_is, room_left, bytes_there, row_named, multiplier_held, row_held, square_held, held_last}
use Rattle.residual.proofs.put_commands.Goals.{Start}
use Rattle.residual.proofs.put_commands.Goals as goal

begun : (c : Start) → Begun c.args.quadratization.now.register c.args.quadratization.now.scheme c.args.bytes.now c.args.table.now
begun c = record {
  ready = record { register = (valid_register c.args.quadratization.now.register_valid).within; scheme = c.args.quadratization.now.scheme_valid; reads = c.requires.reads };
  is_side = c.requires.side_value;
  long = c.requires.table_numbers_in_bounds;
}

pub loop-at-init : goal.loop-at-init
loop-at-init c = record {
  same_reference = refl;
  same_side = refl;
  filled = rw c.command_size-at.ensures (first_filled (begun (goal.at.loop-at-init c).Start).ready c.args.table.now.numbers.now c.requires.table_numbers_in_bounds (rw c.requires.side_value at c.requires.starts));
}

pub overflow_add-end : goal.overflow_add-end
overflow_add-end c = record { fits = omega (arith, bytes_there (begun (goal.at.overflow_add-end c).Start) c.loop-at.invariant, c.command_size.ensures) }

-- a square

pub square_at-square-requires : goal.square_at-square-requires
square_at-square-requires c = rw c.in-58.is at (bytes_there (begun (goal.at.square_at-square-requires c).Start) c.loop-at.invariant)

pub subtract_square-requires-clause-square_range : goal.subtract_square-requires-clause-square_range
subtract_square-requires-clause-square_range c =
    rw c.square_at-square.ensures (range_of (square_allowed _ _ _ c.requires.reads c.loop-at.invariant.filled.midway c.in-58.is))

pub subtract_square-requires-clause-side_le_square_entries : goal.subtract_square-requires-clause-side_le_square_entries
subtract_square-requires-clause-side_le_square_entries c =
    rw (side_is (begun (goal.at.subtract_square-requires-clause-side_le_square_entries c).Start) c.loop-at.invariant) (side_small (begun (goal.at.subtract_square-requires-clause-side_le_square_entries c).Start).ready)

pub subtract_square-requires-clause-room : goal.subtract_square-requires-clause-room
subtract_square-requires-clause-room c = room_left (begun (goal.at.subtract_square-requires-clause-room c).Start) c.loop-at.invariant

pub loop-at-smaller-in-58 : goal.loop-at-smaller-in-58
loop-at-smaller-in-58 c =
    omega (arith, bytes_there (begun (goal.at.loop-at-smaller-in-58 c).Start) c.loop-at.invariant, size_above (get_or c.args.bytes.now c.loop-at.at 0), c.command_size.ensures)

pub loop-at-preserved-in-58 : goal.loop-at-preserved-in-58
loop-at-preserved-in-58 c =
    rw c.command_size.ensures (square_held (begun (goal.at.loop-at-preserved-in-58 c).Start) c.loop-at.invariant c.in-58.is (rw c.square_at-square.ensures at c.subtract_square.ensures))

-- a multiplier command

pub multiplier_at-t-requires-clause-at_in_bounds : goal.multiplier_at-t-requires-clause-at_in_bounds
multiplier_at-t-requires-clause-at_in_bounds c = bytes_there (begun (goal.at.multiplier_at-t-requires-clause-at_in_bounds c).Start) c.loop-at.invariant

pub add_multiplier-requires-clause-addable : goal.add_multiplier-requires-clause-addable
unfolding multiplier_at
add_multiplier-requires-clause-addable c =
    let ok = multiplier_allowed _ _ _ c.requires.reads c.loop-at.invariant.filled.midway (inl (omega arith, omega arith)) in
    rw c.multiplier_at-t.ensures (addable _ _ (multiplier_at c.args.bytes.now c.loop-at.at) ok (omega arith) (omega arith))

pub add_multiplier-requires-clause-room : goal.add_multiplier-requires-clause-room
add_multiplier-requires-clause-room c = room_left (begun (goal.at.add_multiplier-requires-clause-room c).Start) c.loop-at.invariant

pub loop-at-smaller : goal.loop-at-smaller
loop-at-smaller c =
    omega (arith, bytes_there (begun (goal.at.loop-at-smaller c).Start) c.loop-at.invariant, size_above (get_or c.args.bytes.now c.loop-at.at 0), c.command_size.ensures)

pub loop-at-preserved : goal.loop-at-preserved
loop-at-preserved c =
    rw c.command_size.ensures (multiplier_held (begun (goal.at.loop-at-preserved c).Start) c.loop-at.invariant (omega arith) (omega arith) (rw c.multiplier_at-t.ensures at (c.add_multiplier.ensures c.args.quadratization.now.register refl)))

-- a row's form

pub multiplier_at-named-requires-clause-at_in_bounds : goal.multiplier_at-named-requires-clause-at_in_bounds
multiplier_at-named-requires-clause-at_in_bounds c = bytes_there (begun (goal.at.multiplier_at-named-requires-clause-at_in_bounds c).Start) c.loop-at.invariant

pub add_row_form-requires-clause-row_within : goal.add_row_form-requires-clause-row_within
add_row_form-requires-clause-row_within c =
    let h = begun (goal.at.add_row_form-requires-clause-row_within c).Start in
    rw c.multiplier_at-named.ensures (omega (arith, (row_named h c.loop-at.invariant c.in-59.is).row_there, h.ready.register.rows.few))

pub add_row_form-requires-clause-places : goal.add_row_form-requires-clause-places
add_row_form-requires-clause-places c =
    rw (side_is (begun (goal.at.add_row_form-requires-clause-places c).Start) c.loop-at.invariant, c.multiplier_at-named.ensures) (omega arith, omega (arith, (row_named (begun (goal.at.add_row_form-requires-clause-places c).Start) c.loop-at.invariant c.in-59.is).variable_there))

pub add_row_form-requires-clause-few : goal.add_row_form-requires-clause-few
add_row_form-requires-clause-few c = (begun (goal.at.add_row_form-requires-clause-few c).Start).ready.register.choices.few

pub add_row_form-requires-clause-m_bound : goal.add_row_form-requires-clause-m_bound
add_row_form-requires-clause-m_bound c =
    let fits : SFits w64 c.multiplier_at-named.result.m = search rules in
    rw (to_z-of_z fits, c.multiplier_at-named.ensures) (row_named (begun (goal.at.add_row_form-requires-clause-m_bound c).Start) c.loop-at.invariant c.in-59.is).m_within

pub add_row_form-requires-clause-room : goal.add_row_form-requires-clause-room
add_row_form-requires-clause-room c = room_left (begun (goal.at.add_row_form-requires-clause-room c).Start) c.loop-at.invariant

pub loop-at-smaller-in-59 : goal.loop-at-smaller-in-59
loop-at-smaller-in-59 c =
    omega (arith, bytes_there (begun (goal.at.loop-at-smaller-in-59 c).Start) c.loop-at.invariant, size_above (get_or c.args.bytes.now c.loop-at.at 0), c.command_size.ensures)

pub loop-at-preserved-in-59 : goal.loop-at-preserved-in-59
loop-at-preserved-in-59 c =
    let fits : SFits w64 c.multiplier_at-named.result.m = search rules in
    rw c.command_size.ensures (row_held (begun (goal.at.loop-at-preserved-in-59 c).Start) c.loop-at.invariant c.in-59.is (rw (to_z-of_z fits, c.multiplier_at-named.ensures) at c.add_row_form.ensures))

-- the end

pub returns-in_default : goal.returns-in_default
returns-in_default c = held_last (begun (goal.at.returns-in_default c).Start) c.loop-at.invariant (⊎_elim (λ r. omega arith) (λ e. omega arith)) (λ e. omega arith)

pub returns-in_default-2 : goal.returns-in_default-2
returns-in_default-2 c =
    held_last (begun (goal.at.returns-in_default-2 c).Start) c.loop-at.invariant (⊎_elim (λ r. omega arith) (λ e. omega arith)) (λ e. omega arith)

pub returns : goal.returns
returns c = λ p e d. absurd (filled_inside (begun (goal.at.returns c).Start).ready c.args.table.now.numbers.now c.requires.table_numbers_in_bounds c.loop-at.invariant.filled c.loop-at-test.false)
