use Prim.Native.Nat.{ℕ, ◌+◌, ◌*◌, ◌≤◌, ◌<◌, min}
use mathlib.Core.Path.{◌≡◌}
use native.Mathlib.Numerals.{add-one}
use native.Mathlib.Decide.{ℕ_discrete}
use native.Mathlib.Omega.{arith}
use lib.IntN.{ℤ, pos, neg_ℤ, nat_abs, ◌-ℤ◌, +ℤ_idl}
use lib.ListN.{get_or}
use mir.Syntax.{w8, w16, w64}
use mir.Val.{SFits, to_z, of_z}
use borrow.Author.Rules.{rules}
use Rattle.integers.proofs.Order.{nat_abs_neg, nat_abs-*-≤}
use Rattle.integers.proofs.Machine.{signed_small, cast_read, read_signed}
use Rattle.forms.specs.declared.SquareTable.{SquareTable}
use Rattle.forms.specs.Store.{Room, Adds, max_before_monomial}
use Rattle.forms.proofs.Added.{adds_none, adds_then, adds_same}
use Rattle.register.specs.Limits.{row_entries}
use Rattle.register.specs.Register.{row_entry}
use Rattle.register.proofs.Entries.{entry_there, entry_past}
use Rattle.certificate.specs.Limits.{max_row_multiplier}
use Rattle.residual.proofs.RowAdded.{first, first_none, first_next, adds_all, first_room}
use Rattle.residual.proofs.add_row_form.Goals.{Start}
use Rattle.residual.proofs.add_row_form.Goals as goal

-- a number of 8 bits, and one of 16

byte_low : (x : ℤ) → SFits w8 x → nat_abs x ≤ 128
byte_low x f = omega (arith, signed_small w8 x f)

byte_read : (x : ℤ) → SFits w8 x → to_z w64 (of_z w64 (to_z w8 (of_z w8 x))) ≡ x
byte_read x f = cast_read w8 w64 x (omega arith) f

word_low : (x : ℤ) → SFits w16 x → nat_abs (neg_ℤ x) ≤ 32_768
word_low x f = omega (arith, signed_small w16 x f, nat_abs_neg x)

word_less_read : (x : ℤ) → SFits w16 x → to_z w64 (of_z w64 (pos 0 -ℤ to_z w64 (of_z w64 (to_z w16 (of_z w16 x))))) ≡ neg_ℤ x
word_less_read x f =
    rw (cast_read w16 w64 x (omega arith) f, +ℤ_idl (neg_ℤ x))
    (read_signed w64 (neg_ℤ x) (omega (arith, word_low x f)))

module _ (c : Start) where
  abbrev a : ℕ → ℤ
  a = row_entry c.args.register.now c.args.row

  -- m as the code has it
  m_read : to_z w64 (of_z w64 c.args.m) ≡ c.args.m
  m_read = read_signed w64 c.args.m (omega (arith, c.requires.m_bound))

  -- there is room after j choices
  room : (j : ℕ) {t : SquareTable} → Adds (first a c.args.variable (to_z w64 (of_z w64 c.args.m)) j) c.args.table.now t → j ≤ c.args.register.now.choices → ((k : ℕ) → k < j → nat_abs (a k) ≤ 128) → Room max_before_monomial t
  room j d l small =
      let p = c.requires.places in
      first_room a c.args.variable c.args.m j (rw m_read at d) (omega (arith, p.0)) (omega (arith, p.1)) (omega (arith, c.requires.few)) c.requires.m_bound small c.requires.room

pub loop-j-init : goal.loop-j-init
loop-j-init c = record { so_far = adds_same (adds_none c.args.table.now) (first_none _ _ _); small = λ k l. absurd (omega arith) }

-- a turn: the entry that is read

pub add_multiple-requires-clause-room : goal.add_multiple-requires-clause-room
add_multiple-requires-clause-room c =
    let i = c.loop-j.invariant in
    room (goal.at.add_multiple-requires-clause-room c).Start c.loop-j.j i.so_far (omega arith) i.small

pub add_multiple-requires-clause-c_bound : goal.add_multiple-requires-clause-c_bound
add_multiple-requires-clause-c_bound c =
    let k = (goal.at.add_multiple-requires-clause-c_bound c).Start in
    let x = get_or c.args.register.now.row_entries (c.args.row * 32 + c.loop-j.j) (pos 0) in
    let byte : SFits w8 x = search rules in
    rw (m_read k, byte_read x byte) (omega (arith, nat_abs-*-≤ c.args.m x max_row_multiplier 128 c.requires.m_bound (byte_low x byte)))

pub loop-j-preserved : goal.loop-j-preserved
loop-j-preserved c =
    let k = (goal.at.loop-j-preserved c).Start in
    let i = c.loop-j.invariant in
    let x = get_or c.args.register.now.row_entries (c.args.row * 32 + c.loop-j.j) (pos 0) in
    let byte : SFits w8 x = search rules in
    let there : a k c.loop-j.j ≡ x = entry_there c.args.register.now.row_entries c.args.row c.loop-j.j (omega arith) in
    record {
      so_far = adds_same (adds_then i.so_far c.add_multiple.ensures) (rw (byte_read x byte, add-one c.args.variable, add-one c.loop-j.j, ← there) (first_next (a k) c.args.variable _ c.loop-j.j));
      small = below_more (a k) c.loop-j.j i.small (rw there (byte_low x byte));
    }
  where
    below_more : (a : ℕ → ℤ) (j : ℕ) → ((k : ℕ) → k < j → nat_abs (a k) ≤ 128) → nat_abs (a j) ≤ 128 → (k : ℕ) → k < j + 1 → nat_abs (a k) ≤ 128
    below_more a j h l k b = go (ℕ_discrete k j)
      where
        go : Dec (k ≡ j) → nat_abs (a k) ≤ 128
        go (yes e) = rw e l
        go (no d) = h k (omega arith)

-- the total

pub add_multiple-requires-2-clause-room : goal.add_multiple-requires-2-clause-room
add_multiple-requires-2-clause-room c =
    let i = c.loop-j.invariant in
    room (goal.at.add_multiple-requires-2-clause-room c).Start c.loop-j.j i.so_far (omega arith) i.small

pub add_multiple-requires-2-clause-c_bound : goal.add_multiple-requires-2-clause-c_bound
add_multiple-requires-2-clause-c_bound c =
    let k = (goal.at.add_multiple-requires-2-clause-c_bound c).Start in
    let x = get_or c.args.register.now.row_totals c.args.row (pos 0) in
    let word : SFits w16 x = search rules in
    rw (m_read k, word_less_read x word) (omega (arith, nat_abs-*-≤ c.args.m (neg_ℤ x) max_row_multiplier 32_768 c.requires.m_bound (word_low x word)))

pub returns : goal.returns
returns c =
    let k = (goal.at.returns c).Start in
    let x = get_or c.args.register.now.row_totals c.args.row (pos 0) in
    let word : SFits w16 x = search rules in
    let n = c.args.register.now.choices in
    let all : c.loop-j.j ≡ min n row_entries = omega arith in
    adds_all (a k) c.args.variable c.args.m c.loop-j.j n x (omega arith) (λ j l b. entry_past c.args.register.now.row_entries c.args.row j (omega arith))
    (rw (m_read k, word_less_read x word, add-one c.args.variable) at (adds_then c.loop-j.invariant.so_far c.add_multiple-2.ensures))
