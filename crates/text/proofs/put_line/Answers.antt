-- The letter, the fields and byte 0A, one after the other.
use Prim.Native.Nat.{ℕ, ◌+◌, ◌≤◌, ◌<◌}
use native.Mathlib.Omega.{arith}
use native.Mathlib.Numerals.{add-one}
use mathlib.Core.Path.{◌≡◌, sym, ap, ◌∙◌}
use mathlib.Core.List.{List, [], ◌∷◌}
use lib.IntN.{ℤ, pos}
use lib.ListN.{length, get_or}
use mir.Facts.{to_z-of_z}
use mir.Syntax.{w64}
use mir.Val.{SFits, to_z, of_z}
use borrow.Author.Rules.{rules}
use Rattle.integers.specs.Lists.{join_below}
use Rattle.wire.specs.Number.{written}
use Rattle.wire.proofs.Written.{room as going_room}
use Rattle.text.specs.declared.Writer.{Writer}
use Rattle.text.specs.Text.{line}
use Rattle.text.specs.Fields.{field}
use Rattle.text.specs.Writing.{Writes}
use Rattle.text.proofs.Lines.{field_of, line-fields, length-line}
use Rattle.text.proofs.Writing.{writes_then, writes_same, writes_nothing, length_kept}
use Rattle.text.proofs.put_line.Goals as goal

pub put_byte-requires : goal.put_byte-requires
put_byte-requires c = omega (arith, length-line c.args.letter c.args.numbers.now)

pub loop-number-init : goal.loop-number-init
unfolding join_below
loop-number-init c = writes_nothing _

-- a number, as its bits are read
number : (z : ℤ) → SFits w64 z → field (to_z w64 (of_z w64 z)) ≡ field z
number z f = ap field (to_z-of_z f)

-- after i numbers there is room for the next
next : (xs : List ℤ) (i : ℕ) {t u : Writer} → Writes (join_below i (field_of xs)) t u → i < length xs → t.at + length (join_below (length xs) (field_of xs)) ≤ length t.out.now → u.at + length (field_of xs i) ≤ length u.out.now
next xs i {t} {u} a l h = going_room (field_of xs) (length xs) t.at t.out.now (record { few = omega arith; wrote = (a.value, a.out_after) }) l h

pub put_integer-requires : goal.put_integer-requires
put_integer-requires c =
    let xs = c.args.numbers.now in
    let i = c.loop-number.number-index in
    omega (
      arith,
      ap length (number (get_or xs i (pos 0)) (search rules)),
      next xs i c.loop-number.invariant (omega arith) (omega (arith, length-line c.args.letter xs, length_kept c.put_byte.ensures)),
    )

pub loop-number-preserved : goal.loop-number-preserved
unfolding join_below
loop-number-preserved c =
    writes_same (writes_then c.loop-number.invariant (writes_same c.put_integer.ensures (number (get_or c.args.numbers.now c.loop-number.number-index (pos 0)) (search rules)))) (rw add-one)

-- all fields
module _ (letter : ℕ) (xs : List ℤ) (i : ℕ) (e : i ≡ length xs) {t u v : Writer} (a : Writes (letter ∷ []) t u) (b : Writes (join_below i (field_of xs)) u v) where
  fields : Writes (join_below (length xs) (field_of xs)) u v
  fields = rw e at b

  room : t.at + length (line letter xs) ≤ length t.out.now → v.at + 1 ≤ length v.out.now
  room h = omega (arith, length-line letter xs, length_kept a, length_kept b, fields.value)

  whole : {w : Writer} → Writes (0x0A ∷ []) v w → Writes (line letter xs) t w
  whole d = writes_same (writes_then (writes_then a fields) d) (sym (line-fields letter xs))

pub put_byte-requires-2 : goal.put_byte-requires-2
put_byte-requires-2 c = room c.args.letter c.args.numbers.now c.loop-number.number-index (omega arith) c.put_byte.ensures c.loop-number.invariant c.requires

-- the buffer that is lent, as the writer leaves it
written_out : {bytes x : List ℕ} {t u : Writer} → Writes bytes t u → x ≡ u.out.now → x ≡ written t.out.now t.at bytes
written_out w e = e ∙ w.out_after

pub returns : goal.returns
returns c =
    let w = whole c.args.letter c.args.numbers.now c.loop-number.number-index (omega arith) c.put_byte.ensures c.loop-number.invariant c.put_byte-2.ensures in
    record { value = w.value; out_after = written_out w (search rules) }
