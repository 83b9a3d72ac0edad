-- The table while commands that are accepted are read: it holds R of those read so far.
use Prim.Native.Nat.{ℕ, ◌+◌, ◌*◌, ◌≤◌}
use mathlib.Core.Path.{◌≡◌, ◌∙◌, ap}
use mathlib.Core.Bool.{true}
use mathlib.Core.Logic.{inl, inr}
use mathlib.Core.List.{List}
use native.Mathlib.Omega.{arith}
use lib.IntN.{ℤ}
use lib.ListN.{length, get_or}
use Rattle.forms.specs.Form.{times}
use Rattle.forms.specs.Table.{table_numbers, with_table}
use Rattle.forms.specs.declared.SquareTable.{SquareTable}
use Rattle.forms.specs.Store.{add_form, Bounded, Room, Adds, Becomes, max_before_form}
use Rattle.forms.proofs.Store.{bounded_weaken}
use Rattle.forms.proofs.Table.{with_table_at, with_table_past, with_table-length, is_with_table}
use Rattle.wire.specs.Part.{accepted}
use Rattle.wire.specs.Rows.{Progress}
use Rattle.wire.proofs.Accepting.{reached}
use Rattle.register.specs.declared.Register.{Register}
use Rattle.register.specs.Register.{coefficient}
use Rattle.register.specs.Valid as Reg
use Rattle.scheme.specs.declared.Scheme.{Scheme}
use Rattle.scheme.specs.Scheme.{side}
use Rattle.scheme.specs.Valid.{Valid}
use Rattle.penalty.proofs.Bounds.{side_square}
use Rattle.certificate.specs.Limits.{square_entries}
use Rattle.certificate.specs.Certificate.{Certificate}
use Rattle.certificate.specs.RowForm.{row_form_of}
use Rattle.certificate.specs.Format.{command_size, commands_in_job}
use Rattle.certificate.specs.Answer.{IsMultiplier, named_of, multiplier_at, square_read}
use Rattle.residual.specs.Residual.{square_at, R}
use Rattle.residual.specs.Built.{with_scale_in, Reads, added, less_where}
use Rattle.residual.proofs.Bounds.{small}
use Rattle.residual.proofs.Adds.{added_signed, RowCommand, row_command}
use Rattle.residual.proofs.Table.{signed_form}
use Rattle.residual.proofs.RowBounds.{side_within}
use Rattle.residual.proofs.ByCommand.{holds_r, table_multiplier, table_square, bounded_R}
use Rattle.residual.proofs.Midway.{Midway, started, reads_on, multiplier_allowed, multiplier_on, square_on, ends_here, command_room}

-- a table put over another
pub with_table_again : (n : ℕ) (a b : ℕ → ℕ → ℤ) (lent : List ℤ) → n * n ≤ length lent → with_table n a (with_table n b lent) ≡ with_table n a lent
with_table_again n a b lent room =
    let len = with_table-length n b lent room in
    is_with_table n a lent (with_table n a (with_table n b lent)) (with_table-length n a (with_table n b lent) (rw len room) ∙ len) room
    (with_table_at n a (with_table n b lent))
    (λ k l. with_table_past n a (with_table n b lent) k l ∙ with_table_past n b lent k l)

pub record Filled (reg : Register) (sch : Scheme) (s : List ℕ) (lent t : List ℤ) (at : ℕ) : Type 0 where
  pub certificate : Certificate
  pub midway : Midway reg sch s certificate at
  pub holds : t ≡ holds_r (coefficient reg) reg sch certificate lent

-- what is known of the register, the scheme and the bytes
pub record Ready (reg : Register) (sch : Scheme) (s : List ℕ) : Type 0 where
  pub register : Reg.Within reg
  pub scheme : Valid reg sch
  pub reads : Reads reg sch s

module _ {reg : Register} {sch : Scheme} {s : List ℕ} (h : Ready reg sch s) where
  pub side_small : side reg.choices sch ≤ square_entries
  side_small = side_within reg sch h.scheme.within

  module _ (lent : List ℤ) (l : table_numbers ≤ length lent) where
    fits : side reg.choices sch * side reg.choices sch ≤ length lent
    fits = omega (arith, side_square reg sch h.scheme)

    pub first_filled : lent ≡ holds_r (coefficient reg) reg sch (with_scale_in s) lent → Filled reg sch s lent lent (command_size 0x30)
    first_filled d = record { certificate = with_scale_in s; midway = (started reg sch s h.reads).midway; holds = d }

    module _ {t : List ℤ} {at : ℕ} (f : Filled reg sch s lent t at) where
      pub filled_bounded : Bounded (side reg.choices sch) max_before_form t
      filled_bounded =
          rw f.holds
          (bounded_weaken (bounded_R (coefficient reg) reg sch f.certificate lent fits (small reg h.register) h.scheme.within f.midway.within) (omega arith))

      -- one command more

      form_filled : (x : IsMultiplier (get_or s at 0)) (u : List ℤ) → u ≡ add_form (side reg.choices sch) (signed_form reg sch (multiplier_at s at)) t → Filled reg sch s lent u (at + command_size (get_or s at 0))
      form_filled x u e = record {
        certificate = _;
        midway = multiplier_on reg sch s h.reads f.midway x;
        holds =
            e ∙ rw f.holds
            (table_multiplier (coefficient reg) reg sch f.certificate lent fits h.scheme.within.products (multiplier_at s at) (multiplier_allowed reg sch s h.reads f.midway x));
      }

      pub multiplier_filled : (x : 0x31 ≤ get_or s at 0) (y : get_or s at 0 ≤ 0x39) (u : List ℤ) → u ≡ add_form (side reg.choices sch) (added reg sch (named_of (multiplier_at s at))) t →
          Filled reg sch s lent u (at + command_size (get_or s at 0))
      multiplier_filled x y u e = form_filled (inl (x, y)) u (rw (added_signed reg sch (multiplier_at s at)) at e)

      pub row_filled : get_or s at 0 ≡ 0x3B → (u : List ℤ) → u ≡ add_form (side reg.choices sch) (times (multiplier_at s at).m (row_form_of reg (get_or (multiplier_at s at).names 0 0) (get_or (multiplier_at s at).names 1 0))) t →
          Filled reg sch s lent u (at + command_size (get_or s at 0))
      unfolding multiplier_at
      row_filled c u e = form_filled (inr c) u (rw (row_command reg sch (multiplier_at s at) (multiplier_allowed reg sch s h.reads f.midway (inr c)) c).adds e)

      pub square_filled : get_or s at 0 ≡ 0x3A → (u : List ℤ) → u ≡ less_where (side reg.choices sch) (square_at (square_read s at)) (λ i j. true) t → Filled reg sch s lent u (at + command_size (get_or s at 0))
      square_filled c u e = record {
        certificate = _;
        midway = square_on reg sch s h.reads f.midway c;
        holds = e ∙ rw f.holds (table_square (coefficient reg) reg sch f.certificate lent fits (square_read s at));
      }

      -- at the end, which there is

      pub filled_last : (IsMultiplier (get_or s at 0) → ⊥) → (get_or s at 0 ≡ 0x3A → ⊥) → (p : Progress Certificate) (e : ℕ) → commands_in_job reg sch s ≡ accepted p e →
          t ≡ holds_r (coefficient reg) reg sch p.parsed lent
      filled_last x y p e d =
          let q = ends_here reg sch s h.reads f.midway x y in
          let z : reached 0x3F f.certificate ≡ p = cc in
          f.holds ∙ ap (λ (p : Progress Certificate). holds_r (coefficient reg) reg sch p.parsed lent) z

      pub filled_inside : length s ≤ at → ⊥
      filled_inside o = omega (arith, reads_on reg sch s h.reads f.midway)

-- ---- as the loop keeps it: a table t that started as t₀, in the same lent run

pub record Holding (reg : Register) (sch : Scheme) (s : List ℕ) (t₀ t : SquareTable) (at : ℕ) : Type 0 where
  pub same_reference : t.numbers.ghost_name ≡ t₀.numbers.ghost_name
  pub same_side : t.side ≡ t₀.side
  pub filled : Filled reg sch s t₀.numbers.now t.numbers.now at

-- of the start: the table has the side of the certificate's register and scheme, and room for their numbers
pub record Begun (reg : Register) (sch : Scheme) (s : List ℕ) (t₀ : SquareTable) : Type 0 where
  pub ready : Ready reg sch s
  pub is_side : t₀.side ≡ side reg.choices sch
  pub long : table_numbers ≤ length t₀.numbers.now

module _ {reg : Register} {sch : Scheme} {s : List ℕ} {t₀ t : SquareTable} {at : ℕ} (b : Begun reg sch s t₀) (k : Holding reg sch s t₀ t at) where
  pub side_is : t.side ≡ side reg.choices sch
  side_is = k.same_side ∙ b.is_side

  pub room_left : Room max_before_form t
  room_left = rw side_is (filled_bounded b.ready t₀.numbers.now b.long k.filled)

  -- the command's bytes are there
  pub bytes_there : at + command_size (get_or s at 0) ≤ length s
  bytes_there = command_room reg sch s b.ready.reads k.filled.midway

  -- of a row: the row and the variable that are named, and m
  pub row_named : get_or s at 0 ≡ 0x3B → RowCommand reg sch (multiplier_at s at)
  unfolding multiplier_at
  row_named e = row_command reg sch (multiplier_at s at) (multiplier_allowed reg sch s b.ready.reads k.filled.midway (inr e)) e

  -- one command more

  pub multiplier_held : 0x31 ≤ get_or s at 0 → get_or s at 0 ≤ 0x39 → {u : SquareTable} → Adds (added reg sch (named_of (multiplier_at s at))) t u → Holding reg sch s t₀ u (at + command_size (get_or s at 0))
  multiplier_held x y d = record {
    same_reference = d.same_reference ∙ k.same_reference;
    same_side = d.same_side ∙ k.same_side;
    filled = multiplier_filled b.ready t₀.numbers.now b.long k.filled x y _ (rw side_is at d.holds);
  }

  pub row_held : get_or s at 0 ≡ 0x3B → {u : SquareTable} → Adds (times (multiplier_at s at).m (row_form_of reg (get_or (multiplier_at s at).names 0 0) (get_or (multiplier_at s at).names 1 0))) t u → Holding reg sch s t₀ u (at + command_size (get_or s at 0))
  row_held c d = record {
    same_reference = d.same_reference ∙ k.same_reference;
    same_side = d.same_side ∙ k.same_side;
    filled = row_filled b.ready t₀.numbers.now b.long k.filled c _ (rw side_is at d.holds);
  }

  pub square_held : get_or s at 0 ≡ 0x3A → {u : SquareTable} → Becomes (less_where t.side (square_at (square_read s at)) (λ i j. true) t.numbers.now) t u → Holding reg sch s t₀ u (at + command_size (get_or s at 0))
  square_held c d = record {
    same_reference = d.same_reference ∙ k.same_reference;
    same_side = d.same_side ∙ k.same_side;
    filled = square_filled b.ready t₀.numbers.now b.long k.filled c _ (rw side_is at d.holds);
  }

  -- at the end
  pub held_last : (IsMultiplier (get_or s at 0) → ⊥) → (get_or s at 0 ≡ 0x3A → ⊥) → (p : Progress Certificate) (e : ℕ) → commands_in_job reg sch s ≡ accepted p e →
      Becomes (with_table t₀.side (R (coefficient reg) reg sch p.parsed) t₀.numbers.now) t₀ t
  held_last x y p e d = record { same_reference = k.same_reference; same_side = k.same_side; holds = rw b.is_side (filled_last b.ready t₀.numbers.now b.long k.filled x y p e d) }
