use Prim.Native.Nat.{ℕ, ◌+◌, ◌*◌, ◌^◌, ◌≤◌, ◌<◌}
use mathlib.Core.Path.{◌≡◌, sym, ◌∙◌, ap, ap₂}
use mathlib.Core.List.{List}
use native.Mathlib.Omega.{arith}
use native.Mathlib.Numerals.{add-one}
use lib.IntN.{ℤ, nat_abs, ◌-ℤ◌}
use mir.Syntax.{w64}
use mir.Val.{to_z, of_z}
use mir.Facts.{to_z-of_z}
use borrow.Author.Count.{below_more}
use Rattle.integers.proofs.Machine.{fits_signed, read_signed, lt_z-true, lt_z-false}
use Rattle.forms.specs.Store.{Bounded}
use Rattle.forms.proofs.Store.{place_inside}
use Rattle.certificate.specs.Limits.{square_entries}
use Rattle.residual.specs.Limits.{max_r}
use Rattle.residual.specs.Built.{cells}
use Rattle.bound.proofs.FirstShort.{slack, beside_at, slack_zero, slack_suc, slack_small, row_short, row_holds_lem}
use Rattle.bound.proofs.dominance.first_short.Goals as goal
use Rattle.bound.proofs.dominance.first_short.Goals.{After-off_diagonal_term-left}

-- what is left of a row's diagonal entry is within 64 bits
left_small : (n : ℕ) (t : List ℤ) (i j : ℕ) → n ≤ square_entries → Bounded n max_r t → i < n → j ≤ n → nat_abs (slack (cells n t) i j) < 2 ^ 63
left_small n t i j s b l m = omega (arith, slack_small (cells n t) i max_r n j l m (λ k u. b.low (i * n + k) (place_inside n i k l u)))

-- what the entry at column j leaves of it
subtracted : (a : ℕ → ℕ → ℤ) (i j : ℕ) (x y : ℤ) → x ≡ slack a i j → y ≡ beside_at a i j → x -ℤ y ≡ slack a i (j + 1)
subtracted a i j x y d e = ap₂ ◌-ℤ◌ d e ∙ sym (ap (slack a i) (add-one j) ∙ slack_suc a i j)

pub loop-column-init : goal.loop-column-init
loop-column-init c =
    let i = c.rows.row in
    let a = cells c.args.side c.args.table.now in
    record {
      left_is = read_signed w64 (a i i) (omega (arith, c.requires.bounded.low (i * c.args.side + i) (place_inside c.args.side i i (omega arith) (omega arith)))) ∙ sym (slack_zero a i);
      not_short = λ l. absurd (omega arith);
      none = c.rows.invariant.none;
    }

-- the entry at the column, taken from what was left
module _ (c : After-off_diagonal_term-left) where
  abbrev next : ℤ
  next = slack (cells c.args.side c.args.table.now) c.rows.row (c.loop-column.column + 1)

  taken : to_z w64 c.loop-column.left-bits -ℤ to_z w64 (of_z w64 c.off_diagonal_term-left.result) ≡ next
  taken =
      subtracted (cells c.args.side c.args.table.now) c.rows.row c.loop-column.column _ _ c.loop-column.invariant.left_is
      (to_z-of_z {w = w64} (record { sfits = c.off_diagonal_term-left.type_inv }) ∙ c.off_diagonal_term-left.ensures)

  small : nat_abs next < 2 ^ 63
  small = left_small c.args.side c.args.table.now c.rows.row (c.loop-column.column + 1) c.requires.side_le_square_entries c.requires.bounded (omega arith) (omega arith)

pub overflow_sub-left : goal.overflow_sub-left
overflow_sub-left c = let k = (goal.at.overflow_sub-left c).After-off_diagonal_term-left in rw (taken k) (fits_signed w64 (next k) (small k))

pub loop-column-preserved : goal.loop-column-preserved
loop-column-preserved c =
    let k = (goal.at.loop-column-preserved c).After-off_diagonal_term-left in
    record {
      left_is = rw (taken k) (read_signed w64 (next k) (small k));
      not_short = λ _. lt_z-false _ _ (rw (taken k, read_signed w64 (next k) (small k)) at c.if-left-lt0.false);
      none = c.loop-column.invariant.none;
    }

pub rows-preserved : goal.rows-preserved
rows-preserved c =
    let e : c.loop-column.column ≡ c.args.side = omega arith in
    record {
      hold = below_more _ _ c.rows.invariant.hold (row_holds_lem (cells c.args.side c.args.table.now) c.rows.row c.args.side (rw e at (c.loop-column.invariant.not_short (omega arith))));
      none = c.loop-column.invariant.none;
    }

pub returns-after-rows-clause-first : goal.returns-after-rows-clause-first
returns-after-rows-clause-first c =
    let e : c.rows.row ≡ c.args.side = omega arith in
    rw c.rows.invariant.none (record { within = omega arith; before = rw e at c.rows.invariant.hold; short = λ l. absurd (omega arith) })

pub returns-then-left-lt0-clause-first : goal.returns-then-left-lt0-clause-first
returns-then-left-lt0-clause-first c =
    let k = (goal.at.returns-then-left-lt0-clause-first c).After-off_diagonal_term-left in
    record {
      within = omega arith;
      before = c.rows.invariant.hold;
      short = λ _. row_short (cells c.args.side c.args.table.now) c.rows.row c.args.side (c.loop-column.column + 1) (omega arith)
          (lt_z-true _ _ (rw (taken k, read_signed w64 (next k) (small k)) at c.if-left-lt0.true));
    }

pub returns-after-rows-clause-row_lt_side : goal.returns-after-rows-clause-row_lt_side
returns-after-rows-clause-row_lt_side c = rw c.rows.invariant.none tt
