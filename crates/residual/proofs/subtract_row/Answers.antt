use Prim.Native.Nat.{ℕ, ◌+◌, ◌*◌, ◌≤◌, ◌<◌}
use mathlib.Core.Path.{◌≡◌, ◌∙◌, ap, ap₂}
use mathlib.Core.Bool.{◌&&◌, and-false, and-true}
use native.Mathlib.Omega.{arith}
use lib.Dec.{eqb}
use lib.IntN.{ℤ, pos, nat_abs, ◌-ℤ◌, ◌*ℤ◌}
use lib.ListN.{get_or, set}
use mir.Syntax.{w16, w64}
use mir.Val.{to_z, of_z}
use mir.Facts.{to_z-of_z}
use borrow.Author.Tests.{le-ltb, lt-ltb}
use Rattle.integers.proofs.Order.{nat_abs_sub, nat_abs-*-≤}
use Rattle.integers.proofs.Machine.{fits_signed, read_signed}
use Rattle.forms.specs.Store.{max_before_monomial}
use Rattle.forms.proofs.Store.{place_inside}
use Rattle.certificate.specs.Limits.{square_entries, max_entry}
use Rattle.residual.specs.Limits.{max_row_factor, max_square_at}
use Rattle.residual.specs.Built.{times_entries, cells}
use Rattle.residual.proofs.Subtracted.{Joins, joins_next, joins_and, less_cong, less_none, less_was, less_next}
use Rattle.residual.proofs.subtract_row.Invariants.{first}
use Rattle.residual.proofs.subtract_row.Goals.{After-times_entry}
use Rattle.residual.proofs.subtract_row.Goals as goal

first_next : (i j k l : ℕ) → Joins (first i j k l) (eqb k i && eqb l j) (first i (j + 1) k l)
first_next i j k l = joins_and (eqb k i) (joins_next l j)

-- a turn: what is stored, as the code has it
module _ (c : After-times_entry) where
  abbrev n : ℕ
  n = c.args.side

  abbrev row : ℕ
  row = c.args.row

  abbrev j : ℕ
  j = c.loop-j.j

  -- the factor, as the code has it
  abbrev f : ℤ
  f = to_z w64 (of_z w64 c.args.factor)

  f_read : f ≡ c.args.factor
  f_read = read_signed w64 c.args.factor (omega (arith, c.requires.factor_bound))

  abbrev x : ℤ
  x = cells n c.loop-j.numbers row j

  abbrev y : ℤ
  y = times_entries f c.args.entries.now row j

  x_small : nat_abs x ≤ max_before_monomial
  x_small =
      let h = c.requires.bounded in
      let p = place_inside n row j c.requires.row_lt_side.0 (omega arith) in
      rw (less_was n _ (first row j) _ h.long c.loop-j.invariant.so_far row j c.requires.row_lt_side.0 (omega arith) (rw (le-ltb j j (omega arith)) (and-false (eqb row row)))) (h.low (row * n + j) p)

  inside : j < square_entries
  inside = omega (arith, c.requires.row_lt_side.1)

  small : nat_abs (x -ℤ y) ≤ max_before_monomial + max_square_at
  small = omega (arith, nat_abs_sub x y, x_small, nat_abs-*-≤ f (get_or c.args.entries.now j (pos 0)) max_row_factor max_entry (rw f_read c.requires.factor_bound) (c.requires.entries_within j inside))

  product_is : to_z w64 (of_z w64 c.times_entry.result) ≡ y
  product_is =
      to_z-of_z {w = w64} (record { sfits = c.times_entry.type_inv })
      ∙ c.times_entry.ensures
      ∙ ap (λ z. f *ℤ z)
      (read_signed w16 (get_or c.args.entries.now j (pos 0)) (omega (arith, c.requires.entries_within j inside)))

  difference : to_z w64 (of_z w64 x) -ℤ to_z w64 (of_z w64 c.times_entry.result) ≡ x -ℤ y
  difference = ap₂ ◌-ℤ◌ (read_signed w64 x (omega (arith, x_small))) product_is

pub loop-j-init : goal.loop-j-init
loop-j-init c = record {
  so_far = less_none c.args.side _ (first c.args.row 0) c.args.numbers.now c.requires.bounded.long (λ i j _ _. rw (le-ltb j 0 (omega arith)) (and-false (eqb i c.args.row)));
}

pub overflow_sub-numbers : goal.overflow_sub-numbers
overflow_sub-numbers c =
    let k = (goal.at.overflow_sub-numbers c).After-times_entry in
    rw (difference k) (fits_signed w64 _ (omega (arith, small k)))

pub loop-j-preserved : goal.loop-j-preserved
loop-j-preserved c =
    let k = (goal.at.loop-j-preserved c).After-times_entry in
    record {
      so_far =
          ap (set c.loop-j.numbers (row k * n k + j k)) (ap (λ z. to_z w64 (of_z w64 z)) (difference k) ∙ read_signed w64 (x k -ℤ y k) (omega (arith, small k)))
          ∙ less_next (n k) _ (first (row k) (j k)) _ c.requires.bounded.long c.loop-j.invariant.so_far (row k) (j k) c.requires.row_lt_side.0 (omega arith) (λ i l _ _. first_next (row k) (j k) i l);
    }

pub returns : goal.returns
returns c =
    c.loop-j.invariant.so_far
    ∙ less_cong c.args.side c.args.numbers.now (λ i j l m. rw (lt-ltb j c.loop-j.j (omega arith)) (and-true (eqb i c.args.row))) (λ i j _ _ _. ap (λ z. times_entries z c.args.entries.now i j) (read_signed w64 c.args.factor (omega (arith, c.requires.factor_bound))))
