-- A square row by row, and how large its numbers are: the factor of a row, and the number at a row and a column.
use Prim.Native.Nat.{ℕ, ◌≤◌, ◌<◌}
use mathlib.Core.Path.{◌≡◌, refl}
use lib.IntN.{pos, nat_abs}
use lib.ListN.{get_or}
use Rattle.integers.proofs.Order.{nat_abs-*-≤}
use Rattle.scheme.specs.declared.Scheme.{Scheme}
use Rattle.certificate.specs.Limits.{max_weight, square_entries, max_entry}
use Rattle.certificate.specs.Certificate.{Square}
use Rattle.certificate.specs.Within.{SquareAllowed}
use Rattle.residual.specs.Limits.{max_row_factor, max_square_at}
use Rattle.residual.specs.Residual.{square_at}
use Rattle.residual.specs.Built.{SquareRange, row_factor, times_entries}

pub range_of : {n : ℕ} {s : Scheme} {q : Square} → SquareAllowed n s q → SquareRange q
range_of ok = record { w_within = ok.w_within; entries_within = ok.entries_within }

-- along row i a square is the row's factor times the entries
pub square_by_row : (q : Square) (i j : ℕ) → square_at q i j ≡ times_entries (row_factor q i) q.v i j
square_by_row q i j = refl

module _ (q : Square) (ok : SquareRange q) where
  pub row_factor_small : (i : ℕ) → i < square_entries → nat_abs (row_factor q i) ≤ max_row_factor
  row_factor_small i h = nat_abs-*-≤ (pos q.w) (get_or q.v i (pos 0)) max_weight max_entry ok.w_within (ok.entries_within i h)

  pub product_small : (i j : ℕ) → i < square_entries → j < square_entries → nat_abs (square_at q i j) ≤ max_square_at
  product_small i j h l =
      nat_abs-*-≤ (row_factor q i) (get_or q.v j (pos 0)) max_row_factor max_entry (row_factor_small i h) (ok.entries_within j l)

-- the two bounds, as numbers

pub row_factor_is : max_row_factor ≡ 10_000_000_000
row_factor_is = refl

pub square_at_is : max_square_at ≡ 100_000_000_000_000
square_at_is = refl
