-- How large the numbers of R become, with every difference on the way.
use Prim.Native.Nat.{ℕ, ◌*◌, ◌≤◌, ◌<◌}
use mathlib.Core.Path.{◌≡◌, refl}
use mathlib.Core.List.{List}
use native.Mathlib.Omega.{arith}
use lib.IntN.{ℤ, nat_abs, ◌-ℤ◌}
use lib.ListN.{length}
use Rattle.integers.specs.Lists.{All}
use Rattle.integers.specs.Sum.{sum_over}
use Rattle.integers.proofs.Order.{nat_abs_sub}
use Rattle.integers.proofs.Lists.{All-map}
use Rattle.forms.specs.Form.{entry}
use Rattle.register.specs.declared.Register.{Register}
use Rattle.scheme.specs.declared.Scheme.{Scheme}
use Rattle.scheme.specs.Scheme.{side}
use Rattle.scheme.specs.Valid as S
use Rattle.certificate.specs.Limits.{max_squares, square_entries}
use Rattle.residual.specs.Limits.{max_square_at, max_by_command, max_g_entry, max_b, max_r}
use Rattle.certificate.specs.Certificate.{Square, Certificate}
use Rattle.residual.specs.Residual.{shifted, R, square_at}
use Rattle.certificate.specs.Within.{SquareAllowed, Within}
use Rattle.integers.proofs.Sum.{nat_abs-sum_over}
use Rattle.residual.proofs.Bounds.{Small, B_small}
use Rattle.residual.proofs.Squares.{range_of, product_small}

pub side_within : (r : Register) (s : Scheme) → S.Within r s → side r.choices s ≤ square_entries
side_within r s within = omega (arith, within.variables_within)

module _ (n : ℕ) (s : Scheme) where
  pub square_small : (q : Square) → SquareAllowed n s q → (i j : ℕ) → i < square_entries → j < square_entries → nat_abs (square_at q i j) ≤ max_square_at
  square_small q ok = product_small q (range_of ok)

  pub squares_small : (qs : List Square) → All (SquareAllowed n s) qs → (i j : ℕ) → i < square_entries → j < square_entries →
      nat_abs (sum_over qs (λ q. square_at q i j)) ≤ max_square_at * length qs
  squares_small qs h i j l m =
      nat_abs-sum_over max_square_at qs (λ q. square_at q i j) (All-map (SquareAllowed n s) _ (λ q ok. square_small q ok i j l m) qs h)

module _ (c : ℕ → ℤ) (r : Register) (s : Scheme) (k : Certificate) (low : Small c r) (scheme : S.Within r s) (within : Within r s k) where
  abbrev n : ℕ
  n = r.choices

  -- the first squares subtracted, as many as there may be
  pub rest_small : (qs : List Square) → All (SquareAllowed n s) qs → length qs ≤ max_squares → (i j : ℕ) → i < side n s → j < side n s →
      nat_abs (entry (shifted c r s k) i j -ℤ sum_over qs (λ q. square_at q i j)) ≤ max_r
  rest_small qs h few i j l m =
      omega (
        arith,
        nat_abs_sub (entry (shifted c r s k) i j) (sum_over qs (λ q. square_at q i j)),
        B_small c r s k low within i j,
        side_within r s scheme,
        squares_small n s qs h i j (omega (arith, side_within r s scheme)) (omega (arith, side_within r s scheme)),
      )

  pub R_small : (i j : ℕ) → i < side n s → j < side n s → nat_abs (R c r s k i j) ≤ max_r
  unfolding R
  R_small = rest_small k.squares within.squares within.squares_within

-- ---- the bounds, as numbers

pub g_is : max_g_entry ≡ 2_000_000_000
g_is = refl

pub by_command_is : max_by_command ≡ 4_064_000_000_000
by_command_is = refl

pub B_is : max_b ≡ 14_161_536_000_000_000
B_is = refl

pub R_is : max_r ≡ 20_561_536_000_000_000
R_is = refl

-- the sum of a row's 65 numbers
pub row_sum_is : square_entries * max_r ≡ 1_336_499_840_000_000_000
row_sum_is = refl
