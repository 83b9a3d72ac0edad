-- The relaxed problem of a supplier's solver: fractions between 0 and 1 in place of 0 and 1, each product held to its operands by the
-- inequalities of source document 002, section 4.1.
use Rattle.std.specs.Prelude.{ℕ, ◌≤◌, ◌<◌, ℤ, pos, ◌+ℤ◌, ◌-ℤ◌, ◌≤ℤ◌}
use Rattle.scheme.specs.declared.Scheme.{Scheme}
use Rattle.scheme.specs.Scheme.{left, right, variables}

-- a point: the fraction of variable i is y i / D, of whole numbers from 0 to D. A product k of l and r is no more than either of them,
-- and no less than their sum less 1. In an accepted scheme operands stand before their product, so only the N numbers of the variables
-- are looked at
pub record Relaxed (n : ℕ) (s : Scheme) (D : ℕ) (y : ℕ → ℤ) : Type 0 where
  pub positive : 1 ≤ D
  pub low : (i : ℕ) → i < variables n s → pos 0 ≤ℤ y i
  pub high : (i : ℕ) → i < variables n s → y i ≤ℤ pos D
  pub below_left : (k : ℕ) → n ≤ k → k < variables n s → y k ≤ℤ y (left n s k)
  pub below_right : (k : ℕ) → n ≤ k → k < variables n s → y k ≤ℤ y (right n s k)
  pub above : (k : ℕ) → n ≤ k → k < variables n s → (y (left n s k) +ℤ y (right n s k) -ℤ pos D) ≤ℤ y k
