-- The quotient of an integer and a positive number, rounded up.
use Rattle.std.specs.Prelude.{ℕ, suc, ◌+◌, ◌-◌, ◌/◌, ℤ, pos, negsuc, neg_ℤ, ◌*ℤ◌, ◌≤ℤ◌}

-- t / s rounded up to an integer, where s is not 0
unfoldable pub ceil_div : ℤ → ℕ → ℤ
ceil_div (pos t) s = pos ((t + (s - 1)) / s)
ceil_div (negsuc t) s = neg_ℤ (pos (suc t / s))

-- r is the least integer with t ≤ r s
pub record IsCeilDiv (t : ℤ) (s : ℕ) (r : ℤ) : Type 0 where
  pub above : t ≤ℤ (r *ℤ pos s)
  pub least : (q : ℤ) → t ≤ℤ (q *ℤ pos s) → r ≤ℤ q
