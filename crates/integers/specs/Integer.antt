-- Parts of an integer, and the integer of a bit.
use Rattle.std.specs.Prelude.{Bool, cond, ℕ, suc, ℤ, pos, negsuc, nat_abs}

-- an integer is its positive part minus its negative part, one of which is 0
abbrev pub pos_part : ℤ → ℕ
pos_part (pos n) = n
pos_part (negsuc n) = 0

abbrev pub neg_part : ℤ → ℕ
neg_part (pos n) = 0
neg_part (negsuc n) = suc n

-- the absolute value
unfoldable pub abs : ℤ → ℤ
abs a = pos (nat_abs a)

-- 1 or 0
abbrev pub bit : Bool → ℤ
bit b = cond b (pos 1) (pos 0)
