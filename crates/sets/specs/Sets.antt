-- Sets of choices as masks: bit i is set when choice i is in the set. A mask is a natural number of any width. The union of
-- two sets is `bit_or`, the set of choice i alone is 2 ^ i.
use Rattle.std.specs.Prelude.{ℕ, zero, suc, ◌+◌, ◌*◌, ◌/◌, ◌%◌, ◌^◌, ◌≡◌, Bool, cond, ◌&&◌, not, T, eqb}
use Rattle.std.specs.Int.Bits.{bit_and}

-- choice i is in the set
unfoldable pub is_member : ℕ → ℕ → Bool
is_member i m = eqb (m / 2 ^ i % 2) 1

-- every choice of a is in b
unfoldable pub is_subset : ℕ → ℕ → Bool
is_subset a b = eqb (bit_and b a) a

-- a subset, and not the set itself
unfoldable pub is_proper_subset : ℕ → ℕ → Bool
is_proper_subset a b = is_subset a b && not (eqb a b)

-- the same as a condition on members: each member of a is one of b, and the sets are not equal
abbrev pub ProperSubset : ℕ → ℕ → Type 0
ProperSubset a b = ((i : ℕ) → T (is_member i a) → T (is_member i b)) × (a ≡ b → ⊥)

-- the set of the i below n with f i
unfoldable pub set_of : ℕ → (ℕ → Bool) → ℕ
set_of zero f = 0
set_of (suc n) f = set_of n (λ i. f (suc i)) * 2 + cond (f 0) 1 0
