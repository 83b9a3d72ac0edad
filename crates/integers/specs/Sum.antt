-- Finite sums of integers.
use Rattle.std.specs.Prelude.{cond, List, [], ◌∷◌, ℕ, zero, suc, eqb, ℤ, pos, ◌+ℤ◌}

-- f 0 + f 1 + .. + f (n − 1)
unfoldable pub sum_below : ℕ → (ℕ → ℤ) → ℤ
sum_below zero f = pos 0
sum_below (suc n) f = sum_below n f +ℤ f n

-- f, with 0 at the index k
unfoldable pub except : ℕ → (ℕ → ℤ) → ℕ → ℤ
except k f i = cond (eqb i k) (pos 0) (f i)

-- the sum of f over a list
unfoldable pub sum_over {ℓ} : {A : Type ℓ} → List A → (A → ℤ) → ℤ
sum_over [] f = pos 0
sum_over (a ∷ l) f = f a +ℤ sum_over l f
