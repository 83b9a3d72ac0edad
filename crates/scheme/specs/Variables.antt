-- Variables: the n choices, then the products; and E, the set of choices that a variable stands for.
use Rattle.std.specs.Prelude.{ℕ, zero, suc, ◌^◌, List, [], ◌∷◌, ◌++◌, cond, get_or, ltb}
use Rattle.std.specs.Int.Bits.{bit_or}
use Rattle.scheme.specs.declared.Scheme.{Scheme}
use Rattle.scheme.specs.Scheme.{left, right}

-- Each variable is given a value, from the choices up: choice i is given `choice i`, and product v is given
-- `product v a b`, where a and b are what its operands are given.
module _ {A : Type 0} (n : ℕ) (s : Scheme) (choice : ℕ → A) (product : ℕ → A → A → A) where
  -- to variable v, where those below v have theirs
  abbrev pub next : List A → ℕ → A
  next below v =
      let a = get_or below (left n s v) (choice 0) in
      let b = get_or below (right n s v) (choice 0) in
      cond (ltb v n) (choice v) (product v a b)

  -- to the variables below v
  unfoldable pub up_to : ℕ → List A
  up_to zero = []
  up_to (suc v) = let below : List A = up_to v in below ++ (next below v ∷ [])

  -- to variable v
  unfoldable pub upward : ℕ → A
  upward v = get_or (up_to (suc v)) v (choice 0)

-- the choices behind a variable, as a mask: one bit for a choice, those of both operands for a product
unfoldable pub E : ℕ → Scheme → ℕ → ℕ
E n s = upward n s (λ i. 2 ^ i) (λ v a b. bit_or a b)
