-- Runs of bytes that begin with none or with another byte than a certain one.
use Prim.Native.Nat.{ℕ, zero, suc}
use mathlib.Core.Path.{◌≡◌}
use mathlib.Core.List.{List, ◌++◌, append_assoc}
use lib.ListN.{get_or}
use Rattle.integers.specs.Lists.{join_below}

module _ (b : ℕ) where
  abbrev pub Other : List ℕ → Type 0
  Other s = get_or s 0 0 ≡ b → ⊥

  -- runs one after the other, none of which begins with it, whatever stands after each
  pub join_other : (f : ℕ → List ℕ) → ((i : ℕ) (rest : List ℕ) → Other (f i ++ rest)) → (n : ℕ) (rest : List ℕ) → Other rest → Other (join_below n f ++ rest)
  unfolding join_below
  join_other f h zero rest o = o
  join_other f h (suc n) rest o = rw append_assoc (join_other f h n (f n ++ rest) (h n rest))
