-- The sets of the variables as an array, kept by the code.
use Rattle.std.specs.Prelude.{ℕ, ◌≤◌, ◌<◌, ◌≡◌, Bool, not, List, length, get_or, eqb}
use Rattle.std.specs.Int.Bits.{bit_or}
use Rattle.integers.specs.Lists.{all_below, first_below}
use Rattle.scheme.specs.declared.Scheme.{Scheme}
use Rattle.scheme.specs.Scheme.{max_variables}
use Rattle.scheme.specs.Variables.{E}

-- the entries of the variables below a count are their sets, and the others are 0
pub record SetsBelow (n : ℕ) (s : Scheme) (count : ℕ) (sets : List ℕ) : Type 0 where
  pub long : length sets ≡ max_variables
  pub below : (v : ℕ) → v < count → get_or sets v 0 ≡ E n s v
  pub past : (v : ℕ) → count ≤ v → get_or sets v 0 ≡ 0

-- no entry below a count is this set
unfoldable pub none_is : List ℕ → ℕ → ℕ → Bool
none_is sets count union = all_below count (λ v. not (eqb (get_or sets v 0) union))

-- the first entry below a count that is this set, or the count where there is none
unfoldable pub first_in : List ℕ → ℕ → ℕ → ℕ
first_in sets count union = first_below count (λ v. eqb (get_or sets v 0) union)

-- the union of two entries
abbrev pub union_in : List ℕ → ℕ → ℕ → ℕ
union_in sets l r = bit_or (get_or sets l 0) (get_or sets r 0)
