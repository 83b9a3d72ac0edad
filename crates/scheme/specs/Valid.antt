-- The paper's conditions on a scheme of a register: counts, names, orders and sets. Written without the reader.
use Rattle.std.specs.Prelude.{ℕ, ◌≤◌, ◌<◌, ◌≡◌}
use Rattle.std.specs.Int.Bits.{bit_or}
use Rattle.integers.specs.Lists.{Column}
use Rattle.register.specs.declared.Register.{Register}
use Rattle.register.specs.Limits.{max_terms}
use Rattle.register.specs.Register.{mask}
use Rattle.scheme.specs.declared.Scheme.{Scheme}
use Rattle.scheme.specs.Scheme.{max_products, max_variables, max_factor, left, right, variables, split_left, split_right}
use Rattle.scheme.specs.Variables.{E}

-- a product of l and r with number k: its operands are two variables before it, in order, and its set is not that of any
-- variable before it, by the sets of the variables
pub record Product (k l r set : ℕ) (sets : ℕ → ℕ) : Type 0 where
  pub ordered : l < r
  pub falls : r < k
  pub new : (v : ℕ) → v < k → sets v ≡ set → ⊥

abbrev pub ProductOf : ℕ → Scheme → ℕ → Type 0
ProductOf n s k = Product k (left n s k) (right n s k) (E n s k) (E n s)

abbrev pub Products : ℕ → Scheme → Type 0
Products n s = (k : ℕ) → n ≤ k → k < variables n s → ProductOf n s k

-- a split into l and r, of N variables: in order, or one twice; their sets together are the term's mask
pub record Split (N l r union mask : ℕ) : Type 0 where
  pub ordered : l ≤ r
  pub there : r < N
  pub fits : union ≡ mask

abbrev pub SplitOf : Register → Scheme → ℕ → Type 0
SplitOf reg s t =
    let n = reg.choices in
    Split (variables n s) (split_left s t) (split_right s t) (bit_or (E n s (split_left s t)) (E n s (split_right s t))) (mask reg t)

-- a factor from 1 to 1,000
pub record Factor (factor : ℕ) : Type 0 where
  pub positive : 1 ≤ factor
  pub within : factor ≤ max_factor

-- such a factor, at most 32 products, at most 64 variables, and splits for the first terms; entries past the counts are 0
pub record Within (reg : Register) (s : Scheme) : Type 0 where
  pub factor : Factor s.factor
  pub lefts : Column max_products s.products 0 s.lefts
  pub rights : Column max_products s.products 0 s.rights
  pub products_within : s.products ≤ max_products
  pub variables_within : variables reg.choices s ≤ max_variables
  pub products : Products reg.choices s
  pub split_lefts : Column max_terms s.splits 0 s.split_lefts
  pub split_rights : Column max_terms s.splits 0 s.split_rights
  pub splits_within : s.splits ≤ reg.terms
  pub splits : (t : ℕ) → t < s.splits → SplitOf reg s t

-- and there is one split for each term
pub record Valid (reg : Register) (s : Scheme) : Type 0 where
  pub within : Within reg s
  pub all_split : s.splits ≡ reg.terms
