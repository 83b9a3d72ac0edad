-- The scheme's record: its limits, its entries, the fresh one, that which reading begins with, and with another factor, a product more or a
-- split more.
use Rattle.std.specs.Prelude.{ℕ, suc, ◌+◌, ◌-◌, ◌≡◌, List, length, get_or, set, replicate}
use Rattle.register.specs.Limits.{max_terms}
use Rattle.scheme.specs.declared.Scheme.{Scheme}

-- at most 32 products
abbrev pub max_products : ℕ
max_products = 32

-- and at most 64 variables, choices and products together
abbrev pub max_variables : ℕ
max_variables = 64

-- the factor of the weights is at most 1,000
abbrev pub max_factor : ℕ
max_factor = 1_000

-- the two operands of the product that has i before it

abbrev pub product_left : Scheme → ℕ → ℕ
product_left s i = get_or s.lefts i 0

abbrev pub product_right : Scheme → ℕ → ℕ
product_right s i = get_or s.rights i 0

-- of product k, where there are n choices; the first product has number n

abbrev pub left : ℕ → Scheme → ℕ → ℕ
left n s k = product_left s (k - n)

abbrev pub right : ℕ → Scheme → ℕ → ℕ
right n s k = product_right s (k - n)

-- N
abbrev pub variables : ℕ → Scheme → ℕ
variables n s = n + s.products

-- the side of a table, N + 1
abbrev pub side : ℕ → Scheme → ℕ
side n s = suc (variables n s)

-- the split of term t (the paper's own term): the two variables whose product the term is in g, or one variable twice

abbrev pub split_left : Scheme → ℕ → ℕ
split_left s t = get_or s.split_lefts t 0

abbrev pub split_right : Scheme → ℕ → ℕ
split_right s t = get_or s.split_rights t 0

-- no product, no split; every entry is 0, and so is the factor
unfoldable pub fresh : Scheme
fresh = record {
  products = 0;
  splits = 0;
  lefts = replicate max_products 0;
  rights = replicate max_products 0;
  split_lefts = replicate max_terms 0;
  split_rights = replicate max_terms 0;
  factor = 0;
}

-- what reading begins with, and the builder: the factor is 1 where no command says another
abbrev pub initial : Scheme
initial = record fresh { factor = 1 }

-- the arrays have room for 32 products and 256 splits
pub record Lengths (s : Scheme) : Type 0 where
  pub lefts : length s.lefts ≡ max_products
  pub rights : length s.rights ≡ max_products
  pub split_lefts : length s.split_lefts ≡ max_terms
  pub split_rights : length s.split_rights ≡ max_terms

-- ---- a scheme with other products, and with other splits

abbrev pub set_products : Scheme → ℕ → (lefts rights : List ℕ) → Scheme
set_products s k lefts rights = record s { products = k; lefts = lefts; rights = rights }

abbrev pub set_splits : Scheme → ℕ → (lefts rights : List ℕ) → Scheme
set_splits s t lefts rights = record s { splits = t; split_lefts = lefts; split_rights = rights }

-- ---- with another factor, and with one product or split more

abbrev pub with_factor : Scheme → ℕ → Scheme
with_factor s factor = record s { factor = factor }

abbrev pub with_product : Scheme → ℕ → ℕ → Scheme
with_product s l r = set_products s (suc s.products) (set s.lefts s.products l) (set s.rights s.products r)

abbrev pub with_split : Scheme → ℕ → ℕ → Scheme
with_split s l r = set_splits s (suc s.splits) (set s.split_lefts s.splits l) (set s.split_rights s.splits r)
