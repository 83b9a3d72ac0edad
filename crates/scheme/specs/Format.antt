-- The scheme's commands, with a register: `23` factor of the weights, `21` product, `22` split, `2F` end.
use Rattle.std.specs.Prelude.{ℕ, Bool, true, false, not, ◌||◌, List, [], ◌∷◌, ltb, leb, eqb}
use Rattle.std.specs.Int.Bits.{bit_or}
use Rattle.integers.specs.Lists.{all_below}
use Rattle.wire.specs.Checks.{Check, check}
use Rattle.wire.specs.Part.{Part, Reading, read_part, by_itself}
use Rattle.wire.specs.Rows.{Progress, Row, part_of, unary, binary}
use Rattle.register.specs.declared.Register.{Register}
use Rattle.register.specs.Register.{mask}
use Rattle.scheme.specs.declared.Scheme.{Scheme}
use Rattle.scheme.specs.Scheme.{max_products, max_variables, variables, max_factor, initial, with_factor, with_product, with_split}
use Rattle.scheme.specs.Variables.{E}

-- the factor is from 1 to 1,000
unfoldable pub factor_checks : ℕ → List Check
factor_checks factor = check 4 (eqb factor 0 || ltb max_factor factor) ∷ []

-- `23` factor u16, at most once, first
abbrev pub factor_row : Row Scheme
factor_row = record {
  byte = 0x23;
  follows = 0 ∷ [];
  widths = 2 ∷ [];
  checks = λ sch. unary factor_checks;
  after = λ sch. unary (with_factor sch);
  last = false;
}

-- the union of the sets of two variables
abbrev pub union_of : ℕ → Scheme → ℕ → ℕ → ℕ
union_of n sch l r = bit_or (E n sch l) (E n sch r)

-- no variable has this set
unfoldable pub is_new : ℕ → Scheme → ℕ → Bool
is_new n sch union = all_below (variables n sch) (λ v. not (eqb (E n sch v) union))

-- l or r is not among N variables: refused 5
abbrev pub unnamed : ℕ → ℕ → ℕ → Bool
unnamed N l r = leb N l || leb N r

-- at most 32 products, and 64 variables with it; l < r < k, where k is the number of the product, which is how many variables there are
-- before it; its set equals no earlier variable's set
unfoldable pub product_checks : (products k l r : ℕ) → Bool → List Check
product_checks products k l r new =
    check 3 (leb max_products products || leb max_variables k)
    ∷ check 5 (unnamed k l r)
    ∷ check 6 (leb r l)
    ∷ check 8 (not new)
    ∷ []

-- `21` product: l u8, r u8. All `21` come before all `22`
abbrev pub product_row : Register → Row Scheme
product_row reg = record {
  byte = 0x21;
  follows = 0 ∷ 0x21 ∷ 0x23 ∷ [];
  widths = 1 ∷ 1 ∷ [];
  checks = λ sch. let n = reg.choices in binary λ l r. product_checks sch.products (variables n sch) l r (is_new n sch (union_of n sch l r));
  after = λ sch. binary (with_product sch);
  last = false;
}

-- a split is for a term that has none yet; both variables are there, in order, and their sets together are the term's mask
unfoldable pub split_checks : (terms splits N l r union mask : ℕ) → List Check
split_checks terms splits N l r union mask =
    check 3 (leb terms splits)
    ∷ check 5 (unnamed N l r)
    ∷ check 6 (ltb r l)
    ∷ check 8 (not (eqb union mask))
    ∷ []

-- `22` split: l u8, r u8, in the order of the terms
abbrev pub split_row : Register → Row Scheme
split_row reg = record {
  byte = 0x22;
  follows = 0 ∷ 0x21 ∷ 0x22 ∷ 0x23 ∷ [];
  widths = 1 ∷ 1 ∷ [];
  checks = λ sch. let n = reg.choices in binary λ l r. split_checks reg.terms sch.splits (variables n sch) l r (union_of n sch l r) (mask reg sch.splits);
  after = λ sch. binary (with_split sch);
  last = false;
}

-- there are as many splits as terms
unfoldable pub end_checks : (terms splits : ℕ) → List Check
end_checks terms splits = check 3 (ltb splits terms) ∷ []

-- `2F` end
abbrev pub end_row : Register → Row Scheme
end_row reg = record {
  byte = 0x2F;
  follows = 0 ∷ 0x21 ∷ 0x22 ∷ 0x23 ∷ [];
  widths = [];
  checks = λ sch xs. end_checks reg.terms sch.splits;
  after = λ sch xs. sch;
  last = true;
}

abbrev pub scheme_rows : Register → List (Row Scheme)
scheme_rows reg = factor_row ∷ product_row reg ∷ split_row reg ∷ end_row reg ∷ []

abbrev pub scheme_part : Register → Part (Progress Scheme)
scheme_part reg = part_of initial (scheme_rows reg)

-- the scheme at the front of a run of bytes, as in a job
unfoldable pub scheme_in_job : Register → List ℕ → Reading (Progress Scheme)
scheme_in_job reg s = read_part (scheme_part reg) s

-- the scheme as a run of bytes by itself
unfoldable pub scheme_by_itself : Register → List ℕ → Reading (Progress Scheme)
scheme_by_itself reg s = by_itself s (scheme_in_job reg s)
