-- How a scheme was read before a register could have more than 32 choices: a product was refused 3 by the number of products alone. The
-- rest of its row and the other rows are today's, and so `23`, which came later, is read as today.
use Rattle.std.specs.Prelude.{ℕ, Bool, not, List, [], ◌∷◌, leb}
use Rattle.wire.specs.Checks.{Check, check}
use Rattle.wire.specs.Part.{Part, Reading, read_part, by_itself}
use Rattle.wire.specs.Rows.{Progress, Row, part_of, binary}
use Rattle.register.specs.declared.Register.{Register}
use Rattle.scheme.specs.declared.Scheme.{Scheme}
use Rattle.scheme.specs.Scheme.{max_products, variables, initial}
use Rattle.scheme.specs.Format.{factor_row, union_of, is_new, unnamed, product_row, split_row, end_row}

unfoldable pub product_checks_before_wide : (products k l r : ℕ) → Bool → List Check
product_checks_before_wide products k l r new =
    check 3 (leb max_products products)
    ∷ check 5 (unnamed k l r)
    ∷ check 6 (leb r l)
    ∷ check 8 (not new)
    ∷ []

abbrev pub product_row_before_wide : Register → Row Scheme
product_row_before_wide reg = record (product_row reg) {
  checks = λ sch. let n = reg.choices in binary λ l r. product_checks_before_wide sch.products (variables n sch) l r (is_new n sch (union_of n sch l r));
}

abbrev pub rows_before_wide : Register → List (Row Scheme)
rows_before_wide reg = factor_row ∷ product_row_before_wide reg ∷ split_row reg ∷ end_row reg ∷ []

abbrev pub part_before_wide : Register → Part (Progress Scheme)
part_before_wide reg = part_of initial (rows_before_wide reg)

-- at the front of a run of bytes, as in a job
unfoldable pub in_job_before_wide : Register → List ℕ → Reading (Progress Scheme)
in_job_before_wide reg s = read_part (part_before_wide reg) s

-- as a run of bytes by itself
unfoldable pub by_itself_before_wide : Register → List ℕ → Reading (Progress Scheme)
by_itself_before_wide reg s = by_itself s (in_job_before_wide reg s)
