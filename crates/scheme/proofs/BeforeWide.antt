-- With a register of at most 32 choices every run of bytes is read as before there could be more, in number, position and every field:
-- 65 variables would take a 33rd product.
use Prim.Native.Nat.{ℕ, ◌+◌, ◌≤◌}
use native.Mathlib.Omega.{arith}
use mathlib.Core.Path.{◌≡◌, ap}
use mathlib.Core.Bool.{◌||◌}
use mathlib.Core.List.{List, [], ◌∷◌}
use lib.Dec.{leb}
use borrow.Author.Tests.{leb-false, lt-leb}
use Rattle.std.proofs.Math.Path.{fun_ext}
use Rattle.integers.proofs.Lists.{flag}
use Rattle.wire.specs.Part.{read_part, by_itself}
use Rattle.wire.specs.Rows.{part_of}
use Rattle.register.specs.declared.Register.{Register}
use Rattle.register.specs.Limits.{narrow_choices}
use Rattle.scheme.specs.Scheme.{max_products, max_variables, initial}
use Rattle.scheme.specs.Format.{factor_row, product_checks, product_row, split_row, end_row, scheme_in_job, scheme_by_itself}
use Rattle.scheme.specs.BeforeWide.{product_checks_before_wide, product_row_before_wide, in_job_before_wide, by_itself_before_wide}

-- of the two limits that of the products is reached first
pub products_alone : (n products : ℕ) → n ≤ narrow_choices → (leb max_products products || leb max_variables (n + products)) ≡ leb max_products products
products_alone n products narrow =
    flag (leb max_products products) (λ t. rw t)
    (λ f. rw (f, lt-leb max_variables (n + products) (omega (arith, narrow, leb-false max_products products f))))

module _ (reg : Register) (narrow : reg.choices ≤ narrow_choices) where
  row_as_before : product_row reg ≡ product_row_before_wide reg
  unfolding product_checks product_checks_before_wide
  row_as_before = ap (λ checks. record (product_row reg) { checks = checks }) (fun_ext λ sch. fun_ext λ xs. rw (products_alone reg.choices sch.products narrow))

  module _ (s : List ℕ) where
    pub as_before_wide_in_job : scheme_in_job reg s ≡ in_job_before_wide reg s
    unfolding scheme_in_job in_job_before_wide
    as_before_wide_in_job = ap (λ row. read_part (part_of initial (factor_row ∷ row ∷ split_row reg ∷ end_row reg ∷ [])) s) row_as_before

    pub as_before_wide : scheme_by_itself reg s ≡ by_itself_before_wide reg s
    unfolding scheme_by_itself by_itself_before_wide
    as_before_wide = ap (by_itself s) as_before_wide_in_job
