-- Whether a plan fits the rows of a register, each an entry for every choice, which is 0 from choice 32 on, and a total.
use Rattle.std.specs.Prelude.{ℕ, ◌<◌, ◌≡◌, Bool, cond, List, ℤ, pos}
use Rattle.std.specs.Ordering.{int_eq}
use Rattle.integers.specs.Lists.{all_below}
use Rattle.integers.specs.Sum.{sum_below}
use Rattle.sets.specs.Sets.{is_member}
use Rattle.register.specs.declared.Register.{Register}
use Rattle.register.specs.Register.{total_in, entry_in, row_total, row_entry}

-- the sum of the entries of the choices that a plan feeds, where entry j is that of choice j, of n choices
unfoldable pub fed_sum : ℕ → (ℕ → ℤ) → ℕ → ℤ
fed_sum n entry plan = sum_below n (λ j. cond (is_member j plan) (entry j) (pos 0))

-- a plan fits a row when the sum of its fed entries is the row's total
abbrev pub FitsRow : ℕ → (ℕ → ℤ) → ℤ → ℕ → Type 0
FitsRow n entry total plan = fed_sum n entry plan ≡ total

-- a plan fits rows 0, 1, .. count − 1, where row k has the entries entry k and the total total k, when it fits each. Where there is no
-- row, every plan fits
abbrev pub FitsRows : ℕ → ℕ → (ℕ → ℕ → ℤ) → (ℕ → ℤ) → ℕ → Type 0
FitsRows n count entry total plan = (k : ℕ) → k < count → FitsRow n (entry k) (total k) plan

-- the same as a test (`fits_iff` in proofs/Fits)
unfoldable pub fits_rows : ℕ → ℕ → (ℕ → ℕ → ℤ) → (ℕ → ℤ) → ℕ → Bool
fits_rows n count entry total plan = all_below count (λ k. int_eq (fed_sum n (entry k) plan) (total k))

-- ---- the rows of a register: a plan fits (the paper's own term) when it fits each of them

abbrev pub Fits : Register → ℕ → Type 0
Fits r plan = FitsRows r.choices r.rows (row_entry r) (row_total r) plan

-- the test, by the totals of so many rows and the entries of all, of n choices
abbrev pub stored_fits : (totals entries : List ℤ) → (rows n plan : ℕ) → Bool
stored_fits totals entries rows n plan = fits_rows n rows (entry_in entries) (total_in totals) plan

abbrev pub fits : Register → ℕ → Bool
fits r plan = stored_fits r.row_totals r.row_entries r.rows r.choices plan
