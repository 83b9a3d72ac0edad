-- The register's record: its entries, the fresh one, and what a command gives.
use Rattle.std.specs.Prelude.{ℕ, suc, ◌+◌, ◌*◌, Bool, true, false, cond, List, get_or, set, replicate, ltb, ℤ, pos}
use Rattle.std.proofs.lemmas.List.Edits.{sets}
use Rattle.integers.specs.Lists.{any_below}
use Rattle.register.specs.declared.Register.{Register}
use Rattle.register.specs.Limits.{max_choices, max_terms, max_windows, max_rows, row_entries, usual_day}

-- choice i: its tank and its minute

abbrev pub tank : Register → ℕ → ℕ
tank r i = get_or r.tanks i 0

abbrev pub minute : Register → ℕ → ℕ
minute r i = get_or r.minutes i 0

-- term t: its mask, in which bit i names choice i; its coefficient, of a range the low one; the high one, of a term without a range the
-- coefficient once more; and whether it has a range

abbrev pub mask : Register → ℕ → ℕ
mask r t = get_or r.masks t 0

abbrev pub coefficient : Register → ℕ → ℤ
coefficient r t = get_or r.coefficients t (pos 0)

abbrev pub high : Register → ℕ → ℤ
high r t = get_or r.highs t (pos 0)

abbrev pub is_range : Register → ℕ → Bool
is_range r t = get_or r.ranged t false

-- the register has a term with a range, be its low and its high equal
abbrev pub has_range : Register → Bool
has_range r = any_below r.terms (is_range r)

-- window j: its tank, its "from" and its "to"

abbrev pub window_tank : Register → ℕ → ℕ
window_tank r j = get_or r.window_tanks j 0

abbrev pub window_from : Register → ℕ → ℕ
window_from r j = get_or r.window_froms j 0

abbrev pub window_to : Register → ℕ → ℕ
window_to r j = get_or r.window_tos j 0

-- row k: its total b, and its entry for choice j, in lists of totals and of entries; the entries of all rows stand one after the other.
-- A row has entries for the first choices; every other choice is in no row, which is to say that its entry is 0

abbrev pub total_in : List ℤ → ℕ → ℤ
total_in totals k = get_or totals k (pos 0)

abbrev pub entry_in : List ℤ → ℕ → ℕ → ℤ
entry_in entries k j = cond (ltb j row_entries) (get_or entries (k * row_entries + j) (pos 0)) (pos 0)

abbrev pub row_total : Register → ℕ → ℤ
row_total r k = total_in r.row_totals k

abbrev pub row_entry : Register → ℕ → ℕ → ℤ
row_entry r k j = entry_in r.row_entries k j

-- no base cost, no day length, no choice, no term, no window, no row; every entry is 0
unfoldable pub fresh : Register
fresh = record {
  base = pos 0;
  day_length = 0;
  choices = 0;
  terms = 0;
  tanks = replicate max_choices 0;
  minutes = replicate max_choices 0;
  masks = replicate max_terms 0;
  coefficients = replicate max_terms (pos 0);
  highs = replicate max_terms (pos 0);
  ranged = replicate max_terms false;
  windows = 0;
  window_tanks = replicate max_windows 0;
  window_froms = replicate max_windows 0;
  window_tos = replicate max_windows 0;
  rows = 0;
  row_totals = replicate max_rows (pos 0);
  row_entries = replicate (max_rows * row_entries) (pos 0);
}

-- ---- a register with other values of one group: the base cost, the day length, the choices, the terms, the windows,
-- the rows

abbrev pub set_base : Register → ℤ → Register
set_base r base = record r { base = base }

abbrev pub set_length : Register → ℕ → Register
set_length r length = record r { day_length = length }

abbrev pub set_choices : Register → ℕ → (tanks minutes : List ℕ) → Register
set_choices r n tanks minutes = record r { choices = n; tanks = tanks; minutes = minutes }

abbrev pub set_terms : Register → ℕ → List ℕ → (coefficients highs : List ℤ) → List Bool → Register
set_terms r m masks coefficients highs ranged = record r { terms = m; masks = masks; coefficients = coefficients; highs = highs; ranged = ranged }

abbrev pub set_windows : Register → ℕ → (tanks froms tos : List ℕ) → Register
set_windows r k tanks froms tos = record r { windows = k; window_tanks = tanks; window_froms = froms; window_tos = tos }

abbrev pub set_rows : Register → ℕ → (totals entries : List ℤ) → Register
set_rows r k totals entries = record r { rows = k; row_totals = totals; row_entries = entries }

-- ---- what a command gives

-- the base cost, and the length that a day has where no command says one
abbrev pub with_base : Register → ℤ → Register
with_base r base = set_length (set_base r base) usual_day

-- the day length
abbrev pub with_length : Register → ℕ → Register
with_length r length = set_length r length

-- one choice more; choices are numbered from 0
abbrev pub with_choice : Register → ℕ → ℕ → Register
with_choice r tank minute = set_choices r (suc r.choices) (set r.tanks r.choices tank) (set r.minutes r.choices minute)

-- one term more: with a low and a high, and whether they are a range
abbrev pub with_entry : Register → ℕ → (low high : ℤ) → Bool → Register
with_entry r mask low high ranged =
    set_terms r (suc r.terms) (set r.masks r.terms mask) (set r.coefficients r.terms low) (set r.highs r.terms high) (set r.ranged r.terms ranged)

-- with one coefficient, and with a range

abbrev pub with_term : Register → ℕ → ℤ → Register
with_term r mask coefficient = with_entry r mask coefficient coefficient false

abbrev pub with_range : Register → ℕ → (low high : ℤ) → Register
with_range r mask low high = with_entry r mask low high true

-- one window more
abbrev pub with_window : Register → (tank from to : ℕ) → Register
with_window r tank from to =
    set_windows r (suc r.windows) (set r.window_tanks r.windows tank) (set r.window_froms r.windows from) (set r.window_tos r.windows to)

-- one row more; rows are numbered from 0
abbrev pub with_row : Register → ℤ → List ℤ → Register
with_row r b entries = set_rows r (suc r.rows) (set r.row_totals r.rows b) (sets r.row_entries (r.rows * row_entries) entries)
