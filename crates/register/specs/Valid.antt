-- The conditions of the scope paper, of R-1, of R-4, of R-5, of R-9 and of R-10 on a register: counts, ranges, names, orders, windows, rows and
-- the day's length.
-- Written without the reader.
use Rattle.std.specs.Prelude.{ℕ, ◌^◌, ◌<◌, ◌≤◌, ◌≡◌, ◌⊎◌, ◌*◌, Bool, false, ℤ, pos, nat_abs, ◌≤ℤ◌, List, get_or}
use Rattle.integers.specs.Lists.{Column, Table}
use Rattle.register.specs.declared.Register.{Register}
use Rattle.register.specs.Limits.{max_choices, max_terms, max_windows, max_rows, row_entries, max_row_total, lowest_entry, highest_entry, max_base, max_tank, max_coefficient, short_day, usual_day, long_day}
use Rattle.register.specs.Register.{tank, minute, total_in, entry_in}

-- a day has 1,380, 1,440 or 1,500 minutes
abbrev pub DayLength : ℕ → Type 0
DayLength length = (length ≡ short_day) ⊎ ((length ≡ usual_day) ⊎ (length ≡ long_day))

-- the ranges of a choice's numbers on a day of this length; a minute may be 0, a tank not
pub record Choice (length tank minute : ℕ) : Type 0 where
  pub tank_above : 1 ≤ tank
  pub tank_within : tank ≤ max_tank
  pub minute_below : minute < length

-- a choice comes before another: by tank, then minute; so does a window, by tank, then "from"
abbrev pub Before : (c d : ℕ × ℕ) → Type 0
Before c d = (c.0 < d.0) ⊎ ((c.0 ≡ d.0) × (c.1 < d.1))

-- one coefficient, which is not 0
abbrev pub Known : (low high : ℤ) → Type 0
Known low high = (high ≡ low) × (1 ≤ nat_abs low)

-- both coefficients are within ±1,000,000, and the low one is at most the high one; where the term has no range (`ranged`), they are
-- one, which is not 0. The mask names some of the n choices, at least one. No bytes say a range that names a choice from 32 on: an encoding
-- has none (`SaysRanged` in `Encoding`)
pub record Term (n mask : ℕ) (low high : ℤ) (ranged : Bool) : Type 0 where
  pub coefficient_within : nat_abs low ≤ max_coefficient
  pub high_within : nat_abs high ≤ max_coefficient
  pub ordered : low ≤ℤ high
  pub known : ranged ≡ false → Known low high
  pub mask_not_0 : 1 ≤ mask
  pub mask_names : mask < 2 ^ n

-- masks rise, whether terms have ranges or not
abbrev pub Rises : (c d : ℕ × ℤ × ℤ × Bool) → Type 0
Rises c d = c.0 < d.0

-- the ranges of a window's numbers on a day of this length; "from" is below "to"
pub record Window (length t from to : ℕ) : Type 0 where
  pub tank_above : 1 ≤ t
  pub tank_within : t ≤ max_tank
  pub from_below : from < length
  pub to_above : 1 ≤ to
  pub to_within : to ≤ length
  pub ordered : from < to

-- the ranges of a row's total and of its entries; those past the n choices are 0
pub record FeedingRow (n : ℕ) (total : ℤ) (entry : ℕ → ℤ) : Type 0 where
  pub total_within : nat_abs total ≤ max_row_total
  pub entry_above : (j : ℕ) → j < row_entries → lowest_entry ≤ℤ entry j
  pub entry_below : (j : ℕ) → j < row_entries → entry j ≤ℤ highest_entry
  pub past_0 : (j : ℕ) → n ≤ j → j < row_entries → entry j ≡ pos 0

-- entry i of several arrays: a choice, a term, a window

abbrev pub choice_in : (ts ms : List ℕ) → ℕ → ℕ × ℕ
choice_in ts ms i = (get_or ts i 0, get_or ms i 0)

abbrev pub term_in : List ℕ → (cs hs : List ℤ) → List Bool → ℕ → ℕ × ℤ × ℤ × Bool
term_in ms cs hs rs i = (get_or ms i 0, get_or cs i (pos 0), get_or hs i (pos 0), get_or rs i false)

abbrev pub window_in : (ts fs os : List ℕ) → ℕ → ℕ × ℕ × ℕ
window_in ts fs os i = (get_or ts i 0, get_or fs i 0, get_or os i 0)

-- up to 48 choices, each in its ranges, rising; ts and ms are the arrays of their tanks and minutes
pub record Choices (length n : ℕ) (ts ms : List ℕ) : Type 0 where
  pub tanks : Column max_choices n 0 ts
  pub minutes : Column max_choices n 0 ms
  pub table : Table max_choices n (choice_in ts ms) (λ c. Choice length c.0 c.1) Before
  pub open table use *

-- up to 256 terms over n choices, masks rising; ms, cs, hs and rs are the arrays of their masks, of their low and high coefficients, and
-- of whether they have ranges
pub record Terms (n m : ℕ) (ms : List ℕ) (cs hs : List ℤ) (rs : List Bool) : Type 0 where
  pub masks : Column max_terms m 0 ms
  pub coefficients : Column max_terms m (pos 0) cs
  pub highs : Column max_terms m (pos 0) hs
  pub ranged : Column max_terms m false rs
  pub table : Table max_terms m (term_in ms cs hs rs) (λ c. Term n c.0 c.1 c.2 c.3) Rises
  pub open table use *

-- up to 64 windows (tank, from, to), each in its ranges, rising; ts, fs and os are the arrays of the three
pub record Windows (length k : ℕ) (ts fs os : List ℕ) : Type 0 where
  pub tanks : Column max_windows k 0 ts
  pub froms : Column max_windows k 0 fs
  pub tos : Column max_windows k 0 os
  pub table : Table max_windows k (window_in ts fs os) (λ c. Window length c.0 c.1 c.2) (λ c d. Before (c.0, c.1) (d.0, d.1))
  pub open table use *

-- up to 8 rows over n choices, each in its ranges, in any order; bs and es are the arrays of their totals and entries
pub record Rows (n k : ℕ) (bs es : List ℤ) : Type 0 where
  pub totals : Column max_rows k (pos 0) bs
  pub entries : Column (max_rows * row_entries) (k * row_entries) (pos 0) es
  pub few : k ≤ max_rows
  pub each : (i : ℕ) → i < k → FeedingRow n (total_in bs i) (entry_in es i)

-- one of the tank's windows among k holds the minute: "from" ≤ minute < "to"
pub record Inside (k : ℕ) (f : ℕ → ℕ × ℕ × ℕ) (tank minute : ℕ) : Type 0 where
  pub window : ℕ
  pub there : window < k
  pub own : (f window).0 ≡ tank
  pub from : (f window).1 ≤ minute
  pub to : minute < (f window).2

-- a tank may be fed at any minute where none of k windows is its own, and otherwise inside its windows
abbrev pub MayFeed : (k : ℕ) → (ℕ → ℕ × ℕ × ℕ) → (tank minute : ℕ) → Type 0
MayFeed k f tank minute = ((j : ℕ) → j < k → (f j).0 ≡ tank → ⊥) ⊎ Inside k f tank minute

-- window j of a register
abbrev pub window_at : Register → ℕ → ℕ × ℕ × ℕ
window_at r j = window_in r.window_tanks r.window_froms r.window_tos j

-- within the limits, as far as commands other than the end say; entries past the counts are 0
pub record Within (r : Register) : Type 0 where
  pub base : nat_abs r.base ≤ max_base
  -- 0 before the first command
  pub day : (r.day_length ≡ 0) ⊎ DayLength r.day_length
  pub choices : Choices r.day_length r.choices r.tanks r.minutes
  pub terms : Terms r.choices r.terms r.masks r.coefficients r.highs r.ranged
  pub windows : Windows r.day_length r.windows r.window_tanks r.window_froms r.window_tos
  pub rows : Rows r.choices r.rows r.row_totals r.row_entries
  -- each choice's tank may be fed at its minute
  pub may_feed : (i : ℕ) → i < r.choices → MayFeed r.windows (window_at r) (tank r i) (minute r i)

-- and the day's length is one of the three, and a first choice is there, which the end command asks for
pub record Valid (r : Register) : Type 0 where
  pub within : Within r
  pub day_length : DayLength r.day_length
  pub some_choice : 1 ≤ r.choices
