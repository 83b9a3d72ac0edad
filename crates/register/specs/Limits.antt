-- The register's limits and ranges.
use Rattle.std.specs.Prelude.{ℕ, ℤ, pos, negsuc}

-- up to 48 choices, 256 terms, 64 windows and 8 rows

abbrev pub max_choices : ℕ
max_choices = 48

abbrev pub max_terms : ℕ
max_terms = 256

abbrev pub max_windows : ℕ
max_windows = 64

abbrev pub max_rows : ℕ
max_rows = 8

-- the entries of a row, one for each of the choices 0 to 31

abbrev pub row_entries : ℕ
row_entries = 32

-- the choices that a set of four bytes can name, 0 to 31; one of eight bytes names all

abbrev pub narrow_choices : ℕ
narrow_choices = 32

-- the highest base cost, tank and coefficient; base cost and coefficient may be as far below 0

abbrev pub max_base : ℕ
max_base = 1_000_000_000

abbrev pub max_tank : ℕ
max_tank = 9_999

abbrev pub max_coefficient : ℕ
max_coefficient = 1_000_000

-- the highest total of a row (b of the request), which may be as far below 0

abbrev pub max_row_total : ℕ
max_row_total = 4_064

-- the lowest and the highest entry of a row, those of 8 bits

abbrev pub lowest_entry : ℤ
lowest_entry = negsuc 127

abbrev pub highest_entry : ℤ
highest_entry = pos 127

-- the minutes of a day: when the clocks go forward, on a usual day, and when they go back. Where a register says no length, it is
-- the usual one

abbrev pub short_day : ℕ
short_day = 1_380

abbrev pub usual_day : ℕ
usual_day = 1_440

abbrev pub long_day : ℕ
long_day = 1_500
