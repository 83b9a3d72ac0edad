-- How the register was read before it had windows, which was before it had a day length, rows or ranges: no row for `13`, `14`, `16` or
-- `18`, nothing that follows them, no check 13, and a fixed highest minute. The record is today's, with its windows and rows as in a
-- fresh one and the length that `10` gives it, at which no check looks. `15` and more than 32 choices, which came later, are read as
-- today.
use Rattle.std.specs.Prelude.{ℕ, ◌-◌, not, ◌||◌, List, [], ◌∷◌, ltb, leb, eqb}
use Rattle.integers.specs.Lists.{comes_before}
use Rattle.wire.specs.Checks.{Check, check}
use Rattle.wire.specs.Part.{Part, Reading, read_part, by_itself}
use Rattle.wire.specs.Rows.{Progress, Row, part_of, binary}
use Rattle.register.specs.declared.Register.{Register}
use Rattle.register.specs.Limits.{max_choices, max_tank}
use Rattle.register.specs.Register.{tank, minute, fresh}
use Rattle.register.specs.Format.{base_row, choice_row, term_row, wide_term_row, end_row}
use Rattle.register.specs.BeforeRanges.{row_before}
use Rattle.register.specs.BeforeLengths.{max_minute_before}

unfoldable pub choice_checks_before_windows : (n tank₀ minute₀ tank minute : ℕ) → List Check
choice_checks_before_windows n tank₀ minute₀ tank minute =
    check 3 (leb max_choices n)
    ∷ check 4 (eqb tank 0 || ltb max_tank tank || ltb max_minute_before minute)
    ∷ check 7 (not (eqb n 0 || comes_before (tank₀ ∷ minute₀ ∷ []) (tank ∷ minute ∷ [])))
    ∷ []

abbrev pub choice_row_before_windows : Row Register
choice_row_before_windows = row_before choice_row (0x10 ∷ 0x11 ∷ []) λ r. let previous = r.choices - 1 in binary (choice_checks_before_windows r.choices (tank r previous) (minute r previous))

abbrev pub term_row_before_windows : Row Register
term_row_before_windows = row_before term_row (0x10 ∷ 0x11 ∷ 0x12 ∷ 0x15 ∷ []) term_row.checks

abbrev pub wide_term_row_before_windows : Row Register
wide_term_row_before_windows = row_before wide_term_row term_row_before_windows.follows wide_term_row.checks

abbrev pub end_row_before_windows : Row Register
end_row_before_windows = row_before end_row (0x10 ∷ 0x11 ∷ 0x12 ∷ 0x15 ∷ []) end_row.checks

abbrev pub rows_before_windows : List (Row Register)
rows_before_windows = base_row ∷ choice_row_before_windows ∷ term_row_before_windows ∷ wide_term_row_before_windows ∷ end_row_before_windows ∷ []

abbrev pub part_before_windows : Part (Progress Register)
part_before_windows = part_of fresh rows_before_windows

-- at the front of a run of bytes, as in a job
unfoldable pub in_job_before_windows : List ℕ → Reading (Progress Register)
in_job_before_windows s = read_part part_before_windows s

-- as a run of bytes by itself
unfoldable pub by_itself_before_windows : List ℕ → Reading (Progress Register)
by_itself_before_windows s = by_itself s (in_job_before_windows s)
