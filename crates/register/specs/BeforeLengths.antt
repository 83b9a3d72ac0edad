-- How the register was read before it had a day length, which was before it had rows or ranges: no row for `14`, `16` or `18`, nothing
-- that follows them, and in the checks a fixed highest minute and a fixed highest "to". The record is today's: `10` gives it the usual
-- length, and its rows are as in a fresh one; no check looks at either. `15` and more than 32 choices, which came later, are read as
-- today.
use Rattle.std.specs.Prelude.{ℕ, suc, ◌-◌, Bool, not, ◌||◌, List, [], ◌∷◌, ltb, leb, eqb}
use Rattle.integers.specs.Lists.{comes_before}
use Rattle.wire.specs.Checks.{Check, check}
use Rattle.wire.specs.Part.{Part, Reading, read_part, by_itself}
use Rattle.wire.specs.Rows.{Progress, Row, part_of, binary, ternary}
use Rattle.register.specs.declared.Register.{Register}
use Rattle.register.specs.Limits.{max_choices, max_windows, max_tank}
use Rattle.register.specs.Register.{tank, minute, window_tank, window_from, fresh}
use Rattle.register.specs.Format.{base_row, may_feed, choice_row, term_row, window_row, wide_term_row, end_row}
use Rattle.register.specs.BeforeRanges.{row_before}

-- the highest minute and the highest "to", as they were

abbrev pub max_minute_before : ℕ
max_minute_before = 1_439

abbrev pub max_to_before : ℕ
max_to_before = suc max_minute_before

unfoldable pub choice_checks_before_lengths : (n tank₀ minute₀ tank minute : ℕ) → (may : Bool) → List Check
choice_checks_before_lengths n tank₀ minute₀ tank minute may =
    check 3 (leb max_choices n)
    ∷ check 4 (eqb tank 0 || ltb max_tank tank || ltb max_minute_before minute)
    ∷ check 7 (not (eqb n 0 || comes_before (tank₀ ∷ minute₀ ∷ []) (tank ∷ minute ∷ [])))
    ∷ check 13 (not may)
    ∷ []

abbrev pub choice_row_before_lengths : Row Register
choice_row_before_lengths = row_before choice_row (0x10 ∷ 0x11 ∷ 0x13 ∷ []) λ r. let previous = r.choices - 1 in
    binary λ t m. choice_checks_before_lengths r.choices (tank r previous) (minute r previous) t m (may_feed r.windows r.window_tanks r.window_froms r.window_tos t m)

abbrev pub term_row_before_lengths : Row Register
term_row_before_lengths = row_before term_row (0x10 ∷ 0x11 ∷ 0x12 ∷ 0x13 ∷ 0x15 ∷ []) term_row.checks

unfoldable pub window_checks_before_lengths : (k tank₀ from₀ tank from to : ℕ) → List Check
window_checks_before_lengths k tank₀ from₀ tank from to =
    check 3 (leb max_windows k)
    ∷ check 4 (eqb tank 0 || ltb max_tank tank || ltb max_minute_before from || eqb to 0 || ltb max_to_before to)
    ∷ check 6 (leb to from)
    ∷ check 7 (not (eqb k 0 || comes_before (tank₀ ∷ from₀ ∷ []) (tank ∷ from ∷ [])))
    ∷ []

abbrev pub window_row_before_lengths : Row Register
window_row_before_lengths = row_before window_row (0x10 ∷ 0x13 ∷ []) λ r. let previous = r.windows - 1 in
    ternary (window_checks_before_lengths r.windows (window_tank r previous) (window_from r previous))

abbrev pub wide_term_row_before_lengths : Row Register
wide_term_row_before_lengths = row_before wide_term_row term_row_before_lengths.follows wide_term_row.checks

abbrev pub end_row_before_lengths : Row Register
end_row_before_lengths = row_before end_row (0x10 ∷ 0x11 ∷ 0x12 ∷ 0x13 ∷ 0x15 ∷ []) end_row.checks

abbrev pub rows_before_lengths : List (Row Register)
rows_before_lengths = base_row ∷ choice_row_before_lengths ∷ term_row_before_lengths ∷ window_row_before_lengths ∷ wide_term_row_before_lengths ∷ end_row_before_lengths ∷ []

abbrev pub part_before_lengths : Part (Progress Register)
part_before_lengths = part_of fresh rows_before_lengths

-- at the front of a run of bytes, as in a job
unfoldable pub in_job_before_lengths : List ℕ → Reading (Progress Register)
in_job_before_lengths s = read_part part_before_lengths s

-- as a run of bytes by itself
unfoldable pub by_itself_before_lengths : List ℕ → Reading (Progress Register)
by_itself_before_lengths s = by_itself s (in_job_before_lengths s)
