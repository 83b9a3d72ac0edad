-- How the register was read before forty-eight choices: at most 32, no row for `15`, and nothing that follows it. In between stands the
-- reading that has no row for `15` and reads up to 48 choices. The record is today's.
use Rattle.std.specs.Prelude.{ℕ, ◌-◌, Bool, not, ◌||◌, List, [], ◌∷◌, ltb, leb, eqb}
use Rattle.integers.specs.Lists.{comes_before}
use Rattle.wire.specs.Checks.{Check, check}
use Rattle.wire.specs.Part.{Part, Reading, read_part, by_itself}
use Rattle.wire.specs.Rows.{Progress, Row, part_of, binary}
use Rattle.register.specs.declared.Register.{Register}
use Rattle.register.specs.Limits.{max_tank}
use Rattle.register.specs.Register.{tank, minute, fresh}
use Rattle.register.specs.Format.{base_row, may_feed, choice_row, term_row, window_row, row_row, range_row, length_row, end_row}
use Rattle.register.specs.BeforeRanges.{row_before}

-- ---- without `15`

abbrev pub term_row_without_wide : Row Register
term_row_without_wide = row_before term_row (0x10 ∷ 0x11 ∷ 0x12 ∷ 0x13 ∷ 0x14 ∷ 0x16 ∷ 0x18 ∷ []) term_row.checks

abbrev pub range_row_without_wide : Row Register
range_row_without_wide = row_before range_row term_row_without_wide.follows range_row.checks

abbrev pub end_row_without_wide : Row Register
end_row_without_wide = row_before end_row term_row_without_wide.follows end_row.checks

abbrev pub rows_without_wide : List (Row Register)
rows_without_wide = base_row ∷ choice_row ∷ term_row_without_wide ∷ window_row ∷ row_row ∷ range_row_without_wide ∷ length_row ∷ end_row_without_wide ∷ []

abbrev pub part_without_wide : Part (Progress Register)
part_without_wide = part_of fresh rows_without_wide

-- ---- and with the highest number of choices as it was

abbrev pub max_choices_before : ℕ
max_choices_before = 32

unfoldable pub choice_checks_before_wide : (length n tank₀ minute₀ tank minute : ℕ) → (may : Bool) → List Check
choice_checks_before_wide length n tank₀ minute₀ tank minute may =
    check 3 (leb max_choices_before n)
    ∷ check 4 (eqb tank 0 || ltb max_tank tank || leb length minute)
    ∷ check 7 (not (eqb n 0 || comes_before (tank₀ ∷ minute₀ ∷ []) (tank ∷ minute ∷ [])))
    ∷ check 13 (not may)
    ∷ []

abbrev pub choice_row_before_wide : Row Register
choice_row_before_wide = row_before choice_row choice_row.follows λ r. let previous = r.choices - 1 in
    binary λ t m. choice_checks_before_wide r.day_length r.choices (tank r previous) (minute r previous) t m (may_feed r.windows r.window_tanks r.window_froms r.window_tos t m)

abbrev pub rows_before_wide : List (Row Register)
rows_before_wide = base_row ∷ choice_row_before_wide ∷ term_row_without_wide ∷ window_row ∷ row_row ∷ range_row_without_wide ∷ length_row ∷ end_row_without_wide ∷ []

abbrev pub part_before_wide : Part (Progress Register)
part_before_wide = part_of fresh rows_before_wide

-- at the front of a run of bytes, as in a job
unfoldable pub in_job_before_wide : List ℕ → Reading (Progress Register)
in_job_before_wide s = read_part part_before_wide s

-- as a run of bytes by itself
unfoldable pub by_itself_before_wide : List ℕ → Reading (Progress Register)
by_itself_before_wide s = by_itself s (in_job_before_wide s)
