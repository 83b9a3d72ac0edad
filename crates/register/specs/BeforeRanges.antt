-- How the register was read before it had ranges: no row for `16`, and nothing that follows it. What came later, `15` and more than 32
-- choices, is read as today. The record is today's: a term has its coefficient as the high one too, and no range.
use Rattle.std.specs.Prelude.{List, [], ◌∷◌, ℕ}
use Rattle.wire.specs.Checks.{Check}
use Rattle.wire.specs.Part.{Part, Reading, read_part, by_itself}
use Rattle.wire.specs.Rows.{Progress, Row, part_of}
use Rattle.register.specs.declared.Register.{Register}
use Rattle.register.specs.Register.{fresh}
use Rattle.register.specs.Format.{base_row, choice_row, term_row, window_row, row_row, wide_term_row, length_row, end_row}

-- a row of today, with what it followed and its checks as they were
abbrev pub row_before : Row Register → List ℕ → (Register → List ℕ → List Check) → Row Register
row_before row follows checks = record row { follows = follows; checks = checks }

abbrev pub term_row_before_ranges : Row Register
term_row_before_ranges = row_before term_row (0x10 ∷ 0x11 ∷ 0x12 ∷ 0x13 ∷ 0x14 ∷ 0x15 ∷ 0x18 ∷ []) term_row.checks

abbrev pub wide_term_row_before_ranges : Row Register
wide_term_row_before_ranges = row_before wide_term_row term_row_before_ranges.follows wide_term_row.checks

abbrev pub end_row_before_ranges : Row Register
end_row_before_ranges = row_before end_row (0x10 ∷ 0x11 ∷ 0x12 ∷ 0x13 ∷ 0x14 ∷ 0x15 ∷ 0x18 ∷ []) end_row.checks

abbrev pub rows_before_ranges : List (Row Register)
rows_before_ranges = base_row ∷ choice_row ∷ term_row_before_ranges ∷ window_row ∷ row_row ∷ wide_term_row_before_ranges ∷ length_row ∷ end_row_before_ranges ∷ []

abbrev pub part_before_ranges : Part (Progress Register)
part_before_ranges = part_of fresh rows_before_ranges

-- at the front of a run of bytes, as in a job
unfoldable pub in_job_before_ranges : List ℕ → Reading (Progress Register)
in_job_before_ranges s = read_part part_before_ranges s

-- as a run of bytes by itself
unfoldable pub by_itself_before_ranges : List ℕ → Reading (Progress Register)
by_itself_before_ranges s = by_itself s (in_job_before_ranges s)
