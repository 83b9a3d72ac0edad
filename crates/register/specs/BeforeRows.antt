-- How the register was read before it had rows, which was before it had ranges: no row for `14` or `16`, and nothing that follows them.
-- `15` and more than 32 choices, which came later, are read as today. The record is today's, with its rows as in a fresh one, at which
-- no check looks.
use Rattle.std.specs.Prelude.{List, [], ◌∷◌, ℕ}
use Rattle.wire.specs.Part.{Part, Reading, read_part, by_itself}
use Rattle.wire.specs.Rows.{Progress, Row, part_of}
use Rattle.register.specs.declared.Register.{Register}
use Rattle.register.specs.Register.{fresh}
use Rattle.register.specs.Format.{base_row, choice_row, term_row, window_row, wide_term_row, length_row, end_row}
use Rattle.register.specs.BeforeRanges.{row_before}

abbrev pub term_row_before_rows : Row Register
term_row_before_rows = row_before term_row (0x10 ∷ 0x11 ∷ 0x12 ∷ 0x13 ∷ 0x15 ∷ 0x18 ∷ []) term_row.checks

abbrev pub wide_term_row_before_rows : Row Register
wide_term_row_before_rows = row_before wide_term_row term_row_before_rows.follows wide_term_row.checks

abbrev pub end_row_before_rows : Row Register
end_row_before_rows = row_before end_row (0x10 ∷ 0x11 ∷ 0x12 ∷ 0x13 ∷ 0x15 ∷ 0x18 ∷ []) end_row.checks

abbrev pub rows_before_rows : List (Row Register)
rows_before_rows = base_row ∷ choice_row ∷ term_row_before_rows ∷ window_row ∷ wide_term_row_before_rows ∷ length_row ∷ end_row_before_rows ∷ []

abbrev pub part_before_rows : Part (Progress Register)
part_before_rows = part_of fresh rows_before_rows

-- at the front of a run of bytes, as in a job
unfoldable pub in_job_before_rows : List ℕ → Reading (Progress Register)
in_job_before_rows s = read_part part_before_rows s

-- as a run of bytes by itself
unfoldable pub by_itself_before_rows : List ℕ → Reading (Progress Register)
by_itself_before_rows s = by_itself s (in_job_before_rows s)
