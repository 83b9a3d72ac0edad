-- How a scheme was read before there was a factor: there was no `23`, and no command stood after one. What else the rows say is today's.
-- The record had no factor; today's has 1.
use Rattle.std.specs.Prelude.{ℕ, List, [], ◌∷◌}
use Rattle.wire.specs.Part.{Part, Reading, read_part, by_itself}
use Rattle.wire.specs.Rows.{Progress, Row, part_of}
use Rattle.register.specs.declared.Register.{Register}
use Rattle.scheme.specs.declared.Scheme.{Scheme}
use Rattle.scheme.specs.Scheme.{initial}
use Rattle.scheme.specs.Format.{product_row, split_row, end_row}

abbrev pub rows_before_factors : Register → List (Row Scheme)
rows_before_factors reg =
    record (product_row reg) { follows = 0 ∷ 0x21 ∷ [] }
    ∷ record (split_row reg) { follows = 0 ∷ 0x21 ∷ 0x22 ∷ [] }
    ∷ record (end_row reg) { follows = 0 ∷ 0x21 ∷ 0x22 ∷ [] }
    ∷ []

abbrev pub part_before_factors : Register → Part (Progress Scheme)
part_before_factors reg = part_of initial (rows_before_factors reg)

-- at the front of a run of bytes, as in a job
unfoldable pub in_job_before_factors : Register → List ℕ → Reading (Progress Scheme)
in_job_before_factors reg s = read_part (part_before_factors reg) s

-- as a run of bytes by itself
unfoldable pub by_itself_before_factors : Register → List ℕ → Reading (Progress Scheme)
by_itself_before_factors reg s = by_itself s (in_job_before_factors reg s)
