-- How a plan was read before it could name more than 32 choices: no row for `41`.
use Rattle.std.specs.Prelude.{ℕ, List, [], ◌∷◌}
use Rattle.wire.specs.Part.{Part, Reading, read_part, by_itself}
use Rattle.wire.specs.Rows.{Progress, Row, part_of}
use Rattle.register.specs.declared.Register.{Register}
use Rattle.plan.specs.Format.{plan_row}

abbrev pub plan_rows_before_wide : Register → List (Row ℕ)
plan_rows_before_wide reg = plan_row reg ∷ []

abbrev pub plan_part_before_wide : Register → Part (Progress ℕ)
plan_part_before_wide reg = part_of 0 (plan_rows_before_wide reg)

-- at the front of a run of bytes, as in a job
unfoldable pub plan_in_job_before_wide : Register → List ℕ → Reading (Progress ℕ)
plan_in_job_before_wide reg s = read_part (plan_part_before_wide reg) s

-- as a run of bytes by itself
unfoldable pub plan_by_itself_before_wide : Register → List ℕ → Reading (Progress ℕ)
plan_by_itself_before_wide reg s = by_itself s (plan_in_job_before_wide reg s)
