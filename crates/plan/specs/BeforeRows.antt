-- How a plan was read before registers had rows: without the check 15. `41`, which came later, is read as today but for that check.
use Rattle.std.specs.Prelude.{ℕ, ◌^◌, List, [], ◌∷◌, leb}
use Rattle.wire.specs.Checks.{Check, check}
use Rattle.wire.specs.Part.{Part, Reading, read_part, by_itself}
use Rattle.wire.specs.Rows.{Progress, Row, part_of, unary}
use Rattle.register.specs.declared.Register.{Register}
use Rattle.plan.specs.Format.{plan_row, wide_plan_row}

-- every choice that the plan feeds is there, of n choices
unfoldable pub plan_checks_before_rows : (n plan : ℕ) → List Check
plan_checks_before_rows n plan = check 5 (leb (2 ^ n) plan) ∷ []

-- a row of today, with its checks as they were
abbrev pub row_before_rows : Register → Row ℕ → Row ℕ
row_before_rows reg row = record row { checks = λ p. unary (plan_checks_before_rows reg.choices) }

abbrev pub plan_rows_before_rows : Register → List (Row ℕ)
plan_rows_before_rows reg = row_before_rows reg (plan_row reg) ∷ row_before_rows reg (wide_plan_row reg) ∷ []

abbrev pub plan_part_before_rows : Register → Part (Progress ℕ)
plan_part_before_rows reg = part_of 0 (plan_rows_before_rows reg)

-- at the front of a run of bytes, as in a job
unfoldable pub plan_in_job_before_rows : Register → List ℕ → Reading (Progress ℕ)
plan_in_job_before_rows reg s = read_part (plan_part_before_rows reg) s

-- as a run of bytes by itself
unfoldable pub plan_by_itself_before_rows : Register → List ℕ → Reading (Progress ℕ)
plan_by_itself_before_rows reg s = by_itself s (plan_in_job_before_rows reg s)
