-- The plan's commands, `40` and `41`, with a register. One of them is the plan.
use Rattle.std.specs.Prelude.{ℕ, ◌^◌, Bool, true, not, List, [], ◌∷◌, leb}
use Rattle.wire.specs.Checks.{Check, check}
use Rattle.wire.specs.Part.{Part, Reading, read_part, by_itself}
use Rattle.wire.specs.Rows.{Progress, Row, part_of, unary}
use Rattle.register.specs.declared.Register.{Register}
use Rattle.plan.specs.Fits.{fits}

-- every choice that the plan feeds is there, of n choices, and the plan fits the rows
unfoldable pub plan_checks : (n plan : ℕ) → (fitting : Bool) → List Check
plan_checks n plan fitting = check 5 (leb (2 ^ n) plan) ∷ check 15 (not fitting) ∷ []

-- `40`: a set of choices as four bytes, one bit each, so it names choices 0 to 31 only; nothing follows it
abbrev pub plan_row : Register → Row ℕ
plan_row reg = record {
  byte = 0x40;
  follows = 0 ∷ [];
  widths = 4 ∷ [];
  checks = λ p. unary λ plan. plan_checks reg.choices plan (fits reg plan);
  after = λ p. unary λ plan. plan;
  last = true;
}

-- `41`: as eight bytes, and in all else as `40` is
abbrev pub wide_plan_row : Register → Row ℕ
wide_plan_row reg = record (plan_row reg) { byte = 0x41; widths = 8 ∷ [] }

abbrev pub plan_rows : Register → List (Row ℕ)
plan_rows reg = plan_row reg ∷ wide_plan_row reg ∷ []

abbrev pub plan_part : Register → Part (Progress ℕ)
plan_part reg = part_of 0 (plan_rows reg)

-- the plan at the front of a run of bytes, as in a job
unfoldable pub plan_in_job : Register → List ℕ → Reading (Progress ℕ)
plan_in_job reg s = read_part (plan_part reg) s

-- the plan as a run of bytes by itself
unfoldable pub plan_by_itself : Register → List ℕ → Reading (Progress ℕ)
plan_by_itself reg s = by_itself s (plan_in_job reg s)
