-- With a register without rows a plan is read as before there were any, in number, position and set.
use Prim.Native.Nat.{ℕ}
use mathlib.Core.Path.{◌≡◌, refl, ap}
use mathlib.Core.Bool.{true}
use mathlib.Core.List.{List}
use lib.ListN.{get_or}
use Rattle.integers.proofs.Lists.{◌▹◌}
use Rattle.wire.specs.Checks.{refusal}
use Rattle.wire.specs.Part.{by_itself}
use Rattle.wire.specs.Rows.{Progress, is_among, row_of}
use Rattle.wire.proofs.Rest.{no_row_lem, by_bytes}
use Rattle.wire.proofs.Alike.{moved_row, rows_alike, Alike, neither, read_alike}
use Rattle.register.specs.declared.Register.{Register}
use Rattle.plan.specs.Fits.{fits}
use Rattle.plan.specs.Format.{plan_checks, plan_row, wide_plan_row, plan_rows, plan_part, plan_in_job, plan_by_itself}
use Rattle.plan.specs.BeforeRows.{plan_checks_before_rows, plan_rows_before_rows, plan_part_before_rows, plan_in_job_before_rows, plan_by_itself_before_rows}
use Rattle.plan.proofs.Fits.{register_fits, every_fits}

module _ (reg : Register) (none : reg.rows ≡ 0) where
  -- every plan passes the test
  passes : (plan : ℕ) → fits reg plan ≡ true
  passes plan = (register_fits reg plan).1 (every_fits reg none plan)

  same_checks : (plan : ℕ) → refusal (plan_checks reg.choices plan (fits reg plan)) ≡ refusal (plan_checks_before_rows reg.choices plan)
  unfolding plan_checks plan_checks_before_rows refusal
  same_checks plan = rw (passes plan)

  -- nothing is asked of what was read
  abbrev Any : Progress ℕ → ℕ → Type 0
  Any p at = Unit {0}

  alike : (p : Progress ℕ) (at b : ℕ) → Alike (plan_part reg) (plan_part_before_rows reg) Any p at b
  unfolding row_of
  alike p at b =
      by_bytes (λ b. Alike (plan_part reg) (plan_part_before_rows reg) Any p at b) (plan_rows reg) b
      (λ n. neither (plan_part reg) (plan_part_before_rows reg) Any
      (ap (λ row. is_among p.previous row.follows) (no_row_lem (plan_rows reg) b n))
      (ap (λ row. is_among p.previous row.follows) (no_row_lem (plan_rows_before_rows reg) b (n.0 ▹ n.1.0 ▹ tt))))
      (rows_alike 0 (plan_rows reg) (plan_rows_before_rows reg) Any p at 0x40 (moved_row (plan_row reg)) refl (λ t xs. (same_checks (get_or xs 0 0), tt))
      ▹ rows_alike 0 (plan_rows reg) (plan_rows_before_rows reg) Any p at 0x41 (moved_row (wide_plan_row reg)) refl (λ t xs. (same_checks (get_or xs 0 0), tt))
      ▹ tt)

  pub plan_as_before_rows_in_job : (s : List ℕ) → plan_in_job reg s ≡ plan_in_job_before_rows reg s
  unfolding plan_in_job plan_in_job_before_rows
  plan_as_before_rows_in_job s = (read_alike (plan_part reg) (plan_part_before_rows reg) Any s (λ p at r. alike p at (get_or s at 0)) refl tt).0

  pub plan_as_before_rows : (s : List ℕ) → plan_by_itself reg s ≡ plan_by_itself_before_rows reg s
  unfolding plan_by_itself plan_by_itself_before_rows
  plan_as_before_rows s = ap (by_itself s) (plan_as_before_rows_in_job s)
