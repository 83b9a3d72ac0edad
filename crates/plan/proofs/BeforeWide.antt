-- Bytes that do not begin with `41` are read as before there was such a command, in number, position and set.
use Prim.Native.Nat.{ℕ}
use native.Mathlib.Omega.{arith}
use mathlib.Core.Path.{◌≡◌, refl, ap}
use mathlib.Core.List.{List}
use lib.ListN.{get_or}
use borrow.Author.Tests.{ne_eqb}
use Rattle.integers.proofs.Lists.{◌▹◌}
use Rattle.wire.specs.Part.{by_itself}
use Rattle.wire.specs.Rows.{Progress, is_among, row_of}
use Rattle.wire.proofs.Rest.{no_row_lem, by_bytes}
use Rattle.wire.proofs.Alike.{moved_row, rows_alike, Alike, neither, read_alike}
use Rattle.register.specs.declared.Register.{Register}
use Rattle.plan.specs.Format.{plan_row, plan_rows, plan_part, plan_in_job, plan_by_itself}
use Rattle.plan.specs.Encoding.{BeginsWide}
use Rattle.plan.specs.BeforeWide.{plan_rows_before_wide, plan_part_before_wide, plan_in_job_before_wide, plan_by_itself_before_wide}

module _ (reg : Register) (s : List ℕ) (d : BeginsWide s → ⊥) where
  -- the first command's byte is not `41`, and no command follows it
  abbrev First : Progress ℕ → ℕ → Type 0
  First p at = p.previous ≡ 0 → get_or s at 0 ≡ 0x41 → ⊥

  alike : (p : Progress ℕ) (at b : ℕ) → (p.previous ≡ 0 → b ≡ 0x41 → ⊥) → Alike (plan_part reg) (plan_part_before_wide reg) First p at b
  unfolding row_of
  alike p at b =
      by_bytes (λ b. (p.previous ≡ 0 → b ≡ 0x41 → ⊥) → Alike (plan_part reg) (plan_part_before_wide reg) First p at b) (plan_rows reg) b
      (λ n h. neither (plan_part reg) (plan_part_before_wide reg) First
      (ap (λ row. is_among p.previous row.follows) (no_row_lem (plan_rows reg) b n))
      (ap (λ row. is_among p.previous row.follows) (no_row_lem (plan_rows_before_wide reg) b (n.0 ▹ tt))))
      ((λ h. rows_alike 0 (plan_rows reg) (plan_rows_before_wide reg) First p at 0x40 (moved_row (plan_row reg)) refl (λ t xs. (refl, λ z. absurd (omega arith))))
      ▹ (λ h. neither (plan_part reg) (plan_part_before_wide reg) First (ne_eqb p.previous 0 (λ z. h z refl)) refl)
      ▹ tt)

  pub plan_as_before_wide_in_job : plan_in_job reg s ≡ plan_in_job_before_wide reg s
  unfolding plan_in_job plan_in_job_before_wide
  plan_as_before_wide_in_job = (read_alike (plan_part reg) (plan_part_before_wide reg) First s (λ p at r. alike p at (get_or s at 0) r) refl (λ z e. d e)).0

  pub plan_as_before_wide : plan_by_itself reg s ≡ plan_by_itself_before_wide reg s
  unfolding plan_by_itself plan_by_itself_before_wide
  plan_as_before_wide = ap (by_itself s) plan_as_before_wide_in_job
