-- A register that says no row and no range is read as before there were either, in number, position and every field. It is read as
-- before there were ranges, by `BeforeRanges`, and that reading is held here to the one before there were rows: each `14` was refused 1,
-- and one that may not stand where it does was so too; where reading comes to no other, no command follows one. Bytes without a byte
-- `14` say none.
use Prim.Native.Nat.{ℕ}
use native.Mathlib.Omega.{arith}
use mathlib.Core.Path.{◌∙◌, ◌≡◌, refl, ap}
use mathlib.Core.Bool.{false}
use mathlib.Core.List.{List}
use lib.IntN.{ℤ}
use Rattle.integers.proofs.Lists.{◌▹◌}
use Rattle.wire.specs.Part.{by_itself}
use Rattle.wire.specs.Rows.{Progress, row_of}
use Rattle.wire.proofs.Alike.{Alike, read_without}
use Rattle.register.specs.declared.Register.{Register}
use Rattle.register.specs.Register.{fresh}
use Rattle.register.specs.Format.{register_in_job, register_by_itself}
use Rattle.register.specs.Encoding.{HasByte, row_may_stand, SaysRow, SaysRange}
use Rattle.register.specs.BeforeRanges.{rows_before_ranges, part_before_ranges, in_job_before_ranges}
use Rattle.register.specs.BeforeRows.{part_before_rows, in_job_before_rows, by_itself_before_rows}
use Rattle.register.proofs.Said.{comes_byte, Unsaid, agree_before}
use Rattle.register.proofs.BeforeRanges.{as_before_ranges_in_job}

-- the fields that came with rows
abbrev pub rows_of : Register → ℕ × List ℤ × List ℤ
rows_of r = (r.rows, r.row_totals, r.row_entries)

abbrev pub Rowless : Register → Type 0
Rowless r = rows_of r ≡ rows_of fresh

abbrev pub Reach : Progress Register → ℕ → Type 0
Reach = Unsaid 0x14 Rowless

pub starts : Reach part_before_ranges.start 0
starts = record { not_read = λ e. omega arith; none = refl }

-- they agree but at a `14` that may stand
pub agree : (p : Progress Register) (at c : ℕ) → Reach p at → (c ≡ 0x14 → row_may_stand p ≡ false) → Alike part_before_ranges part_before_rows Reach p at c
unfolding row_of
agree = agree_before rows_before_ranges 0x14 Rowless ((λ d r xs w. w) ▹ (λ d r xs w. w) ▹ (λ d r xs w. w) ▹ (λ d r xs w. w) ▹ (λ d. absurd (d refl)) ▹ (λ d r xs w. w) ▹ (λ d r xs w. w) ▹ (λ d r xs w. w) ▹ tt)

-- bytes that say a row have a byte `14`
pub row_byte : (s : List ℕ) → SaysRow s → HasByte 0x14 s
row_byte s = comes_byte part_before_rows row_may_stand 0x14 s

-- and those that say none are read as before
module _ (s : List ℕ) (none : SaysRow s → ⊥) where
  both : in_job_before_ranges s ≡ in_job_before_rows s
  unfolding in_job_before_ranges in_job_before_rows
  both = (read_without part_before_ranges part_before_rows Reach row_may_stand 0x14 agree s none refl starts).0

  module _ (no_range : SaysRange s → ⊥) where
    pub as_before_rows_in_job : register_in_job s ≡ in_job_before_rows s
    as_before_rows_in_job = as_before_ranges_in_job s no_range ∙ both

    pub as_before_rows : register_by_itself s ≡ by_itself_before_rows s
    unfolding register_by_itself by_itself_before_rows
    as_before_rows = ap (by_itself s) as_before_rows_in_job
