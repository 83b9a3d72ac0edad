-- A register without windows that says no day length, no row and no range is read as before there were any of these, in number, position
-- and every field. It is read as before there were day lengths, by `BeforeLengths`, and that reading is held here to the one before there were windows: the
-- first window stood at 5, after the base cost; with no `13` there, one that stands where a command is due is refused 1, as it was.
use Prim.Native.Nat.{ℕ, ◌<◌}
use native.Mathlib.Omega.{arith}
use mathlib.Core.Path.{◌≡◌, refl, sym, ◌∙◌, ap}
use mathlib.Core.Bool.{or-false}
use mathlib.Core.List.{List}
use lib.ListN.{get_or}
use borrow.Author.Tests.{eqb-true, ne_eqb}
use Rattle.integers.proofs.Lists.{◌▹◌}
use Rattle.wire.specs.Checks.{refusal}
use Rattle.wire.specs.Part.{accepted, total, by_itself}
use Rattle.wire.specs.Rows.{Progress, is_among, row_of}
use Rattle.wire.proofs.Rest.{NoneOf, no_row_lem, by_bytes}
use Rattle.wire.proofs.Encoding.{by_itself_accepted}
use Rattle.wire.proofs.Alike.{SameRow, moved_row, rows_alike, Alike, Ended, neither, read_alike}
use Rattle.register.specs.declared.Register.{Register}
use Rattle.register.specs.Register.{fresh}
use Rattle.register.specs.Format.{register_in_job, register_by_itself}
use Rattle.register.specs.Encoding.{SaysLength, SaysRow, SaysRange}
use Rattle.register.specs.BeforeLengths.{choice_row_before_lengths, term_row_before_lengths, wide_term_row_before_lengths, end_row_before_lengths, choice_checks_before_lengths, rows_before_lengths, part_before_lengths, in_job_before_lengths}
use Rattle.register.specs.BeforeWindows.{choice_checks_before_windows, rows_before_windows, part_before_windows, in_job_before_windows, by_itself_before_windows}
use Rattle.register.proofs.BeforeLengths.{as_before_lengths_in_job}

-- the fields that came with windows
abbrev pub windows_of : Register → ℕ × List ℕ × List ℕ × List ℕ
windows_of r = (r.windows, r.window_tanks, r.window_froms, r.window_tos)

-- no window was read, and the command after the base cost stands at 5
record Reach (p : Progress Register) (at : ℕ) : Type 0 where
  start : p.previous ≡ 0 → at ≡ 0
  base : p.previous ≡ 0x10 → at ≡ 5
  no_window : p.previous ≡ 0x13 → ⊥
  windows : windows_of p.parsed ≡ windows_of fresh

later : (b : ℕ) {r : Register} {at : ℕ} → 0x10 < b → (b ≡ 0x13 → ⊥) → windows_of r ≡ windows_of fresh → Reach (record { previous = b; parsed = r }) at
later b l d w = record { start = λ e. absurd (omega arith); base = λ e. absurd (omega arith); no_window = d; windows = w }

module _ (s : List ℕ) (none : get_or s 5 0 ≡ 0x13 → ⊥) where
  module _ (p : Progress Register) (at : ℕ) (r : Reach p at) where
    abbrev AlikeAt : ℕ → Type 0
    AlikeAt b = Alike part_before_lengths part_before_windows Reach p at b

    base_alike : AlikeAt 0x10
    unfolding row_of total
    base_alike = record {
      here = refl;
      same = λ h. record {
        widths = refl;
        checks = λ xs. refl;
        after = λ xs. refl;
        last = refl;
        moves = λ xs q. record { start = λ e. absurd (omega arith); base = λ e. omega (arith, r.start (eqb-true p.previous 0 h)); no_window = λ e. omega arith; windows = r.windows };
      };
    }

    -- a command behind the base cost stands where it stood, is what it was, and reads no window
    later_alike : (b : ℕ) → 0x10 < b → (b ≡ 0x13 → ⊥) → let row = row_of rows_before_lengths b in let row' = row_of rows_before_windows b in
        SameRow row row' → is_among p.previous row.follows ≡ is_among p.previous row'.follows
        → ((xs : List ℕ) → (refusal (row.checks p.parsed xs) ≡ refusal (row'.checks p.parsed xs)) × (windows_of (row.after p.parsed xs) ≡ windows_of p.parsed)) → AlikeAt b
    later_alike b l d same h k = rows_alike fresh rows_before_lengths rows_before_windows Reach p at b same h (λ t xs. let (e, f) = k xs in (e, later b l d (f ∙ r.windows)))

    window_alike : get_or s at 0 ≡ 0x13 → AlikeAt 0x13
    unfolding row_of
    window_alike e = neither part_before_lengths part_before_windows Reach (rw (ne_eqb p.previous 0x10 (λ b. none (rw (r.base b) at e)), ne_eqb p.previous 0x13 r.no_window)) refl

    none_alike : (b : ℕ) → NoneOf rows_before_lengths b → AlikeAt b
    none_alike b n =
        neither part_before_lengths part_before_windows Reach
        (ap (λ row. is_among p.previous row.follows) (no_row_lem rows_before_lengths b n))
        (ap (λ row. is_among p.previous row.follows) (no_row_lem rows_before_windows b (n.0 ▹ n.1.0 ▹ n.1.1.0 ▹ n.1.1.1.1)))

    -- where there is no window, check 13 does not fail
    alike : AlikeAt (get_or s at 0)
    unfolding row_of refusal choice_checks_before_lengths choice_checks_before_windows fresh
    alike =
        by_bytes (λ b. get_or s at 0 ≡ b → AlikeAt b) rows_before_lengths (get_or s at 0) (λ n e. none_alike (get_or s at 0) n)
        ((λ e. base_alike)
        ▹ (λ e. later_alike 0x11 (omega arith) (λ e. omega arith) (moved_row choice_row_before_lengths) (rw (ne_eqb p.previous 0x13 r.no_window, or-false)) (λ xs. (rw (ap (λ w. w.0) r.windows), refl)))
        ▹ (λ e. later_alike 0x12 (omega arith) (λ e. omega arith) (moved_row term_row_before_lengths) (rw (ne_eqb p.previous 0x13 r.no_window)) (λ xs. (refl, refl)))
        ▹ window_alike
        ▹ (λ e. later_alike 0x15 (omega arith) (λ e. omega arith) (moved_row wide_term_row_before_lengths) (rw (ne_eqb p.previous 0x13 r.no_window)) (λ xs. (refl, refl)))
        ▹ (λ e. later_alike 0x1F (omega arith) (λ e. omega arith) (moved_row end_row_before_lengths) (rw (ne_eqb p.previous 0x13 r.no_window)) (λ xs. (refl, refl)))
        ▹ tt) refl

  both : (in_job_before_lengths s ≡ in_job_before_windows s) × Ended Reach (in_job_before_lengths s)
  unfolding in_job_before_lengths in_job_before_windows
  both = read_alike part_before_lengths part_before_windows Reach s alike refl (record { start = λ e. refl; base = λ e. absurd (omega arith); no_window = λ e. absurd (omega arith); windows = refl })

  module _ (no_length : SaysLength s → ⊥) (no_row_said : SaysRow s → ⊥) (no_range_said : SaysRange s → ⊥) where
    pub as_before_windows_in_job : register_in_job s ≡ in_job_before_windows s
    as_before_windows_in_job = as_before_lengths_in_job s no_length no_row_said no_range_said ∙ both.0

    pub as_before_windows : register_by_itself s ≡ by_itself_before_windows s
    unfolding register_by_itself by_itself_before_windows
    as_before_windows = ap (by_itself s) as_before_windows_in_job

    -- and where it is accepted, the fields that came with windows are those of a fresh register, all 0
    pub no_windows : {p : Progress Register} {end : ℕ} → register_by_itself s ≡ accepted p end → windows_of p.parsed ≡ windows_of fresh
    unfolding register_by_itself
    no_windows {p} {end} e =
        let q : Ended Reach (accepted p end) = rw (sym (as_before_lengths_in_job s no_length no_row_said no_range_said) ∙ (by_itself_accepted s (register_in_job s) p end e).0) at both.1 in q.windows
