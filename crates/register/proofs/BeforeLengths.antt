-- A register that says no day length, no row and no range is read as before there were any of these, in number, position and every
-- field. It is read as before there were rows, by `BeforeRows`, and that reading is held here to the one before there were day lengths: the length stood
-- at 5, after the base cost; with no `18` there, one that stands where a command is due is refused 1, as it was.
use Prim.Native.Nat.{ℕ, ◌<◌}
use native.Mathlib.Omega.{arith}
use mathlib.Core.Path.{◌≡◌, refl, sym, ◌∙◌, ap}
use mathlib.Core.Bool.{true, false≢true, or-false}
use mathlib.Core.List.{List}
use lib.ListN.{get_or}
use borrow.Author.Tests.{eqb-true, ne_eqb}
use Rattle.integers.proofs.Lists.{◌▹◌}
use Rattle.wire.specs.Checks.{refusal}
use Rattle.wire.specs.Part.{Reading, accepted, total, read_part, by_itself}
use Rattle.wire.specs.Rows.{Progress, is_among, row_of}
use Rattle.wire.proofs.Rest.{NoneOf, no_row_lem, by_bytes}
use Rattle.wire.proofs.Encoding.{by_itself_accepted}
use Rattle.wire.proofs.Part.{Ways, by_ways}
use Rattle.wire.proofs.Alike.{SameRow, moved_row, rows_alike, Alike, neither, read_alike}
use Rattle.register.specs.declared.Register.{Register}
use Rattle.register.specs.Limits.{usual_day}
use Rattle.register.specs.Register.{fresh}
use Rattle.register.specs.Format.{choice_checks, choice_row, window_checks, window_row, register_rows, register_part, register_in_job, register_by_itself}
use Rattle.register.specs.Encoding.{SaysLength, SaysRow, SaysRange}
use Rattle.register.specs.BeforeRows.{term_row_before_rows, wide_term_row_before_rows, end_row_before_rows, rows_before_rows, part_before_rows, in_job_before_rows}
use Rattle.register.specs.BeforeLengths.{choice_checks_before_lengths, window_checks_before_lengths, rows_before_lengths, part_before_lengths, in_job_before_lengths, by_itself_before_lengths}
use Rattle.register.proofs.DayLengths.{length_said}
use Rattle.register.proofs.BeforeRows.{as_before_rows_in_job}

-- only `10` may come first, so an accepted register starts with it

first_base : (b : ℕ) → register_part.here register_part.start b ≡ true → b ≡ 0x10
unfolding row_of
first_base b =
    by_bytes (λ b. register_part.here register_part.start b ≡ true → b ≡ 0x10) register_rows b
    (λ n h. absurd (false≢true (ap (λ row. is_among 0 row.follows) (sym (no_row_lem register_rows b n)) ∙ h)))
    ((λ h. refl) ▹ (λ h. absurd (false≢true h)) ▹ (λ h. absurd (false≢true h)) ▹ (λ h. absurd (false≢true h)) ▹ (λ h. absurd (false≢true h)) ▹ (λ h. absurd (false≢true h)) ▹ (λ h. absurd (false≢true h)) ▹ (λ h. absurd (false≢true h)) ▹ (λ h. absurd (false≢true h)) ▹ tt)

starts_base : (s : List ℕ) {p : Progress Register} {end : ℕ} → register_in_job s ≡ accepted p end → get_or s 0 0 ≡ 0x10
unfolding register_in_job read_part
starts_base s {p} {end} e = first_base (get_or s 0 0) (by_ways register_part s Here ways register_part.start 0 e)
  where
    Here : Progress Register → ℕ → Reading (Progress Register) → Type 0
    Here read at x = x ≡ accepted p end → register_part.here read (get_or s at 0) ≡ true

    ways : Ways register_part s Here
    ways = record {
      missing = λ read at l q. let z : ◌≡◌ {A = ℕ} 0 1 = cc in absurd (omega arith);
      refuses = λ read at n l e d q. let z : ◌≡◌ {A = ℕ} 0 1 = cc in absurd (omega arith);
      goes = λ read at x p l rest q. p.here;
      ends = λ read at p l q. p.here;
    }

module _ (s : List ℕ) (none : SaysLength s → ⊥) where
  -- no `18` was read, so from the base cost on the length is the usual one; the command after the base cost stands at 5
  record Reach (p : Progress Register) (at : ℕ) : Type 0 where
    start : p.previous ≡ 0 → at ≡ 0
    base : p.previous ≡ 0x10 → (at ≡ 5) × (get_or s 0 0 ≡ 0x10)
    no_length : p.previous ≡ 0x18 → ⊥
    usual : (p.previous ≡ 0 → ⊥) → p.parsed.day_length ≡ usual_day

  later : (b : ℕ) {r : Register} {at : ℕ} → 0x10 < b → (b ≡ 0x18 → ⊥) → r.day_length ≡ usual_day → Reach (record { previous = b; parsed = r }) at
  later b l d u = record { start = λ e. absurd (omega arith); base = λ e. absurd (omega arith); no_length = d; usual = λ _. u }

  module _ (p : Progress Register) (at : ℕ) (r : Reach p at) where
    abbrev AlikeAt : ℕ → Type 0
    AlikeAt b = Alike part_before_rows part_before_lengths Reach p at b

    base_alike : get_or s at 0 ≡ 0x10 → AlikeAt 0x10
    unfolding row_of total
    base_alike e = record {
      here = refl;
      same = λ h. record {
        widths = refl;
        checks = λ xs. refl;
        after = λ xs. refl;
        last = refl;
        moves = λ xs q. let k = r.start (eqb-true p.previous 0 h) in record { start = λ e. absurd (omega arith); base = λ _. (omega (arith, k), rw k at e); no_length = λ e. omega arith; usual = λ _. refl };
      };
    }

    -- a command behind the base cost stands where it stood; on the usual day it is what it was, and it leaves the length
    later_alike : (b : ℕ) → 0x10 < b → (b ≡ 0x18 → ⊥) → let row = row_of rows_before_rows b in let row' = row_of rows_before_lengths b in
        SameRow row row' → is_among p.previous row.follows ≡ is_among p.previous row'.follows → (is_among p.previous row.follows ≡ true → p.previous ≡ 0 → ⊥)
        → (p.parsed.day_length ≡ usual_day → (xs : List ℕ) → refusal (row.checks p.parsed xs) ≡ refusal (row'.checks p.parsed xs))
        → ((xs : List ℕ) → (row.after p.parsed xs).day_length ≡ p.parsed.day_length) → AlikeAt b
    later_alike b l d same h first k day = rows_alike fresh rows_before_rows rows_before_lengths Reach p at b same h (λ t xs. let u = r.usual (first t) in (k u xs, later b l d (day xs ∙ u)))

    length_alike : get_or s at 0 ≡ 0x18 → AlikeAt 0x18
    unfolding row_of
    length_alike e = neither part_before_rows part_before_lengths Reach (ne_eqb p.previous 0x10 (λ b. let (k, first) = r.base b in none (first, rw k at e))) refl

    none_alike : (b : ℕ) → NoneOf rows_before_rows b → AlikeAt b
    none_alike b n =
        neither part_before_rows part_before_lengths Reach
        (ap (λ row. is_among p.previous row.follows) (no_row_lem rows_before_rows b n))
        (ap (λ row. is_among p.previous row.follows) (no_row_lem rows_before_lengths b (n.0 ▹ n.1.0 ▹ n.1.1.0 ▹ n.1.1.1.0 ▹ n.1.1.1.1.0 ▹ n.1.1.1.1.1.1)))

    -- a choice has a minute of the usual day, and a window ends with it at the latest
    alike : AlikeAt (get_or s at 0)
    unfolding row_of refusal choice_checks choice_checks_before_lengths window_checks window_checks_before_lengths
    alike =
        by_bytes (λ b. get_or s at 0 ≡ b → AlikeAt b) rows_before_rows (get_or s at 0) (λ n e. none_alike (get_or s at 0) n)
        (base_alike
        ▹ (λ e. later_alike 0x11 (omega arith) (λ e. omega arith) (moved_row choice_row) (rw (ne_eqb p.previous 0x18 r.no_length, or-false)) (λ t e. false≢true (rw e at t)) (λ u xs. rw u) (λ xs. refl))
        ▹ (λ e. later_alike 0x12 (omega arith) (λ e. omega arith) (moved_row term_row_before_rows) (rw (ne_eqb p.previous 0x18 r.no_length, or-false)) (λ t e. false≢true (rw e at t)) (λ u xs. refl) (λ xs. refl))
        ▹ (λ e. later_alike 0x13 (omega arith) (λ e. omega arith) (moved_row window_row) (rw (ne_eqb p.previous 0x18 r.no_length, or-false)) (λ t e. false≢true (rw e at t)) (λ u xs. rw u) (λ xs. refl))
        ▹ (λ e. later_alike 0x15 (omega arith) (λ e. omega arith) (moved_row wide_term_row_before_rows) (rw (ne_eqb p.previous 0x18 r.no_length, or-false)) (λ t e. false≢true (rw e at t)) (λ u xs. refl) (λ xs. refl))
        ▹ length_alike
        ▹ (λ e. later_alike 0x1F (omega arith) (λ e. omega arith) (moved_row end_row_before_rows) (rw (ne_eqb p.previous 0x18 r.no_length, or-false)) (λ t e. false≢true (rw e at t)) (λ u xs. refl) (λ xs. refl))
        ▹ tt) refl

  both : in_job_before_rows s ≡ in_job_before_lengths s
  unfolding in_job_before_rows in_job_before_lengths
  both = (read_alike part_before_rows part_before_lengths Reach s alike refl (record { start = λ e. refl; base = λ e. absurd (omega arith); no_length = λ e. absurd (omega arith); usual = λ d. absurd (d refl) })).0

  module _ (no_row_said : SaysRow s → ⊥) (no_range_said : SaysRange s → ⊥) where
    pub as_before_lengths_in_job : register_in_job s ≡ in_job_before_lengths s
    as_before_lengths_in_job = as_before_rows_in_job s no_row_said no_range_said ∙ both

    pub as_before_lengths : register_by_itself s ≡ by_itself_before_lengths s
    unfolding register_by_itself by_itself_before_lengths
    as_before_lengths = ap (by_itself s) as_before_lengths_in_job

  -- and where it is accepted, rows and ranges or not, the day has the usual length
  pub usual_day_lem : {p : Progress Register} {end : ℕ} → register_by_itself s ≡ accepted p end → p.parsed.day_length ≡ usual_day
  unfolding register_by_itself
  usual_day_lem {p} {end} e =
      let q = (by_itself_accepted s (register_in_job s) p end e).0 in
      length_said s q ∙ rw (ne_eqb (get_or s 5 0) 0x18 (λ f. none (starts_base s q, f)))
