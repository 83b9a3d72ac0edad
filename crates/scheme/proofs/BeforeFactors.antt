-- Bytes that do not begin with a `23` are read as before there was a factor, in number, position and every field; those that do were
-- refused 1.
use Prim.Native.Nat.{ℕ, ◌<◌}
use native.Mathlib.Omega.{arith}
use mathlib.Core.Path.{◌≡◌, refl, ap}
use mathlib.Core.Bool.{or-false}
use mathlib.Core.List.{List, [], ◌∷◌}
use lib.ListN.{length, get_or}
use borrow.Author.Tests.{ne_eqb}
use Rattle.integers.proofs.Lists.{◌▹◌}
use Rattle.wire.specs.Checks.{refusal, command_checks}
use Rattle.wire.specs.Part.{refused, checks_at, read_part, by_itself}
use Rattle.wire.specs.Rows.{Progress, is_among, row_of}
use Rattle.wire.proofs.Rest.{NoneOf, no_row_lem, by_bytes}
use Rattle.wire.proofs.Part.{read_from_refused}
use Rattle.wire.proofs.Alike.{SameRow, moved_row, rows_alike, Alike, neither, read_alike}
use Rattle.register.specs.declared.Register.{Register}
use Rattle.scheme.specs.declared.Scheme.{Scheme}
use Rattle.scheme.specs.Scheme.{initial}
use Rattle.scheme.specs.Format.{product_row, split_row, end_row, scheme_rows, scheme_part, scheme_in_job, scheme_by_itself}
use Rattle.scheme.specs.Encoding.{SaysFactor}
use Rattle.scheme.specs.BeforeFactors.{rows_before_factors, part_before_factors, in_job_before_factors, by_itself_before_factors}

module _ (reg : Register) where
  module _ (s : List ℕ) (none : SaysFactor s → ⊥) where
    -- no `23` was read, and the first command stands at 0
    record Reach (p : Progress Scheme) (at : ℕ) : Type 0 where
      start : p.previous ≡ 0 → at ≡ 0
      no_factor : p.previous ≡ 0x23 → ⊥

    module _ (p : Progress Scheme) (at : ℕ) (r : Reach p at) where
      abbrev AlikeAt : ℕ → Type 0
      AlikeAt b = Alike (scheme_part reg) (part_before_factors reg) Reach p at b

      -- `23` may not stand here
      factor_alike : get_or s at 0 ≡ 0x23 → AlikeAt 0x23
      unfolding row_of
      factor_alike e = neither (scheme_part reg) (part_before_factors reg) Reach (ne_eqb p.previous 0 (λ z. none (rw (r.start z) at e))) refl

      -- the others stand where they stood
      later_alike : (b : ℕ) → 0 < b → (b ≡ 0x23 → ⊥) → let row = row_of (scheme_rows reg) b in let row' = row_of (rows_before_factors reg) b in
          SameRow row row' → is_among p.previous row.follows ≡ is_among p.previous row'.follows → ((xs : List ℕ) → refusal (row.checks p.parsed xs) ≡ refusal (row'.checks p.parsed xs)) → AlikeAt b
      later_alike b l d same h k =
          rows_alike initial (scheme_rows reg) (rows_before_factors reg) Reach p at b same h (λ t xs. (k xs, record { start = λ z. absurd (omega arith); no_factor = d }))

      none_alike : (b : ℕ) → NoneOf (scheme_rows reg) b → AlikeAt b
      none_alike b n =
          neither (scheme_part reg) (part_before_factors reg) Reach
          (ap (λ row. is_among p.previous row.follows) (no_row_lem (scheme_rows reg) b n))
          (ap (λ row. is_among p.previous row.follows) (no_row_lem (rows_before_factors reg) b n.1))

      alike : AlikeAt (get_or s at 0)
      unfolding row_of
      alike =
          by_bytes (λ b. get_or s at 0 ≡ b → AlikeAt b) (scheme_rows reg) (get_or s at 0) (λ n e. none_alike (get_or s at 0) n)
          (factor_alike
          ▹ (λ e. later_alike 0x21 (omega arith) (λ e. omega arith) (moved_row (product_row reg)) (rw (ne_eqb p.previous 0x23 r.no_factor, or-false)) (λ xs. refl))
          ▹ (λ e. later_alike 0x22 (omega arith) (λ e. omega arith) (moved_row (split_row reg)) (rw (ne_eqb p.previous 0x23 r.no_factor, or-false)) (λ xs. refl))
          ▹ (λ e. later_alike 0x2F (omega arith) (λ e. omega arith) (moved_row (end_row reg)) (rw (ne_eqb p.previous 0x23 r.no_factor, or-false)) (λ xs. refl))
          ▹ tt) refl

    pub as_before_factors_in_job : scheme_in_job reg s ≡ in_job_before_factors reg s
    unfolding scheme_in_job in_job_before_factors
    as_before_factors_in_job = (read_alike (scheme_part reg) (part_before_factors reg) Reach s alike refl (record { start = λ e. refl; no_factor = λ e. absurd (omega arith) })).0

    pub as_before_factors : scheme_by_itself reg s ≡ by_itself_before_factors reg s
    unfolding scheme_by_itself by_itself_before_factors
    as_before_factors = ap (by_itself s) as_before_factors_in_job

  -- ---- bytes that begin with a `23`

  some_byte : (s : List ℕ) → SaysFactor s → 0 < length s
  some_byte [] e = absurd (omega arith)
  some_byte (b ∷ s) e = omega arith

  pub was_refused : (s : List ℕ) → SaysFactor s → in_job_before_factors reg s ≡ refused 1 0
  unfolding in_job_before_factors read_part checks_at command_checks refusal row_of
  was_refused s e = read_from_refused (part_before_factors reg) s (part_before_factors reg).start 0 1 (some_byte s e) (rw e refl) (λ z. omega arith)
