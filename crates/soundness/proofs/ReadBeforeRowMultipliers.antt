-- Part 3 that says no `3B` is read as before there were rows, in number, position and every command. Each `3B` was refused 1; where
-- reading comes to none, no command follows one.
use Prim.Native.Nat.{ℕ, zero, suc}
use native.Mathlib.Omega.{arith}
use mathlib.Core.Path.{◌≡◌, refl, sym, ◌∙◌, ap}
use mathlib.Core.Bool.{Bool, false, and-false, false≢true}
use mathlib.Core.List.{List, [], ◌∷◌}
use lib.Dec.{ltb}
use lib.ListN.{length, get_or}
use borrow.Author.Tests.{ne_eqb}
use Rattle.integers.proofs.Lists.{◌▹◌}
use Rattle.wire.specs.Checks.{refusal}
use Rattle.wire.specs.Part.{Step, goes, stops, step}
use Rattle.wire.specs.Rows.{Progress, is_among, row_of}
use Rattle.wire.specs.Walk.{passing, comes_from, comes_to}
use Rattle.wire.proofs.Rest.{NoneOf, no_row_lem, by_bytes}
use Rattle.wire.proofs.Alike.{SameRow, moved_row, rows_alike, Alike, neither, read_without}
use Rattle.register.specs.declared.Register.{Register}
use Rattle.scheme.specs.declared.Scheme.{Scheme}
use Rattle.certificate.specs.Certificate.{Certificate, fresh}
use Rattle.certificate.specs.Format.{scale_row, multiplier_of, multiplier_checks, multiplier_row, square_row, end_row, certificate_rows, certificate_part, commands_in_job}
use Rattle.soundness.specs.BeforeRowMultipliers.{any_before_rows, multiplier_row_before_rows, rows_before_row_multipliers, part_before_row_multipliers, commands_before_rows, SaysRowMultiplier, ReadBeforeRowMultipliers}
use Rattle.soundness.proofs.BeforeRowMultipliers.{same_rule}

-- no `3B` was read
record Reach (p : Progress Certificate) (at : ℕ) : Type 0 where
  no_row_read : p.previous ≡ 0x3B → ⊥

-- where a multiplier may stand
abbrev may_follow : Progress Certificate → Bool
may_follow p = is_among p.previous any_before_rows

module _ (reg : Register) (sch : Scheme) where
  module _ (p : Progress Certificate) (at : ℕ) (r : Reach p at) where
    abbrev AlikeAt : ℕ → Type 0
    AlikeAt c = Alike (certificate_part reg sch) (part_before_row_multipliers reg sch) Reach p at c

    -- a command that is no `3B` is what it was
    still : (b : ℕ) → (b ≡ 0x3B → ⊥) → let row = row_of (certificate_rows reg sch) b in let row' = row_of (rows_before_row_multipliers reg sch) b in
        SameRow row row' → is_among p.previous row.follows ≡ is_among p.previous row'.follows
        → ((xs : List ℕ) → refusal (row.checks p.parsed xs) ≡ refusal (row'.checks p.parsed xs)) → AlikeAt b
    still b d s h k = rows_alike fresh (certificate_rows reg sch) (rows_before_row_multipliers reg sch) Reach p at b s h (λ t xs. (k xs, record { no_row_read = d }))

    none_alike : (b : ℕ) → NoneOf (certificate_rows reg sch) b → AlikeAt b
    none_alike b n =
        neither (certificate_part reg sch) (part_before_row_multipliers reg sch) Reach
        (ap (λ row. is_among p.previous row.follows) (no_row_lem (certificate_rows reg sch) b n))
        (ap (λ row. is_among p.previous row.follows) (no_row_lem (rows_before_row_multipliers reg sch) b
        (n.0 ▹ n.1.0 ▹ n.1.1.0 ▹ n.1.1.1.0 ▹ n.1.1.1.1.0 ▹ n.1.1.1.1.1.0 ▹ n.1.1.1.1.1.1.0 ▹ n.1.1.1.1.1.1.1.0 ▹ n.1.1.1.1.1.1.1.1.0 ▹ n.1.1.1.1.1.1.1.1.1.0 ▹ n.1.1.1.1.1.1.1.1.1.1.1)))

    follows_same : is_among p.previous (0x30 ∷ 0x31 ∷ 0x32 ∷ 0x33 ∷ 0x34 ∷ 0x35 ∷ 0x36 ∷ 0x37 ∷ 0x38 ∷ 0x39 ∷ 0x3B ∷ 0x3A ∷ []) ≡ may_follow p
    follows_same = rw (ne_eqb p.previous 0x3B r.no_row_read)

    checks_same : (kind : ℕ) → (kind ≡ 0x3B → ⊥) → (xs : List ℕ) →
        refusal ((multiplier_row reg sch kind).checks p.parsed xs) ≡ refusal ((multiplier_row_before_rows reg sch kind).checks p.parsed xs)
    checks_same kind d xs =
        let t = multiplier_of kind xs in
        ap (λ ρ. refusal (multiplier_checks (length p.parsed.multipliers) ρ t.m)) (same_rule reg sch t d)

  agree : (p : Progress Certificate) (at c : ℕ) → Reach p at → (c ≡ 0x3B → may_follow p ≡ false) → Alike (certificate_part reg sch) (part_before_row_multipliers reg sch) Reach p at c
  unfolding row_of
  agree p at c r =
      by_bytes (λ c. (c ≡ 0x3B → may_follow p ≡ false) → AlikeAt p at r c) (certificate_rows reg sch) c (λ n d. none_alike p at r c n)
      ((λ d. still p at r 0x30 (λ e. omega arith) (moved_row scale_row) refl (λ xs. refl))
      ▹ (λ d. still p at r 0x31 (λ e. omega arith) (moved_row (multiplier_row reg sch 0x31)) (follows_same p at r) (checks_same p at r 0x31 (λ e. omega arith)))
      ▹ (λ d. still p at r 0x32 (λ e. omega arith) (moved_row (multiplier_row reg sch 0x32)) (follows_same p at r) (checks_same p at r 0x32 (λ e. omega arith)))
      ▹ (λ d. still p at r 0x33 (λ e. omega arith) (moved_row (multiplier_row reg sch 0x33)) (follows_same p at r) (checks_same p at r 0x33 (λ e. omega arith)))
      ▹ (λ d. still p at r 0x34 (λ e. omega arith) (moved_row (multiplier_row reg sch 0x34)) (follows_same p at r) (checks_same p at r 0x34 (λ e. omega arith)))
      ▹ (λ d. still p at r 0x35 (λ e. omega arith) (moved_row (multiplier_row reg sch 0x35)) (follows_same p at r) (checks_same p at r 0x35 (λ e. omega arith)))
      ▹ (λ d. still p at r 0x36 (λ e. omega arith) (moved_row (multiplier_row reg sch 0x36)) (follows_same p at r) (checks_same p at r 0x36 (λ e. omega arith)))
      ▹ (λ d. still p at r 0x37 (λ e. omega arith) (moved_row (multiplier_row reg sch 0x37)) (follows_same p at r) (checks_same p at r 0x37 (λ e. omega arith)))
      ▹ (λ d. still p at r 0x38 (λ e. omega arith) (moved_row (multiplier_row reg sch 0x38)) (follows_same p at r) (checks_same p at r 0x38 (λ e. omega arith)))
      ▹ (λ d. still p at r 0x39 (λ e. omega arith) (moved_row (multiplier_row reg sch 0x39)) (follows_same p at r) (checks_same p at r 0x39 (λ e. omega arith)))
      ▹ (λ d. neither (certificate_part reg sch) (part_before_row_multipliers reg sch) Reach (follows_same p at r ∙ d refl) refl)
      ▹ (λ d. still p at r 0x3A (λ e. omega arith) (moved_row (square_row reg sch)) (follows_same p at r) (λ xs. refl))
      ▹ (λ d. still p at r 0x3F (λ e. omega arith) (moved_row end_row) (follows_same p at r) (λ xs. refl))
      ▹ tt)

  read_as_before : (s : List ℕ) → (SaysRowMultiplier reg sch s → ⊥) → commands_in_job reg sch s ≡ commands_before_rows reg sch s
  unfolding commands_in_job commands_before_rows
  read_as_before s none =
      (read_without (certificate_part reg sch) (part_before_row_multipliers reg sch) Reach may_follow 0x3B agree s none refl (record { no_row_read = λ e. omega arith })).0

  -- reading comes to no `3B` where there is none
  module _ (s : List ℕ) (no : (at : ℕ) → get_or s at 0 ≡ 0x3B → ⊥) where
    comes_to_none : (k : ℕ) (p : Progress Certificate) (at : ℕ) → comes_from (part_before_row_multipliers reg sch) may_follow 0x3B s k p at ≡ false
    unfolding comes_from passing
    comes_to_none zero p at = refl
    comes_to_none (suc k) p at =
        rw (ne_eqb (get_or s at 0) 0x3B (no at), past (step (part_before_row_multipliers reg sch) s p at) (comes_to_none k)) (and-false (ltb at (length s)))
      where
        past : (x : Step (Progress Certificate)) → ((p : Progress Certificate) (at : ℕ) → comes_from (part_before_row_multipliers reg sch) may_follow 0x3B s k p at ≡ false) →
            passing x (comes_from (part_before_row_multipliers reg sch) may_follow 0x3B s k) ≡ false
        past (goes q end) none = none q end
        past (stops x) none = refl

    says_none : SaysRowMultiplier reg sch s → ⊥
    unfolding comes_to
    says_none t = false≢true (sym (comes_to_none (length s) (part_before_row_multipliers reg sch).start 0) ∙ t)

pub read_before_row_multipliers : ReadBeforeRowMultipliers
read_before_row_multipliers = record { in_job = read_as_before; no_byte = says_none }
