-- A register that says no range is read as before there were any, in number, position and every field. Each `16` was refused 1, and
-- one that may not stand where it does is today; where reading comes to no other, no command follows one. Bytes without a byte `16` say
-- none.
use Prim.Native.Nat.{ℕ}
use native.Mathlib.Omega.{arith}
use mathlib.Core.Path.{◌≡◌, refl, ◌∙◌, ap, sym}
use mathlib.Core.Bool.{false}
use mathlib.Core.List.{List}
use lib.IntN.{ℤ}
use lib.ListN.{set, replicate}
use lib.Seq.{set-get_or}
use Rattle.integers.proofs.Lists.{◌▹◌}
use Rattle.integers.proofs.Entries.{replicate_rest}
use Rattle.wire.specs.Part.{accepted, by_itself}
use Rattle.wire.specs.Rows.{Progress, row_of}
use Rattle.wire.proofs.Encoding.{by_itself_accepted}
use Rattle.wire.proofs.Alike.{Alike, Ended, read_without}
use Rattle.register.specs.declared.Register.{Register}
use Rattle.register.specs.Limits.{max_terms}
use Rattle.register.specs.Register.{fresh}
use Rattle.register.specs.Format.{register_rows, register_part, register_in_job, register_by_itself}
use Rattle.register.specs.Encoding.{HasByte, range_may_stand, SaysRange}
use Rattle.register.specs.BeforeRanges.{part_before_ranges, in_job_before_ranges, by_itself_before_ranges}
use Rattle.register.proofs.Said.{comes_byte, Unsaid, agree_before}

-- no term has a range: each has its coefficient as the high one too
abbrev pub Unranged : Register → Type 0
Unranged r = (r.highs ≡ r.coefficients) × (r.ranged ≡ replicate max_terms false)

abbrev pub Reach : Progress Register → ℕ → Type 0
Reach = Unsaid 0x16 Unranged

pub starts : Reach register_part.start 0
unfolding fresh
starts = record { not_read = λ e. omega arith; none = (refl, refl) }

-- a term with one coefficient more
plain : (r : Register) (z : ℤ) → Unranged r → (set r.highs r.terms z ≡ set r.coefficients r.terms z) × (set r.ranged r.terms false ≡ replicate max_terms false)
plain r z (same, none) = (
  ap (λ l. set l r.terms z) same,
  ap (λ l. set l r.terms false) none ∙ ap (set (replicate max_terms false) r.terms) (sym (replicate_rest max_terms r.terms false)) ∙ set-get_or (replicate max_terms false) r.terms false,
)

-- they agree but at a `16` that may stand
pub agree : (p : Progress Register) (at c : ℕ) → Reach p at → (c ≡ 0x16 → range_may_stand p ≡ false) → Alike register_part part_before_ranges Reach p at c
unfolding row_of
agree =
    agree_before register_rows 0x16 Unranged
    ((λ d r xs u. u) ▹ (λ d r xs u. u) ▹ (λ d r xs. plain r _) ▹ (λ d r xs u. u) ▹ (λ d r xs u. u) ▹ (λ d r xs. plain r _) ▹ (λ d. absurd (d refl)) ▹ (λ d r xs u. u) ▹ (λ d r xs u. u) ▹ tt)

-- bytes that say a range have a byte `16`
pub range_byte : (s : List ℕ) → SaysRange s → HasByte 0x16 s
range_byte s = comes_byte part_before_ranges range_may_stand 0x16 s

-- and those that say none are read as before
module _ (s : List ℕ) (none : SaysRange s → ⊥) where
  both : (register_in_job s ≡ in_job_before_ranges s) × Ended Reach (register_in_job s)
  unfolding register_in_job in_job_before_ranges
  both = read_without register_part part_before_ranges Reach range_may_stand 0x16 agree s none refl starts

  pub as_before_ranges_in_job : register_in_job s ≡ in_job_before_ranges s
  as_before_ranges_in_job = both.0

  pub as_before_ranges : register_by_itself s ≡ by_itself_before_ranges s
  unfolding register_by_itself by_itself_before_ranges
  as_before_ranges = ap (by_itself s) as_before_ranges_in_job

  -- and where it is accepted, no term has a range

  pub no_ranges_in_job : {p : Progress Register} {end : ℕ} → register_in_job s ≡ accepted p end → Unranged p.parsed
  no_ranges_in_job {p} {end} e = let q : Ended Reach (accepted p end) = rw e at both.1 in q.none

  pub no_ranges : {p : Progress Register} {end : ℕ} → register_by_itself s ≡ accepted p end → Unranged p.parsed
  unfolding register_by_itself
  no_ranges {p} {end} e = no_ranges_in_job (by_itself_accepted s (register_in_job s) p end e).0
