-- An accepted register has rows just where its bytes say one, whether it has ranges or not. And bytes that say a length have a byte
-- `18`.
use Prim.Native.Nat.{ℕ, ◌*◌, ◌≤◌}
use native.Mathlib.Omega.{arith}
use native.Mathlib.Decide.{ℕ_discrete}
use mathlib.Core.Path.{◌≡◌, refl, sym, ◌∙◌, ap}
use mathlib.Core.Logic.{inl, inr, ◌↔◌}
use mathlib.Core.Bool.{true, false, true≢false, false≢true}
use mathlib.Core.List.{List}
use lib.Dec.{T, ltb}
use lib.IntN.{pos}
use lib.ListN.{length, get_or, get_or-eq_default}
use borrow.Author.Tests.{ltb-true, ltb-false}
use Rattle.integers.proofs.Lists.{◌▹◌, flag}
use Rattle.integers.proofs.Entries.{column_empty}
use Rattle.wire.specs.Part.{Reading, accepted, after_at, read_from}
use Rattle.wire.specs.Rows.{Progress, is_among, row_of}
use Rattle.wire.specs.Grammar.{Among}
use Rattle.wire.proofs.Grammar.{among_test, apart, apart_not}
use Rattle.wire.proofs.Part.{operands, Passes, Ways, by_ways, passed_checks_at, read_from_goes}
use Rattle.wire.proofs.Prefix.{row_of_by}
use Rattle.wire.proofs.Alike.{Alike}
use Rattle.wire.proofs.Encoding.{by_itself_accepted}
use Rattle.register.specs.declared.Register.{Register}
use Rattle.register.specs.Limits.{max_rows, row_entries}
use Rattle.register.specs.Register.{fresh}
use Rattle.register.specs.Format.{base_row, choice_row, window_row, row_row, length_row, register_rows, register_part, register_in_job, register_by_itself}
use Rattle.register.specs.BeforeRanges.{part_before_ranges}
use Rattle.register.specs.BeforeRows.{rows_before_rows, part_before_rows}
use Rattle.register.specs.Encoding.{term_kind, HasByte, range_may_stand, row_may_stand, SaysRow, SaysLength}
use Rattle.register.proofs.Accept.{valid_accepted}
use Rattle.register.proofs.Said.{New, alike_through}
use Rattle.register.proofs.Said as S
use Rattle.register.proofs.BeforeRanges as R
use Rattle.register.proofs.BeforeRows as B
use Rattle.register.proofs.BeforeRows.{rows_of}

-- ---- after a term no choice and no row follows

-- the counts of both
abbrev pub counts : Register → ℕ × ℕ
counts r = (r.choices, r.rows)

after_term : (previous c : ℕ) (r : Register) (xs : List ℕ) → Among previous term_kind.bytes → is_among previous (row_of register_rows c).follows ≡ true
    → ((row_of register_rows c).last ≡ false → Among c term_kind.bytes) × (counts ((row_of register_rows c).after r xs) ≡ counts r)
after_term previous c r xs m =
    row_of_by (λ c row. is_among previous row.follows ≡ true → (row.last ≡ false → Among c term_kind.bytes) × (counts (row.after r xs) ≡ counts r)) register_rows c (λ e. absurd (false≢true e))
    ((λ e. absurd (none base_row.follows tt e))
    ▹ (λ e. absurd (none choice_row.follows tt e))
    ▹ (λ e. ((λ _. inl refl), refl))
    ▹ (λ e. absurd (none window_row.follows tt e))
    ▹ (λ e. absurd (none row_row.follows tt e))
    ▹ (λ e. ((λ _. inr (inl refl)), refl))
    ▹ (λ e. ((λ _. inr (inr (inl refl))), refl))
    ▹ (λ e. absurd (none length_row.follows tt e))
    ▹ (λ e. ((λ l. absurd (true≢false l)), refl))
    ▹ tt)
  where
    none : (bs : List ℕ) → T (apart term_kind.bytes bs) → is_among previous bs ≡ true → ⊥
    none bs t e = apart_not previous term_kind.bytes bs t m (among_test previous bs e)

module _ (s : List ℕ) (p : Progress Register) (end : ℕ) where
  abbrev Stays : Progress Register → ℕ → Reading (Progress Register) → Type 0
  Stays read at x = Among read.previous term_kind.bytes → x ≡ accepted p end → counts p.parsed ≡ counts read.parsed

  counts_stay : (read : Progress Register) (at : ℕ) → Stays read at (read_from register_part s read at)
  unfolding after_at
  counts_stay = by_ways register_part s Stays ways
    where
      ways : Ways register_part s Stays
      ways = record {
        missing = λ read at l m q. let z : ◌≡◌ {A = ℕ} 0 1 = cc in absurd (omega arith);
        refuses = λ read at n l e d m q. let z : ◌≡◌ {A = ℕ} 0 1 = cc in absurd (omega arith);
        goes = λ read at x h l rest m q. let (next, same) = after_term read.previous (get_or s at 0) read.parsed (operands register_part s at) m h.here in rest (next l) q ∙ same;
        ends = λ read at h l m q.
            let z : after_at register_part s read at ≡ p = cc in
            ap (λ p. counts p.parsed) (sym z) ∙ (after_term read.previous (get_or s at 0) read.parsed (operands register_part s at) m h.here).1;
      }

  -- so from a term on
  pub counts_from : (read : Progress Register) (at : ℕ) → Passes register_part s read at → Among (get_or s at 0) term_kind.bytes → read_from register_part s read at ≡ accepted p end → counts p.parsed ≡ counts read.parsed
  unfolding after_at row_of
  counts_from read at g m a = by m
    where
      on : {b : ℕ} → get_or s at 0 ≡ b → Among b term_kind.bytes → register_part.last b ≡ false → ((xs : List ℕ) → counts ((row_of register_rows b).after read.parsed xs) ≡ counts read.parsed) → counts p.parsed ≡ counts read.parsed
      on e m l kept =
          let onward = read_from_goes register_part s read at g.inside (passed_checks_at register_part s read at g) (rw e l) in
          counts_stay _ _ (rw e m) (sym onward ∙ a) ∙ rw e (kept _)

      by : Among (get_or s at 0) term_kind.bytes → counts p.parsed ≡ counts read.parsed
      by (inl e) = on e (inl refl) refl (λ xs. refl)
      by (inr (inl e)) = on e (inr (inl refl)) refl (λ xs. refl)
      by (inr (inr (inl e))) = on e (inr (inr (inl refl))) refl (λ xs. refl)
      by (inr (inr (inr f))) = absurd f

-- ---- rows of an accepted register

-- neither a row nor a range was read
abbrev Reach : Progress Register → ℕ → Type 0
Reach read at = R.Reach read at × B.Reach read at

agree : (read : Progress Register) (at c : ℕ) → Reach read at → (c ≡ 0x16 → range_may_stand read ≡ false) → (c ≡ 0x14 → row_may_stand read ≡ false) → Alike register_part part_before_rows Reach read at c
agree read at c (r, r') d d' = alike_through register_part part_before_ranges part_before_rows R.Reach B.Reach (R.agree read at c r d) (B.agree read at c r' d')

-- a range is no row, and none follows it
other : (s : List ℕ) (read : Progress Register) (at : ℕ) → Reach read at → Passes register_part s read at → is_among read.previous (row_of rows_before_rows (get_or s at 0)).follows ≡ false
    → (get_or s at 0 ≡ 0x14 → row_may_stand read ≡ false) → (p : Progress Register) (end : ℕ) → read_from register_part s read at ≡ accepted p end → 1 ≤ p.parsed.rows → ⊥
unfolding row_of after_at fresh
other s read at r g f d p end a some = go (ℕ_discrete (get_or s at 0) 0x16)
  where
    go : Dec (get_or s at 0 ≡ 0x16) → ⊥
    go (yes e) = omega (arith, some, ap (λ c. c.1) (counts_from s p end read at g (inr (inr (inl e))) a), ap (λ w. w.0) r.1.none)
    go (no d') = true≢false (sym g.here ∙ (agree read at (get_or s at 0) r (λ e. absurd (d' e)) d).here ∙ f)

new_row : New rows_before_rows 0x14 row_may_stand (λ r. 1 ≤ r.rows) Reach
unfolding row_of fresh
new_row = record {
  starts = (R.starts, B.starts);
  none = λ read at r some. omega (arith, some, ap (λ w. w.0) r.1.none);
  agree = λ read at c r h. agree read at c r (λ e. absurd (false≢true (rw e at h)));
  other = other;
  some = λ read at c xs r e m q. rw e (omega arith);
  kept = (λ r xs t. t) ▹ (λ r xs t. t) ▹ (λ r xs t. t) ▹ (λ r xs t. t) ▹ (λ r xs t. omega arith) ▹ (λ r xs t. t) ▹ (λ r xs t. t) ▹ (λ r xs t. t) ▹ (λ r xs t. t) ▹ tt;
}

module _ (s : List ℕ) where
  module _ (p : Progress Register) (end : ℕ) where
    pub said_in_job : register_in_job s ≡ accepted p end → SaysRow s ↔ (1 ≤ p.parsed.rows)
    said_in_job = S.said_in_job rows_before_rows 0x14 row_may_stand (λ r. 1 ≤ r.rows) Reach new_row s p end

    pub said_by_itself : register_by_itself s ≡ accepted p end → SaysRow s ↔ (1 ≤ p.parsed.rows)
    said_by_itself = S.said_by_itself rows_before_rows 0x14 row_may_stand (λ r. 1 ≤ r.rows) Reach new_row s p end

  -- where they say none, the fields that came with rows are those of a fresh register, all 0
  module _ (none : SaysRow s → ⊥) where
    pub no_rows_in_job : {p : Progress Register} {end : ℕ} → register_in_job s ≡ accepted p end → rows_of p.parsed ≡ rows_of fresh
    unfolding fresh
    no_rows_in_job {p} {end} e =
        let w = (valid_accepted s p end e).0.within.rows in
        let zero : p.parsed.rows ≡ 0 = flag (ltb 0 p.parsed.rows) (λ t. absurd (none ((said_in_job p end e).1 (ltb-true _ _ t)))) (λ t. omega (arith, ltb-false _ _ t)) in
        rw (zero, ← column_empty max_rows _ (pos 0) _ zero w.totals, ← column_empty (max_rows * row_entries) _ (pos 0) _ (omega (arith, zero)) w.entries)

    pub no_rows : {p : Progress Register} {end : ℕ} → register_by_itself s ≡ accepted p end → rows_of p.parsed ≡ rows_of fresh
    unfolding register_by_itself
    no_rows {p} {end} e = no_rows_in_job (by_itself_accepted s (register_in_job s) p end e).0

  -- ---- a length

  pub length_byte : SaysLength s → HasByte 0x18 s
  length_byte (base, e) = flag (ltb 5 (length s)) (λ t. record { at = 5; there = ltb-true _ _ t; is = e }) (λ t. absurd (omega (arith, e, get_or-eq_default s 0 (ltb-false _ _ t))))
