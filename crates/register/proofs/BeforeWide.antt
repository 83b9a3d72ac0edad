-- A register that says no `15` and no 33rd choice is read as before there were forty-eight choices, in number, position and every field.
-- Each `15` was refused 1, and one that may not stand where it does is today; each 33rd choice was refused 3.
use Prim.Native.Nat.{ℕ, ◌≤◌, ◌<◌}
use native.Mathlib.Omega.{arith}
use native.Mathlib.Decide.{ℕ_discrete}
use mathlib.Core.Path.{◌≡◌, refl, ◌∙◌, ap}
use mathlib.Core.Bool.{Bool, false}
use mathlib.Core.List.{List}
use borrow.Author.Tests.{leb-false, lt-leb, ne_eqb}
use Rattle.integers.proofs.Lists.{◌▹◌}
use Rattle.wire.specs.Checks.{refusal}
use Rattle.wire.specs.Part.{accepted, by_itself}
use Rattle.wire.specs.Rows.{Progress, row_of}
use Rattle.wire.proofs.Prefix.{row_of_by}
use Rattle.wire.proofs.Encoding.{by_itself_accepted}
use Rattle.wire.proofs.Alike.{moved_row, rows_alike, Alike, Ended, read_without}
use Rattle.register.specs.declared.Register.{Register}
use Rattle.register.specs.Limits.{max_choices}
use Rattle.register.specs.Register.{fresh}
use Rattle.register.specs.Format.{choice_checks, choice_row, register_rows, register_part, register_in_job, register_by_itself}
use Rattle.register.specs.Encoding.{HasByte, wide_may_stand, SaysWide, more_may_stand, SaysMoreChoices}
use Rattle.register.specs.BeforeWide.{rows_without_wide, part_without_wide, max_choices_before, choice_checks_before_wide, rows_before_wide, part_before_wide, in_job_before_wide, by_itself_before_wide}
use Rattle.register.proofs.Said.{comes_byte, Unsaid, agree_before}

-- ---- without `15`

abbrev pub Unwide : Progress Register → ℕ → Type 0
Unwide = Unsaid 0x15 (λ r. Unit {0})

pub starts_unwide : Unwide register_part.start 0
starts_unwide = record { not_read = λ e. omega arith; none = tt }

-- the two agree but at a `15` that may stand
pub agree_unwide : (p : Progress Register) (at c : ℕ) → Unwide p at → (c ≡ 0x15 → wide_may_stand p ≡ false) → Alike register_part part_without_wide Unwide p at c
unfolding row_of
agree_unwide =
    agree_before register_rows 0x15 (λ r. Unit {0})
    ((λ d r xs u. u) ▹ (λ d r xs u. u) ▹ (λ d r xs u. u) ▹ (λ d r xs u. u) ▹ (λ d r xs u. u) ▹ (λ d. absurd (d refl)) ▹ (λ d r xs u. u) ▹ (λ d r xs u. u) ▹ (λ d r xs u. u) ▹ tt)

-- bytes that say a `15` have such a byte
pub wide_byte : (s : List ℕ) → SaysWide s → HasByte 0x15 s
wide_byte s = comes_byte part_without_wide wide_may_stand 0x15 s

-- ---- and with at most 32 choices

abbrev pub FewChoices : Progress Register → ℕ → Type 0
FewChoices p at = p.parsed.choices ≤ max_choices_before

pub starts_few : FewChoices part_without_wide.start 0
unfolding fresh
starts_few = omega arith

-- the other rows are the same
row_same : (c : ℕ) → (c ≡ 0x11 → ⊥) → row_of rows_before_wide c ≡ row_of rows_without_wide c
unfolding row_of
row_same c d = rw (ne_eqb c 0x11 d)

-- and they give no choice
choices_same : (c : ℕ) → (c ≡ 0x11 → ⊥) → (r : Register) (xs : List ℕ) → ((row_of rows_without_wide c).after r xs).choices ≡ r.choices
choices_same c =
    row_of_by (λ c row. (c ≡ 0x11 → ⊥) → (r : Register) (xs : List ℕ) → (row.after r xs).choices ≡ r.choices) rows_without_wide c (λ d r xs. refl)
    ((λ d r xs. refl) ▹ (λ d. absurd (d refl)) ▹ (λ d r xs. refl) ▹ (λ d r xs. refl) ▹ (λ d r xs. refl) ▹ (λ d r xs. refl) ▹ (λ d r xs. refl) ▹ (λ d r xs. refl) ▹ tt)

-- below both limits neither fails
few_alike : (length n tank₀ minute₀ tank minute : ℕ) (may : Bool) → n < max_choices_before → refusal (choice_checks length n tank₀ minute₀ tank minute may) ≡ refusal (choice_checks_before_wide length n tank₀ minute₀ tank minute may)
unfolding refusal choice_checks choice_checks_before_wide
few_alike length n tank₀ minute₀ tank minute may l = rw (lt-leb max_choices n (omega arith), lt-leb max_choices_before n l)

choice_few : (p : Progress Register) (at : ℕ) → more_may_stand p ≡ false → Alike part_without_wide part_before_wide FewChoices p at 0x11
unfolding row_of
choice_few p at m =
    rows_alike fresh rows_without_wide rows_before_wide FewChoices p at 0x11 (moved_row choice_row) refl
    (λ t xs. let l : p.parsed.choices < max_choices_before = leb-false _ _ (rw t at m) in (few_alike _ _ _ _ _ _ _ l, omega (arith, l)))

-- the two agree but at a 33rd choice
pub agree_few : (p : Progress Register) (at c : ℕ) → FewChoices p at → (c ≡ 0x11 → more_may_stand p ≡ false) → Alike part_without_wide part_before_wide FewChoices p at c
agree_few p at c r may_not = go (ℕ_discrete c 0x11)
  where
    go : Dec (c ≡ 0x11) → Alike part_without_wide part_before_wide FewChoices p at c
    go (yes e) = rw e (choice_few p at (may_not e))
    go (no d) =
        let same = row_same c d in
        rows_alike fresh rows_without_wide rows_before_wide FewChoices p at c (rw same (moved_row (row_of rows_without_wide c))) (rw same) (λ t xs. (rw same, omega (arith, r, choices_same c d p.parsed xs)))

-- ---- read as before

module _ (s : List ℕ) (no_wide : SaysWide s → ⊥) (no_more : SaysMoreChoices s → ⊥) where
  both : (register_in_job s ≡ in_job_before_wide s) × Ended FewChoices (register_in_job s)
  unfolding register_in_job in_job_before_wide
  both =
      let (e, _) = read_without register_part part_without_wide Unwide wide_may_stand 0x15 agree_unwide s no_wide refl starts_unwide in
      let (f, few) = read_without part_without_wide part_before_wide FewChoices more_may_stand 0x11 agree_few s no_more refl starts_few in
      (e ∙ f, rw e few)

  pub as_before_wide_in_job : register_in_job s ≡ in_job_before_wide s
  as_before_wide_in_job = both.0

  pub as_before_wide : register_by_itself s ≡ by_itself_before_wide s
  unfolding register_by_itself by_itself_before_wide
  as_before_wide = ap (by_itself s) as_before_wide_in_job

  -- and where it is accepted, it has at most 32 choices

  pub few_choices_in_job : {p : Progress Register} {end : ℕ} → register_in_job s ≡ accepted p end → p.parsed.choices ≤ max_choices_before
  few_choices_in_job {p} {end} e = rw e at both.1

  pub few_choices : {p : Progress Register} {end : ℕ} → register_by_itself s ≡ accepted p end → p.parsed.choices ≤ max_choices_before
  unfolding register_by_itself
  few_choices {p} {end} e = few_choices_in_job (by_itself_accepted s (register_in_job s) p end e).0
