-- A row that counts the feedings of a tank: an accepted job shows exactly so many `F` lines of the tank as the row's total. And a job
-- that says no row has none.
use Prim.Native.Nat.{ℕ, zero, suc, ◌≤◌, ◌<◌}
use native.Mathlib.Omega.{arith}
use mathlib.Core.Path.{◌≡◌, refl, sym, ◌∙◌, ap, ap₂}
use mathlib.Core.Logic.{◌↔◌, ⊎_elim}
use mathlib.Core.Bool.{Bool, true, false, cond, ◌&&◌}
use mathlib.Core.List.{List, [], ◌∷◌, ◌++◌}
use lib.Dec.{eqb}
use lib.IntN.{ℤ, pos, ◌+ℤ◌, +ℤ_idr}
use lib.ListN.{length, get_or, length-append, get_or-append}
use lib.Seq.{get_or_at}
use borrow.Author.Tests.{eqb-true, eqb-false, eq-eqb}
use Rattle.integers.proofs.Lists.{flag, and_both}
use Rattle.integers.proofs.Entries.{below_or_last}
use Rattle.sets.specs.Sets.{is_member}
use Rattle.wire.specs.Part.{accepted}
use Rattle.wire.specs.Rows.{Progress}
use Rattle.register.specs.declared.Register.{Register}
use Rattle.register.specs.Register.{tank, minute, row_total, row_entry}
use Rattle.register.specs.Register.{fresh}
use Rattle.register.specs.Valid.{Valid}
use Rattle.register.specs.Format.{register_in_job}
use Rattle.register.specs.Encoding.{SaysRow}
use Rattle.register.proofs.SaysRow.{said_in_job, no_rows_in_job}
use Rattle.plan.specs.Fits.{fed_sum}
use Rattle.plan.proofs.Fits.{fed_sum-zero, fed_sum-suc}
use Rattle.job.specs.declared.Tally.{Tally}
use Rattle.listing.proofs.Lines.{rises}
use Rattle.soundness.specs.Calls.{job_call, listing_call}
use Rattle.soundness.specs.Jobs.{Accepted, Listed, shown, AcceptedJob}
use Rattle.soundness.specs.Rows.{Counts, Exactly, JobFits}
use Rattle.soundness.proofs.Jobs.{accepted_job, accepted_leads}
use Rattle.soundness.proofs.Windows.{fed_lines_lem}
use Rattle.soundness.proofs.DayLengths.{first}

-- of two choices of a tank the later has the later minute
module _ (r : Register) (v : Valid r) where
  later : (j i : ℕ) → i < j → j < r.choices → tank r i ≡ tank r j → minute r i < minute r j
  later j i l h e = ⊎_elim (λ (b : tank r i < tank r j). absurd (omega arith)) (λ b. b.1) (rises r v j i l h)

-- the choices below n that are the tank's and fed, by their minutes, which rise
module _ (r : Register) (v : Valid r) (t plan k : ℕ) (counts : Counts r k t) where
  abbrev counted : ℕ → Bool
  counted i = is_member i plan && eqb (tank r i) t

  record Those (n : ℕ) (ms : List ℕ) : Type 0 where
    many : pos (length ms) ≡ fed_sum n (row_entry r k) plan
    from : (j : ℕ) → j < length ms → (i : ℕ) × ((i < n) × ((counted i ≡ true) × (get_or ms j 0 ≡ minute r i)))
    to : (i : ℕ) → i < n → counted i ≡ true → (j : ℕ) × ((j < length ms) × (get_or ms j 0 ≡ minute r i))
    rising : (j : ℕ) → suc j < length ms → get_or ms j 0 < get_or ms (suc j) 0

  tank_of : (i : ℕ) → counted i ≡ true → tank r i ≡ t
  tank_of i c = eqb-true (tank r i) t (and_both (is_member i plan) _ c).1

  -- what the row adds for a choice

  adds_one : (i : ℕ) → i < r.choices → counted i ≡ true → cond (is_member i plan) (row_entry r k i) (pos 0) ≡ pos 1
  adds_one i l c = let (m, e) = and_both (is_member i plan) _ c in rw (m, counts.own i l (eqb-true (tank r i) t e))

  adds_none : (i : ℕ) → i < r.choices → counted i ≡ false → cond (is_member i plan) (row_entry r k i) (pos 0) ≡ pos 0
  adds_none i l c =
      flag (is_member i plan)
      (λ m. let d : eqb (tank r i) t ≡ false = rw m at c in rw (m, counts.others i l (eqb-false (tank r i) t d)))
      (λ m. rw m)

  -- a choice that does not count
  same : (n : ℕ) (ms : List ℕ) → n < r.choices → Those n ms → counted n ≡ false → Those (suc n) ms
  same n ms l h c = record {
    many = h.many ∙ sym (+ℤ_idr _) ∙ ap (λ x. fed_sum n (row_entry r k) plan +ℤ x) (sym (adds_none n l c)) ∙ sym (fed_sum-suc n (row_entry r k) plan);
    from = λ j b. let (i, (m, (d, e))) = h.from j b in (i, (omega arith, (d, e)));
    to = λ i b d. ⊎_elim (λ (m : i < n). h.to i m d) (λ (m : i ≡ n). absurd (differ (sym c ∙ ap counted (sym m) ∙ d))) (below_or_last i n b);
    rising = h.rising;
  }
    where
      differ : false ≡ true → ⊥
      differ h = grind arith

  -- and one that does
  more : (n : ℕ) (ms : List ℕ) → n < r.choices → Those n ms → counted n ≡ true → Those (suc n) (ms ++ (minute r n ∷ []))
  more n ms l h c =
      let long = length-append ms (minute r n ∷ []) in
      record {
        many = ap pos long ∙ ap₂ ◌+ℤ◌ h.many (sym (adds_one n l c)) ∙ sym (fed_sum-suc n (row_entry r k) plan);
        from = λ j b. ⊎_elim
            (λ (m : j < length ms). let (i, (a, (d, e))) = h.from j m in (i, (omega arith, (d, get_or-append ms _ 0 j m ∙ e))))
            (λ (m : j ≡ length ms). (n, (omega arith, (c, get_or_at ms (minute r n) [] 0 j (sym m)))))
            (below_or_last j (length ms) (omega (arith, long)));
        to = λ i b d. ⊎_elim
            (λ (m : i < n). let (j, (a, e)) = h.to i m d in (j, (omega (arith, long), get_or-append ms _ 0 j a ∙ e)))
            (λ (m : i ≡ n). (length ms, (omega (arith, long), get_or_at ms (minute r n) [] 0 (length ms) refl ∙ ap (minute r) (sym m))))
            (below_or_last i n b);
        rising = λ j b. ⊎_elim
            (λ (m : suc j < length ms). let less = h.rising j m in omega (arith, less, get_or-append ms (minute r n ∷ []) 0 j (omega arith), get_or-append ms (minute r n ∷ []) 0 (suc j) m))
            (λ (m : suc j ≡ length ms).
            let (i, (a, (d, e))) = h.from j (omega arith) in
            let less = later r v n i a l (tank_of i d ∙ sym (tank_of n c)) in
            omega (arith, less, e, get_or-append ms (minute r n ∷ []) 0 j (omega arith), get_or_at ms (minute r n) [] 0 (suc j) (sym m)))
            (below_or_last (suc j) (length ms) (omega (arith, long)));
      }

  those : (n : ℕ) → n ≤ r.choices → (ms : List ℕ) × Those n ms
  those zero l = ([], record { many = sym (fed_sum-zero (row_entry r k) plan); from = λ j b. absurd (omega arith); to = λ i b. absurd (omega arith); rising = λ j b. absurd (omega arith) })
  those (suc n) l =
      let (ms, h) = those n (omega arith) in
      flag (counted n) (λ c. (ms ++ (minute r n ∷ []), more n ms (omega arith) h c)) (λ c. (ms, same n ms (omega arith) h c))

-- ---- of an accepted job

module _ (job : List ℕ) (table : List ℤ) (supplier : ℕ) (tally : Tally) (j : AcceptedJob job_call listing_call job table supplier tally) (k t : ℕ) (counts : Counts j.parts.register k t)
    (lent : List ℤ) (buffer : List ℕ) (h : Listed job_call listing_call job lent buffer) where
  abbrev reg : Register
  reg = j.parts.register

  abbrev plan : ℕ
  plan = j.parts.plan

  abbrev text : List ℕ
  text = shown job_call listing_call job lent buffer

  exactly : (n : ℕ) × (row_total reg k ≡ pos n) × Exactly n t text
  exactly =
      let (ms, all) = those reg j.conditions.register t plan k counts reg.choices (omega arith) in (
        length ms,
        sym (all.many ∙ j.fits k counts.there),
        record {
          minutes = ms;
          many = refl;
          rising = all.rising;
          lines = λ m.
              let (to, from) = fed_lines_lem job table supplier tally j lent buffer h t m in (
                (λ l.
                    let f = to l in
                    let c : (is_member f.choice plan && eqb (tank reg f.choice) t) ≡ true = rw (f.fed, eq-eqb (tank reg f.choice) t f.tank_is) in
                    let (i, (b, e)) = all.to f.choice f.there c in
                    (i, b, e ∙ f.minute_is)),
                (λ (i, b, e).
                    let (n, (there, (c, d))) = all.from i b in
                    let (fed, own) = and_both (is_member n plan) _ c in
                    from (record { choice = n; there = there; fed = fed; tank_is = eqb-true (tank reg n) t own; minute_is = sym d ∙ e })),
              );
        },
      )

-- ---- a job that says no row

none_read : (s : List ℕ) → (SaysRow s → ⊥) → (p : Progress Register) (end : ℕ) → register_in_job s ≡ accepted p end → p.parsed.rows ≡ 0
unfolding fresh
none_read s none p end e = ap (λ w. w.0) (no_rows_in_job s none e)

pub job_fits : (job : List ℕ) (table : List ℤ) (supplier : ℕ) (tally : Tally) → Accepted job_call listing_call job table supplier tally → JobFits job_call listing_call job table supplier tally
job_fits job table supplier tally z =
    let j = accepted_job job table supplier tally z in
    let NoRow : Register → Type 0 = λ reg. reg.rows ≡ 0 in
    let Says : Register → Type 0 = λ reg. SaysRow job ↔ (1 ≤ reg.rows) in
    record {
      accepted = j;
      fits = j.fits;
      none_said = λ none. rw (accepted_leads job table supplier tally z) at (first job NoRow (none_read job none));
      says_row = rw (accepted_leads job table supplier tally z) at (first job Says (said_in_job job));
      exactly = exactly job table supplier tally j;
    }
