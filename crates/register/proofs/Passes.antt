-- What the checks of a command say of its operands: none fails just where these are as they should be.
use mathlib.Core.Path.{◌≡◌, refl, sym, ◌∙◌}
use mathlib.Core.Logic.{◌⊎◌, ◌↔◌, inl, inr, ⊎_elim}
use mathlib.Core.Bool.{Bool, true, false, true≢false, not, or-false, or-true, and-false, ◌||◌, ◌&&◌}
use mathlib.Core.List.{[], ◌∷◌}
use Prim.Native.Nat.{ℕ, ◌^◌, ◌≤◌, ◌<◌}
use native.Mathlib.Omega.{arith}
use lib.Dec.{eqb, ltb, leb}
use lib.IntN.{ℤ, pos, negsuc, nat_abs}
use lib.Signed.{◌≤ℤ◌, mag, lt_z, ≤ℤ_refl, clash_ℤ}
use mir.Syntax.{w8}
use mir.Val.{SFits}
use borrow.Author.Tests.{eqb-true, eqb-false, ltb-true, ltb-false, leb-false, not-false, lt-ltb, le-ltb, lt-leb, eq-eqb, ne_eqb}
use Rattle.integers.specs.Lists.{all_below, comes_before}
use Rattle.integers.proofs.Diff.{diff₁, diffs}
use Rattle.integers.proofs.Lists.{T_ext, T_true, flag, or_none, or_either, and_both, all_below_at, all_below_by}
use Rattle.integers.proofs.Machine.{lt_z-true, lt_z-false}
use Rattle.integers.proofs.Entries.{Next}
use Rattle.wire.specs.Checks.{refusal}
use Rattle.wire.proofs.Checks.{refusal_none, none_refusal}
use Rattle.register.specs.Limits.{max_choices, max_terms, max_windows, max_rows, row_entries, max_row_total, lowest_entry, highest_entry, max_base, max_tank, max_coefficient, long_day}
use Rattle.register.specs.Format.{base_checks, choice_checks, term_checks, window_checks, zero_past, row_checks, range_checks, is_length, length_checks, end_checks}
use Rattle.register.specs.Valid.{DayLength, Choice, Before, Term, Rises, Window, FeedingRow}

pub base_iff : (base : ℤ) → (refusal (base_checks base) ≡ 0) ↔ (nat_abs base ≤ max_base)
unfolding base_checks
base_iff base = ((λ e. ltb-false _ _ (refusal_none (base_checks base) (omega arith) e).0), λ h. none_refusal (base_checks base) (le-ltb _ _ h, tt))

-- by tank, then minute or "from"
module _ (tank₀ minute₀ tank minute : ℕ) where
  pub earlier : comes_before (tank₀ ∷ minute₀ ∷ []) (tank ∷ minute ∷ []) ≡ (ltb tank₀ tank || eqb tank₀ tank && ltb minute₀ minute)
  unfolding comes_before
  earlier = rw (and-false (eqb minute₀ minute), or-false (ltb minute₀ minute))

  later_iff : ((ltb tank₀ tank || eqb tank₀ tank && ltb minute₀ minute) ≡ true) ↔ Before (tank₀, minute₀) (tank, minute)
  later_iff = (to, from)
    where
      to : (ltb tank₀ tank || eqb tank₀ tank && ltb minute₀ minute) ≡ true → Before (tank₀, minute₀) (tank, minute)
      to t =
          ⊎_elim (λ a. inl (ltb-true tank₀ tank a))
          (λ b. let c = and_both _ _ b in inr (eqb-true tank₀ tank c.0, ltb-true minute₀ minute c.1))
          (or_either _ _ t)

      from : Before (tank₀, minute₀) (tank, minute) → (ltb tank₀ tank || eqb tank₀ tank && ltb minute₀ minute) ≡ true
      from (inl l) = rw (lt-ltb tank₀ tank l)
      from (inr (e, l)) = rw (eq-eqb tank₀ tank e, lt-ltb minute₀ minute l, or-true)

abbrev pub NextChoice : (length n tank₀ minute₀ tank minute : ℕ) → Type 0
NextChoice length n tank₀ minute₀ tank minute = Next max_choices n (tank₀, minute₀) (λ c. Choice length c.0 c.1) Before (tank, minute)

pub choice_iff : (length n tank₀ minute₀ tank minute : ℕ) (may : Bool) → (refusal (choice_checks length n tank₀ minute₀ tank minute may) ≡ 0) ↔ (NextChoice length n tank₀ minute₀ tank minute × (may ≡ true))
unfolding choice_checks
choice_iff length n tank₀ minute₀ tank minute may = (to, from)
  where
    to : refusal (choice_checks length n tank₀ minute₀ tank minute may) ≡ 0 → NextChoice length n tank₀ minute₀ tank minute × (may ≡ true)
    to e =
        let p = refusal_none (choice_checks length n tank₀ minute₀ tank minute may) (omega arith) e in
        let r = or_none _ _ p.1.0 in
        let q = or_none _ _ r.0 in (
          record {
            few = leb-false max_choices n p.0;
            fits = record {
              tank_above = omega (arith, eqb-false tank 0 q.0);
              tank_within = ltb-false max_tank tank q.1;
              minute_below = leb-false length minute r.1;
            };
            rises = ⊎_elim (λ a. inl (eqb-true n 0 a)) (λ b. inr ((later_iff tank₀ minute₀ tank minute).0 (rw earlier at b))) (or_either _ _ (not-false _ p.1.1.0));
          },
          not-false may p.1.1.1.0,
        )

    from : NextChoice length n tank₀ minute₀ tank minute × (may ≡ true) → refusal (choice_checks length n tank₀ minute₀ tank minute may) ≡ 0
    from (p, m) =
        none_refusal (choice_checks length n tank₀ minute₀ tank minute may) (
          lt-leb max_choices n p.few,
          (
            rw (ne_eqb tank 0 (omega (arith, p.fits.tank_above)), le-ltb max_tank tank p.fits.tank_within, lt-leb length minute p.fits.minute_below),
            (⊎_elim (λ (e : n ≡ 0). rw e) (λ l. rw (earlier, (later_iff tank₀ minute₀ tank minute).1 l, or-true)) p.rises, (rw m, tt)),
          ),
        )

-- a choice that does not rise is refused before its windows are looked at
pub choice_settled : (length n tank₀ minute₀ tank minute : ℕ) (a b : Bool) → ((n ≡ 0) ⊎ (tank₀ ≤ tank) → a ≡ b) → refusal (choice_checks length n tank₀ minute₀ tank minute a) ≡ refusal (choice_checks length n tank₀ minute₀ tank minute b)
unfolding refusal choice_checks
choice_settled length n tank₀ minute₀ tank minute a b h =
    flag (eqb n 0 || comes_before (tank₀ ∷ minute₀ ∷ []) (tank ∷ minute ∷ []))
    (λ t. rw (h (⊎_elim (λ z. inl (eqb-true n 0 z)) (λ l. inr (⊎_elim (λ (k : tank₀ < tank). omega arith) (λ k. omega (arith, k.0)) ((later_iff tank₀ minute₀ tank minute).0 (rw earlier at l)))) (or_either _ _ t))))
    (λ t. rw t)

-- what the checks of both of a term's commands say of its mask: it names some of n choices, and it is above that of the last of m
-- other terms
module _ (n m mask₀ mask : ℕ) where
  named_iff : ((eqb mask 0 || leb (2 ^ n) mask) ≡ false) ↔ ((1 ≤ mask) × (mask < 2 ^ n))
  named_iff = (
    (λ e. let q : (eqb mask 0 ≡ false) × (leb (2 ^ n) mask ≡ false) = or_none _ _ e in (omega (arith, eqb-false mask 0 q.0), leb-false (2 ^ n) mask q.1)),
    λ (a, b). rw (ne_eqb mask 0 (omega arith), lt-leb (2 ^ n) mask b),
  )

  above_iff : (not (eqb m 0 || ltb mask₀ mask) ≡ false) ↔ ((m ≡ 0) ⊎ (mask₀ < mask))
  above_iff = (
    (λ e. ⊎_elim (λ a. inl (eqb-true m 0 a)) (λ b. inr (ltb-true mask₀ mask b)) (or_either _ _ (not-false _ e))),
    λ h. ⊎_elim (λ (e : m ≡ 0). rw e) (λ l. rw (lt-ltb mask₀ mask l, or-true)) h,
  )

-- a term after m others, the last of which is `last`
abbrev pub NextTerm : (n m : ℕ) → ℕ × ℤ × ℤ × Bool → (mask : ℕ) → (low high : ℤ) → Bool → Type 0
NextTerm n m last mask low high ranged = Next max_terms m last (λ c. Term n c.0 c.1 c.2 c.3) Rises (mask, low, high, ranged)

pub term_iff : (n m : ℕ) (last : ℕ × ℤ × ℤ × Bool) (mask : ℕ) (coefficient : ℤ) → (refusal (term_checks n m last.0 mask coefficient) ≡ 0) ↔ NextTerm n m last mask coefficient coefficient false
unfolding term_checks
term_iff n m last mask coefficient = (to, from)
  where
    to : refusal (term_checks n m last.0 mask coefficient) ≡ 0 → NextTerm n m last mask coefficient coefficient false
    to e =
        let p = refusal_none (term_checks n m last.0 mask coefficient) (omega arith) e in
        let q = or_none _ _ p.1.0 in
        let (above, within) = (named_iff n m last.0 mask).0 p.1.1.0 in
        record {
          few = leb-false max_terms m p.0;
          fits = record {
            coefficient_within = ltb-false max_coefficient (nat_abs coefficient) q.1;
            high_within = ltb-false max_coefficient (nat_abs coefficient) q.1;
            ordered = ≤ℤ_refl coefficient;
            known = λ _. (refl, omega (arith, eqb-false (nat_abs coefficient) 0 q.0));
            mask_not_0 = above;
            mask_names = within;
          };
          rises = (above_iff n m last.0 mask).0 p.1.1.1.0;
        }

    from : NextTerm n m last mask coefficient coefficient false → refusal (term_checks n m last.0 mask coefficient) ≡ 0
    from p =
        none_refusal (term_checks n m last.0 mask coefficient) (
          lt-leb max_terms m p.few,
          (
            rw (ne_eqb (nat_abs coefficient) 0 (omega (arith, (p.fits.known refl).1)), le-ltb max_coefficient (nat_abs coefficient) p.fits.coefficient_within),
            ((named_iff n m last.0 mask).1 (p.fits.mask_not_0, p.fits.mask_names), ((above_iff n m last.0 mask).1 p.rises, tt)),
          ),
        )

-- a range may hold 0, and its low and its high may be equal
pub range_iff : (n m : ℕ) (last : ℕ × ℤ × ℤ × Bool) (mask : ℕ) (low high : ℤ) → (refusal (range_checks n m last.0 mask low high) ≡ 0) ↔ NextTerm n m last mask low high true
unfolding range_checks
range_iff n m last mask low high = (to, from)
  where
    to : refusal (range_checks n m last.0 mask low high) ≡ 0 → NextTerm n m last mask low high true
    to e =
        let p = refusal_none (range_checks n m last.0 mask low high) (omega arith) e in
        let q = or_none _ _ p.1.0 in
        let (above, within) = (named_iff n m last.0 mask).0 p.1.1.0 in
        record {
          few = leb-false max_terms m p.0;
          fits = record {
            coefficient_within = ltb-false max_coefficient (nat_abs low) q.0;
            high_within = ltb-false max_coefficient (nat_abs high) q.1;
            ordered = lt_z-false high low p.1.1.1.0;
            known = λ z. absurd (true≢false z);
            mask_not_0 = above;
            mask_names = within;
          };
          rises = (above_iff n m last.0 mask).0 p.1.1.1.1.0;
        }

    from : NextTerm n m last mask low high true → refusal (range_checks n m last.0 mask low high) ≡ 0
    from p =
        none_refusal (range_checks n m last.0 mask low high) (
          lt-leb max_terms m p.few,
          (
            rw (le-ltb max_coefficient (nat_abs low) p.fits.coefficient_within, le-ltb max_coefficient (nat_abs high) p.fits.high_within),
            (
              (named_iff n m last.0 mask).1 (p.fits.mask_not_0, p.fits.mask_names),
              (flag (lt_z high low) (λ t. clash_ℤ (lt_z-true high low t) p.fits.ordered) (λ t. t), ((above_iff n m last.0 mask).1 p.rises, tt)),
            ),
          ),
        )

abbrev pub NextWindow : (length k : ℕ) → ℕ × ℕ × ℕ → (tank from to : ℕ) → Type 0
NextWindow length k last tank from to = Next max_windows k last (λ c. Window length c.0 c.1 c.2) (λ c d. Before (c.0, c.1) (d.0, d.1)) (tank, from, to)

pub window_iff : (length k : ℕ) (last : ℕ × ℕ × ℕ) (tank from to : ℕ) → (refusal (window_checks length k last.0 last.1 tank from to) ≡ 0) ↔ NextWindow length k last tank from to
unfolding window_checks
window_iff length k last tank from to = (there, back)
  where
    there : refusal (window_checks length k last.0 last.1 tank from to) ≡ 0 → NextWindow length k last tank from to
    there e =
        let p = refusal_none (window_checks length k last.0 last.1 tank from to) (omega arith) e in
        let a = or_none _ _ p.1.0 in
        let b = or_none _ _ a.0 in
        let c = or_none _ _ b.0 in
        let d = or_none _ _ c.0 in
        record {
          few = leb-false max_windows k p.0;
          fits = record {
            tank_above = omega (arith, eqb-false tank 0 d.0);
            tank_within = ltb-false max_tank tank d.1;
            from_below = leb-false length from c.1;
            to_above = omega (arith, eqb-false to 0 b.1);
            to_within = ltb-false length to a.1;
            ordered = leb-false to from p.1.1.0;
          };
          rises = ⊎_elim (λ a. inl (eqb-true k 0 a)) (λ b. inr ((later_iff last.0 last.1 tank from).0 (rw earlier at b))) (or_either _ _ (not-false _ p.1.1.1.0));
        }

    back : NextWindow length k last tank from to → refusal (window_checks length k last.0 last.1 tank from to) ≡ 0
    back p =
        none_refusal (window_checks length k last.0 last.1 tank from to) (
          lt-leb max_windows k p.few,
          (
            rw (ne_eqb tank 0 (omega (arith, p.fits.tank_above)), le-ltb max_tank tank p.fits.tank_within, lt-leb length from p.fits.from_below, ne_eqb to 0 (omega (arith, p.fits.to_above)), le-ltb length to p.fits.to_within),
            (
              lt-leb to from p.fits.ordered,
              (⊎_elim (λ (e : k ≡ 0). rw e) (λ l. rw (earlier, (later_iff last.0 last.1 tank from).1 l, or-true)) p.rises, tt),
            ),
          ),
        )

-- the numbers of 8 bits are those that an entry of a row may be

pub byte_within : (z : ℤ) → SFits w8 z → (lowest_entry ≤ℤ z) × (z ≤ℤ highest_entry)
byte_within z f = (low z f.sfits, high z f.sfits)
  where
    low : (z : ℤ) → mag z < 128 → negsuc 127 ≤ℤ z
    low = diff₁ _ λ p q. simp diffs (omega arith)

    high : (z : ℤ) → mag z < 128 → z ≤ℤ pos 127
    high = diff₁ _ λ p q. simp diffs (omega arith)

pub within_byte : (z : ℤ) → lowest_entry ≤ℤ z → z ≤ℤ highest_entry → SFits w8 z
within_byte z a b = record { sfits = small z a b }
  where
    small : (z : ℤ) → negsuc 127 ≤ℤ z → z ≤ℤ pos 127 → mag z < 128
    small = diff₁ _ λ p q. simp diffs (omega arith)

nothing : (z : ℤ) → nat_abs z ≡ 0 → z ≡ pos 0
nothing = diff₁ _ λ p q. simp diffs (omega arith)

pub zeros_iff : (n : ℕ) (entry : ℕ → ℤ) → (zero_past n entry ≡ true) ↔ ((j : ℕ) → n ≤ j → j < row_entries → entry j ≡ pos 0)
zeros_iff n entry = (to, from)
  where
    zero : ℕ → Bool
    zero j = ltb j n || eqb (nat_abs (entry j)) 0

    to : all_below row_entries zero ≡ true → (j : ℕ) → n ≤ j → j < row_entries → entry j ≡ pos 0
    to t j a l =
        ⊎_elim
        (λ b. absurd (omega (arith, ltb-true j n b)))
        (λ b. nothing (entry j) (eqb-true _ 0 b))
        (or_either _ _ ((T_true (zero j)).0 (all_below_at row_entries zero ((T_true _).1 t) j l)))

    from : ((j : ℕ) → n ≤ j → j < row_entries → entry j ≡ pos 0) → all_below row_entries zero ≡ true
    from h =
        (T_true _).0 (all_below_by row_entries zero (λ j l. (T_true (zero j)).1
        (flag (ltb j n) (λ t. rw t) (λ t. rw (h j (ltb-false j n t) l, or-true)))))

pub zeros_same : (n : ℕ) (f g : ℕ → ℤ) → ((j : ℕ) → j < row_entries → f j ≡ g j) → zero_past n f ≡ zero_past n g
zeros_same n f g h =
    T_ext (zero_past n f) (zero_past n g) (
      (λ t. (T_true (zero_past n g)).1 ((zeros_iff n g).1 (λ j a l. sym (h j l) ∙ (zeros_iff n f).0 ((T_true (zero_past n f)).0 t) j a l))),
      λ t. (T_true (zero_past n f)).1 ((zeros_iff n f).1 (λ j a l. h j l ∙ (zeros_iff n g).0 ((T_true (zero_past n g)).0 t) j a l)),
    )

-- what a row after k others has to be, where there are n choices
pub record NextRow (n k : ℕ) (b : ℤ) (entry : ℕ → ℤ) : Type 0 where
  pub few : k < max_rows
  pub fits : FeedingRow n b entry

-- of entries of 8 bits
pub row_iff : (n k : ℕ) (b : ℤ) (entry : ℕ → ℤ) → ((j : ℕ) → j < row_entries → SFits w8 (entry j)) → (refusal (row_checks k b (zero_past n entry)) ≡ 0) ↔ NextRow n k b entry
unfolding row_checks
row_iff n k b entry bytes = (to, from)
  where
    to : refusal (row_checks k b (zero_past n entry)) ≡ 0 → NextRow n k b entry
    to e =
        let p = refusal_none (row_checks k b (zero_past n entry)) (omega arith) e in
        record {
          few = leb-false max_rows k p.0;
          fits = record {
            total_within = ltb-false max_row_total (nat_abs b) p.1.0;
            entry_above = λ j l. (byte_within (entry j) (bytes j l)).0;
            entry_below = λ j l. (byte_within (entry j) (bytes j l)).1;
            past_0 = (zeros_iff n entry).0 (not-false _ p.1.1.0);
          };
        }

    from : NextRow n k b entry → refusal (row_checks k b (zero_past n entry)) ≡ 0
    from p =
        none_refusal (row_checks k b (zero_past n entry)) (
          lt-leb max_rows k p.few,
          (le-ltb max_row_total (nat_abs b) p.fits.total_within, (rw ((zeros_iff n entry).1 p.fits.past_0), tt)),
        )

-- one of the three lengths
pub length_known : (length : ℕ) → (is_length length ≡ true) ↔ DayLength length
length_known length = (to, from)
  where
    to : is_length length ≡ true → DayLength length
    to t =
        ⊎_elim (λ a. ⊎_elim (λ x. inl (eqb-true length _ x)) (λ x. inr (inl (eqb-true length _ x))) (or_either _ _ a))
        (λ b. inr (inr (eqb-true length _ b)))
        (or_either _ _ t)

    from : DayLength length → is_length length ≡ true
    from (inl e) = rw e
    from (inr (inl e)) = rw e
    from (inr (inr e)) = rw e

pub length_within : {length : ℕ} → DayLength length → length ≤ long_day
length_within (inl e) = omega (arith, e)
length_within (inr (inl e)) = omega (arith, e)
length_within (inr (inr e)) = omega (arith, e)

pub length_iff : (length : ℕ) → (refusal (length_checks length) ≡ 0) ↔ DayLength length
unfolding length_checks
length_iff length = (
  (λ e. (length_known length).0 (not-false _ (refusal_none (length_checks length) (omega arith) e).0)),
  λ h. none_refusal (length_checks length) (rw ((length_known length).1 h), tt),
)

pub end_iff : (n : ℕ) → (refusal (end_checks n) ≡ 0) ↔ (1 ≤ n)
unfolding end_checks
end_iff n = ((λ e. omega (arith, eqb-false n 0 (refusal_none (end_checks n) (omega arith) e).0)), λ h. none_refusal (end_checks n) (ne_eqb n 0 (omega arith), tt))
