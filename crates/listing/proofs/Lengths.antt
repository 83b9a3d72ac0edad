-- What lines a listing is made of, and how long it is: at most the longest, for which the array has room in which it is put together.
use Prim.Native.Nat.{ℕ, zero, suc, ◌+◌, ◌*◌, ◌-◌, ◌^◌, ◌≤◌, ◌<◌}
use native.Mathlib.Nat.{suc-mul}
use native.Mathlib.Omega.{arith}
use mathlib.Core.Path.{◌≡◌, refl, ap, ◌∙◌}
use mathlib.Core.Bool.{Bool, true, false}
use mathlib.Core.List.{List, [], ◌∷◌, ◌++◌, flat_map}
use lib.IntN.{ℤ, pos, nat_abs}
use lib.ListN.{length, length-append}
use Rattle.integers.specs.Integer.{bit}
use Rattle.integers.specs.Lists.{join_below}
use Rattle.integers.proofs.Lists.{cond_cases}
use Rattle.register.specs.declared.Register.{Register}
use Rattle.register.specs.Limits.{max_choices, max_tank, long_day}
use Rattle.register.specs.Register.{tank, minute}
use Rattle.register.specs.Valid.{Within}
use Rattle.register.proofs.Entries.{day_within}
use Rattle.sets.specs.Sets.{is_member}
use Rattle.text.specs.Text.{digits_to, digits, decimal, line}
use Rattle.text.proofs.Lines.{line_no_longer, natural_no_longer, integer_no_longer}
use Rattle.listing.specs.Listing.{PlanLines, choice_line, choice_lines, fed_line, fed_lines, supplier_lines, bound_line, accepted_lines, refusal_line}
use Rattle.listing.specs.declared.Reader.{Reader}
use Rattle.listing.specs.declared.Reader.TheVariants.{Farm, Supplier}
use Rattle.listing.specs.Readers.{lines_for}
use Rattle.listing.specs.Answer.{longest_number, longest_listing, listing_room}

module _ (lines : PlanLines) (r : Register) (plan : ℕ) (bound cost gap : ℤ) where
  pub accepted_is : accepted_lines lines r plan bound cost gap ≡ lines r plan ++ bound_line bound cost gap
  unfolding accepted_lines
  accepted_is = refl

  pub length_accepted : length (accepted_lines lines r plan bound cost gap) ≡ length (lines r plan) + length (bound_line bound cost gap)
  length_accepted = ap length accepted_is ∙ length-append (lines r plan) (bound_line bound cost gap)

-- ---- bounds

joins_short : (n : ℕ) (f : ℕ → List ℕ) (b : ℕ) → ((i : ℕ) → i < n → length (f i) ≤ b) → (m : ℕ) → n ≤ m → length (join_below n f) ≤ m * b
unfolding join_below
joins_short zero f b h m l = omega arith
joins_short (suc n) f b h zero l = absurd (omega arith)
joins_short (suc n) f b h (suc m) l =
    rw (length-append (join_below n f) (f n), suc-mul) (omega (arith, joins_short n f b (λ i l. h i (omega arith)) m (omega arith), h n (omega arith)))

module _ (r : Register) (w : Within r) where
  last_minute : (i : ℕ) → i < r.choices → minute r i ≤ long_day - 1
  last_minute i l = omega (arith, (w.choices.each i l).minute_below, day_within r w)

  choices_short : length (choice_lines r) ≤ max_choices * length (choice_line max_choices max_tank (long_day - 1))
  unfolding choice_lines
  choices_short = joins_short r.choices _ _ (λ i l.
      let c = w.choices.each i l in
      line_no_longer 0x54 0x54 (pos i ∷ pos (tank r i) ∷ pos (minute r i) ∷ []) (pos max_choices ∷ pos max_tank ∷ pos (long_day - 1) ∷ [])
      (natural_no_longer _ _ (omega (arith, w.choices.few)), (natural_no_longer _ _ c.tank_within, (natural_no_longer _ _ (last_minute i l), tt))))
      max_choices w.choices.few

  pub fed_short : (plan : ℕ) → length (fed_lines r plan) ≤ max_choices * length (fed_line max_tank (long_day - 1))
  unfolding fed_lines
  fed_short plan = joins_short r.choices _ _ (λ i l.
      let c = w.choices.each i l in
      cond_cases (λ x. length x ≤ length (fed_line max_tank (long_day - 1))) (is_member i plan) (fed_line (tank r i) (minute r i)) []
      (λ _. line_no_longer 0x46 0x46 (pos (tank r i) ∷ pos (minute r i) ∷ []) (pos max_tank ∷ pos (long_day - 1) ∷ []) (natural_no_longer _ _ c.tank_within, (natural_no_longer _ _ (last_minute i l), tt)))
      (λ _. omega arith))
      max_choices w.choices.few

  supplier_short : (plan : ℕ) → length (supplier_lines r plan) ≤ max_choices * length (choice_line max_choices max_tank (long_day - 1))
  unfolding supplier_lines
  supplier_short plan = joins_short r.choices _ _ (λ i l.
      line_no_longer 0x43 0x54 (pos i ∷ bit (is_member i plan) ∷ []) (pos max_choices ∷ pos max_tank ∷ pos (long_day - 1) ∷ [])
      (natural_no_longer _ _ (omega (arith, w.choices.few)), (bit_short (is_member i plan), tt)))
      max_choices w.choices.few
    where
      bit_short : (b : Bool) → length (decimal (bit b)) ≤ length (decimal (pos max_tank))
      bit_short true = natural_no_longer 1 max_tank (omega arith)
      bit_short false = natural_no_longer 0 max_tank (omega arith)

  -- whoever reads them
  plan_short : (reader : Reader) (plan : ℕ) → length (lines_for reader r plan) ≤ max_choices * (length (choice_line max_choices max_tank (long_day - 1)) + length (fed_line max_tank (long_day - 1)))
  plan_short Supplier plan = omega (arith, supplier_short plan)
  plan_short Farm plan = omega (arith, length-append (choice_lines r) (fed_lines r plan), choices_short, fed_short plan)

-- numbers of 64 bits
pub small_no_longer : (z : ℤ) → nat_abs z ≤ 2 ^ 63 → length (decimal z) ≤ length (decimal longest_number)
small_no_longer z h = integer_no_longer z (2 ^ 63 - 1) h

pub accepted_short : (reader : Reader) (r : Register) (plan : ℕ) (bound cost gap : ℤ) → Within r → nat_abs bound ≤ 2 ^ 63 → nat_abs cost ≤ 2 ^ 63 → nat_abs gap ≤ 2 ^ 63 →
    length (accepted_lines (lines_for reader) r plan bound cost gap) ≤ longest_listing
unfolding longest_listing
accepted_short reader r plan bound cost gap w b c g =
    omega (
      arith,
      length_accepted (lines_for reader) r plan bound cost gap,
      plan_short r w reader plan,
      line_no_longer 0x42 0x42 (bound ∷ cost ∷ gap ∷ []) (longest_number ∷ longest_number ∷ longest_number ∷ [])
          (small_no_longer bound b, (small_no_longer cost c, (small_no_longer gap g, tt))),
    )

pub refusal_short : (number at : ℕ) → number < 2 ^ 8 → at < 2 ^ 63 → length (refusal_line number at) ≤ longest_listing
unfolding longest_listing
refusal_short number at n l =
    omega (
      arith,
      line_no_longer 0x52 0x42 (pos number ∷ pos at ∷ []) (longest_number ∷ longest_number ∷ longest_number ∷ [])
          (small_no_longer (pos number) (omega arith), (small_no_longer (pos at) (omega arith), tt)),
    )

pub longest_is : longest_listing ≡ 1_361
unfolding longest_listing line flat_map decimal digits digits_to
longest_is = refl

-- the room that users are told is enough for the longest listing
pub longest_fits : longest_listing ≤ listing_room
longest_fits = omega (arith, longest_is)
