-- The costliest register of m terms and d choices in each: its record, that it is valid, and that it is as the request has it.
use Prim.Native.Nat.{ℕ, suc, ◌*◌, ◌≤◌, ◌<◌}
use native.Mathlib.Nat.{mul-le-mul}
use native.Mathlib.Omega.{arith}
use native.Mathlib.Decide.{dec_lt}
use mathlib.Core.Path.{◌≡◌, refl, sym, ◌∙◌, subst}
use mathlib.Core.Logic.{inl, inr}
use mathlib.Core.Bool.{false, cond}
use mathlib.Core.List.{List, [], ◌∷◌}
use lib.Dec.{ltb}
use lib.IntN.{pos}
use lib.ListN.{get_or, replicate, get_or-eq_default}
use lib.Pow.{pow_mono}
use lib.Signed.{≤ℤ_refl}
use borrow.Author.Tests.{lt-ltb, le-ltb}
use Rattle.integers.specs.Lists.{join_below, Column}
use Rattle.integers.proofs.Entries.{replicate_rest, column_none}
use Rattle.integers.proofs.Blocks.{length_ones, ones_at}
use Rattle.register.specs.declared.Register.{Register}
use Rattle.register.specs.Limits.{max_choices, max_terms, max_windows, max_rows, row_entries, usual_day}
use Rattle.register.specs.Register.{tank, minute, mask, coefficient, high, is_range}
use Rattle.register.specs.Valid.{Choice, Term, Choices, Terms, Within, Valid}
use Rattle.register.specs.Encoding.{MasksNarrow}
use Rattle.register.proofs.Entries.{windows_none, rows_none}
use Rattle.counting.specs.Counting.{Apart}
use Rattle.costliest.specs.Limits.{min_degree}
use Rattle.costliest.specs.Costliest.{Admitted, term_mask, Described}
use Rattle.costliest.proofs.Masks.{mask_below, mask_names, masks_disjoint, mask_degree, mask_some, masks_rise}

-- ---- f 0, f 1, .. f (count − 1), and z from there on

abbrev pub padded : {A : Type 0} → (size count : ℕ) → (ℕ → A) → A → List A
padded size count f z = join_below size (λ i. cond (ltb i count) (f i) z ∷ [])

module _ {A : Type 0} (size count : ℕ) (f : ℕ → A) (z : A) where
  inside : (i : ℕ) → i < size → get_or (padded size count f z) i z ≡ cond (ltb i count) (f i) z
  inside i l = ones_at (λ i. cond (ltb i count) (f i) z) size i z l

  padded_rest : (i : ℕ) → count ≤ i → get_or (padded size count f z) i z ≡ z
  padded_rest i l = go (dec_lt i size)
    where
      go : Dec (i < size) → get_or (padded size count f z) i z ≡ z
      go (yes k) = inside i k ∙ rw (le-ltb i count l)
      go (no k) = get_or-eq_default (padded size count f z) z (omega (arith, length_ones (λ i. cond (ltb i count) (f i) z) size))

  pub padded_column : Column size count z (padded size count f z)
  padded_column = record { room = length_ones (λ i. cond (ltb i count) (f i) z) size; rest = padded_rest }

  pub padded_at : count ≤ size → (i : ℕ) → i < count → get_or (padded size count f z) i z ≡ f i
  padded_at h i l = inside i (omega arith) ∙ rw (lt-ltb i count l)

-- ---- the record

unfoldable pub costliest : (m d : ℕ) → Register
costliest m d = record {
  base = pos 0;
  day_length = usual_day;
  choices = m * d;
  terms = m;
  tanks = padded max_choices (m * d) (λ i. 1) 0;
  minutes = padded max_choices (m * d) (λ i. i) 0;
  masks = padded max_terms m (term_mask m d) 0;
  coefficients = padded max_terms m (λ t. pos 1) (pos 0);
  highs = padded max_terms m (λ t. pos 1) (pos 0);
  ranged = replicate max_terms false;
  windows = 0;
  window_tanks = replicate max_windows 0;
  window_froms = replicate max_windows 0;
  window_tos = replicate max_windows 0;
  rows = 0;
  row_totals = replicate max_rows (pos 0);
  row_entries = replicate (max_rows * row_entries) (pos 0);
}

module _ (m d : ℕ) where
  pub costliest_terms : (costliest m d).terms ≡ m
  unfolding costliest
  costliest_terms = refl

  pub costliest_choices : (costliest m d).choices ≡ m * d
  unfolding costliest
  costliest_choices = refl

module _ (m d : ℕ) (ok : Admitted m d) where
  abbrev reg : Register
  reg = costliest m d

  some : 1 ≤ d
  some = omega (arith, ok.deep)

  few : m * min_degree ≤ m * d
  few = mul-le-mul {n₁ = m} {m₁ = min_degree} (omega arith) ok.deep

  -- ---- its entries

  tank_is : (i : ℕ) → i < m * d → tank reg i ≡ 1
  unfolding costliest
  tank_is = padded_at max_choices (m * d) (λ i. 1) 0 (omega (arith, ok.small))

  minute_is : (i : ℕ) → i < m * d → minute reg i ≡ i
  unfolding costliest
  minute_is = padded_at max_choices (m * d) (λ i. i) 0 (omega (arith, ok.small))

  pub mask_is : (t : ℕ) → t < m → mask reg t ≡ term_mask m d t
  unfolding costliest
  mask_is = padded_at max_terms m (term_mask m d) 0 (omega (arith, few, ok.small))

  coefficient_is : (t : ℕ) → t < m → coefficient reg t ≡ pos 1
  unfolding costliest
  coefficient_is = padded_at max_terms m (λ t. pos 1) (pos 0) (omega (arith, few, ok.small))

  high_is : (t : ℕ) → t < m → high reg t ≡ pos 1
  unfolding costliest
  high_is = padded_at max_terms m (λ t. pos 1) (pos 0) (omega (arith, few, ok.small))

  range_is : (t : ℕ) → is_range reg t ≡ false
  unfolding costliest
  range_is t = replicate_rest max_terms t false

  -- ---- it is valid

  choice : (i : ℕ) → i < m * d → Choice usual_day (tank reg i) (minute reg i)
  choice i l = rw (tank_is i l, minute_is i l) (record { tank_above = omega arith; tank_within = omega arith; minute_below = omega (arith, ok.small) })

  term : (t : ℕ) → t < m → Term (m * d) (mask reg t) (coefficient reg t) (high reg t) (is_range reg t)
  term t l = rw (mask_is t l, coefficient_is t l, high_is t l) (record {
    coefficient_within = omega arith;
    high_within = omega arith;
    ordered = ≤ℤ_refl (pos 1);
    known = λ e. (refl, omega arith);
    mask_not_0 = mask_some m d some t l;
    mask_names = mask_below m d t;
  })

  choices : Choices usual_day (m * d) reg.tanks reg.minutes
  unfolding costliest
  choices = record {
    tanks = padded_column max_choices (m * d) (λ i. 1) 0;
    minutes = padded_column max_choices (m * d) (λ i. i) 0;
    table = record {
      few = omega (arith, ok.small);
      each = choice;
      rise = λ i l. inr (tank_is i (omega arith) ∙ sym (tank_is (suc i) l), rw (minute_is i (omega arith), minute_is (suc i) l) (omega arith));
    };
  }

  terms : Terms (m * d) m reg.masks reg.coefficients reg.highs reg.ranged
  unfolding costliest
  terms = record {
    masks = padded_column max_terms m (term_mask m d) 0;
    coefficients = padded_column max_terms m (λ t. pos 1) (pos 0);
    highs = padded_column max_terms m (λ t. pos 1) (pos 0);
    ranged = record { room = (column_none max_terms false).room; rest = λ t l. range_is t };
    table = record {
      few = omega (arith, few, ok.small);
      each = term;
      rise = λ t l. rw (mask_is t (omega arith), mask_is (suc t) l) (masks_rise m d some t l);
    };
  }

  within : Within reg
  unfolding costliest
  within = record {
    base = omega arith;
    day = inr (inr (inl refl));
    choices = choices;
    terms = terms;
    windows = windows_none usual_day;
    rows = rows_none (m * d);
    may_feed = λ i l. inl (λ j k. absurd (omega arith));
  }

  pub costliest_valid : Valid reg
  unfolding costliest
  costliest_valid = record {
    within = within;
    day_length = inr (inl refl);
    some_choice = omega (arith, few, ok.some_term);
  }

  -- and four bytes name the choices of every term
  pub costliest_narrow : MasksNarrow reg
  costliest_narrow t l =
      let k : t < m = subst (λ n. t < n) (costliest_terms m d) l in
      rw (mask_is t k) (omega (arith, mask_below m d t, pow_mono ok.small))

  -- ---- it is as the request has it

  pub costliest_described : Described m d reg
  unfolding costliest
  costliest_described = record {
    base_0 = refl;
    choices_are = refl;
    terms_are = refl;
    tanks_are = tank_is;
    minutes_are = minute_is;
    coefficients_are = coefficient_is;
    names_are = λ t l i. rw (mask_is t l) (mask_names m d some t l i);
    degrees_are = λ t l. rw (mask_is t l) (mask_degree m d some t l);
    usual = refl;
    no_window = refl;
    no_row = refl;
    no_range = λ t l. range_is t;
    highs_are = high_is;
    valid = costliest_valid;
  }

  -- and no two terms share a choice
  pub costliest_apart : Apart d reg
  unfolding costliest
  costliest_apart = record {
    degrees = λ t l. rw (mask_is t l) (mask_degree m d some t l);
    disjoint = λ t u l k. rw (mask_is t (omega arith), mask_is u k) (masks_disjoint m d some t u l k);
  }
