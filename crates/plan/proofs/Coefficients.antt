-- The coefficients that a plan chooses: within the ranges, as small as the limits say, those of the register where no term has a range; and
-- the register that the code makes with them.
use mathlib.Core.Path.{◌≡◌, refl, sym, ◌∙◌}
use mathlib.Core.Bool.{Bool, true, false, cond}
use Prim.Native.Nat.{ℕ, ◌≤◌, ◌<◌}
use native.Mathlib.Omega.{arith}
use native.Mathlib.Decide.{dec_lt}
use lib.IntN.{pos, nat_abs}
use lib.ListN.{length, get_or}
use lib.Signed.{◌≤ℤ◌, ≤ℤ_refl}
use Rattle.integers.proofs.Lists.{flag}
use Rattle.std.proofs.lemmas.List.{get_or_past}
use Rattle.integers.proofs.Blocks.{length_ones, ones_at}
use Rattle.sets.specs.Sets.{is_subset}
use Rattle.register.specs.declared.Register.{Register}
use Rattle.register.specs.Limits.{max_terms, max_coefficient}
use Rattle.register.specs.Register.{mask, coefficient, high, is_range, has_range}
use Rattle.register.specs.Valid.{Known, Term, Within, Valid}
use Rattle.register.proofs.Ranged.{high_is, low_high, high_small}
use Rattle.plan.specs.Chosen.{chosen, WithinRanges, chosen_list, under}

module _ (r : Register) (w : Within r) (plan : ℕ) where
  -- within the ranges
  pub chosen_within : WithinRanges r (chosen r plan)
  chosen_within t l = by (is_subset (mask r t) plan)
    where
      by : (b : Bool) → (coefficient r t ≤ℤ cond b (high r t) (coefficient r t)) × (cond b (high r t) (coefficient r t) ≤ℤ high r t)
      by true = (low_high r w t, ≤ℤ_refl (high r t))
      by false = (≤ℤ_refl (coefficient r t), low_high r w t)

  -- without a range they are the register's own
  pub chosen_known : has_range r ≡ false → (t : ℕ) → chosen r plan t ≡ coefficient r t
  chosen_known none t = by (is_subset (mask r t) plan)
    where
      by : (b : Bool) → cond b (high r t) (coefficient r t) ≡ coefficient r t
      by true = high_is r w none t
      by false = refl

  chosen_small : (t : ℕ) → nat_abs (coefficient r t) ≤ max_coefficient → nat_abs (chosen r plan t) ≤ max_coefficient
  chosen_small t h = by (is_subset (mask r t) plan)
    where
      by : (b : Bool) → nat_abs (cond b (high r t) (coefficient r t)) ≤ max_coefficient
      by true = high_small r w t
      by false = h

  -- as small as the limits say
  pub chosen_low : (t : ℕ) → t < r.terms → nat_abs (chosen r plan t) ≤ max_coefficient
  chosen_low t l = chosen_small t (w.terms.each t l).coefficient_within

  pub past_0 : (t : ℕ) → r.terms ≤ t → chosen r plan t ≡ pos 0
  past_0 t h = by (is_subset (mask r t) plan)
    where
      by : (b : Bool) → cond b (high r t) (coefficient r t) ≡ pos 0
      by true = w.terms.highs.rest t h
      by false = w.terms.coefficients.rest t h

  -- ---- the register that the code makes

  listed : (t : ℕ) → get_or (chosen_list r plan) t (pos 0) ≡ chosen r plan t
  listed t = by (dec_lt t max_terms)
    where
      by : Dec (t < max_terms) → get_or (chosen_list r plan) t (pos 0) ≡ chosen r plan t
      by (yes l) = ones_at (chosen r plan) max_terms t (pos 0) l
      by (no d) =
          get_or_past (chosen_list r plan) t (pos 0) (omega (arith, length_ones (chosen r plan) max_terms))
          ∙ sym (past_0 t (omega (arith, w.terms.few)))

  -- its coefficients are those that the plan chooses
  pub under_coefficient : (t : ℕ) → coefficient (under r plan) t ≡ chosen r plan t
  under_coefficient t =
      flag (has_range r)
      (λ some. rw some (listed t))
      (λ none. rw none (sym (chosen_known none t)))

  under_long : length (under r plan).coefficients ≡ max_terms
  under_long =
      flag (has_range r)
      (λ some. rw some (length_ones (chosen r plan) max_terms))
      (λ none. rw none w.terms.coefficients.room)

  under_term : (t : ℕ) → t < r.terms → Term r.choices (mask r t) (coefficient (under r plan) t) (high r t) (is_range r t)
  under_term t l =
      let k = w.terms.each t l in
      rw (under_coefficient t) (record {
        coefficient_within = chosen_low t l;
        high_within = k.high_within;
        ordered = (chosen_within t l).1;
        known = λ e. known (is_subset (mask r t) plan) (k.known e);
        mask_not_0 = k.mask_not_0;
        mask_names = k.mask_names;
      })
    where
      known : (b : Bool) → Known (coefficient r t) (high r t) → Known (cond b (high r t) (coefficient r t)) (high r t)
      known true (e, n) = (refl, rw e n)
      known false k = k

  -- it is as valid as the register
  pub under_within : Within (under r plan)
  under_within = record {
    base = w.base;
    day = w.day;
    choices = w.choices;
    terms = record {
      masks = w.terms.masks;
      coefficients = record { room = under_long; rest = λ t h. under_coefficient t ∙ past_0 t h };
      highs = w.terms.highs;
      ranged = w.terms.ranged;
      table = record { few = w.terms.few; each = under_term; rise = w.terms.rise };
    };
    windows = w.windows;
    rows = w.rows;
    may_feed = w.may_feed;
  }

pub under_valid : (r : Register) → Valid r → (plan : ℕ) → Valid (under r plan)
under_valid r v plan = record { within = under_within r v.within plan; day_length = v.day_length; some_choice = v.some_choice }
