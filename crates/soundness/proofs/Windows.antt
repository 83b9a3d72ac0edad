-- Feeding windows, of our calls.
use Prim.Native.Nat.{ℕ}
use native.Mathlib.Omega.{arith}
use mathlib.Core.Path.{◌≡◌, refl, sym, ◌∙◌, ap, ap₂, subst}
use mathlib.Core.Logic.{◌↔◌, inl, inr}
use mathlib.Core.Bool.{Bool, false≢true}
use mathlib.Core.List.{List, append-nil}
use lib.Dec.{eqb}
use lib.IntN.{ℤ}
use lib.ListN.{get_or}
use borrow.Author.Tests.{eqb-true, eq-eqb}
use Rattle.integers.specs.Lists.{any_below, join_below}
use Rattle.integers.proofs.Lists.{flag}
use Rattle.integers.proofs.Any.{any_found, any_at}
use Rattle.wire.specs.Number.{Bytes}
use Rattle.wire.specs.Part.{Reading, refused, accepted}
use Rattle.wire.specs.Rows.{Progress}
use Rattle.register.specs.declared.Register.{Register}
use Rattle.register.specs.Limits.{usual_day}
use Rattle.register.specs.Register.{tank, minute, window_tank, fresh, set_windows}
use Rattle.register.specs.Format.{register_by_itself}
use Rattle.register.specs.Answer.{register_answer}
use Rattle.register.specs.Valid.{Valid, MayFeed, window_at}
use Rattle.register.specs.Encoding.{Encodes, encode_base, encode_register, SaysLength, SaysRow, SaysRange}
use Rattle.register.proofs.Accept.{encoding_accepted}
use Rattle.register.proofs.Entries.{windows_none, rows_none, in_windows}
use Rattle.register.proofs.Canonical.{canonical, encodes_ranges}
use Rattle.register.proofs.BeforeWindows.{as_before_windows_in_job, as_before_windows, no_windows}
use Rattle.register.proofs.Opened.{opened}
use Rattle.plan.proofs.Answers.{costed, costed_valid, costed_plan}
use Rattle.job.specs.declared.Tally.{Tally}
use Rattle.text.specs.Text.{HasLine}
use Rattle.listing.specs.Listing.{fed_line}
use Rattle.listing.proofs.Lines.{fed_shown, shown_fed}
use Rattle.soundness.specs.Calls.{register_call, cost_call, job_call, listing_call}
use Rattle.soundness.specs.Parts.{Part4}
use Rattle.soundness.specs.Acceptance.{register_accepted}
use Rattle.soundness.specs.BeforeRanges.{without_ranges}
use Rattle.soundness.specs.Jobs.{Accepted, Listed, shown, AcceptedJob}
use Rattle.soundness.specs.Windows.{InWindow, ChoicesInside, Feeding, KeepsWindows, JobInside, WindowsRight, without_windows, without_rows, ValidBeforeWindows, bytes_before_windows, WindowsKept, AsBeforeWindows}
use Rattle.soundness.specs.PriceRanges.{after_before_ranges}
use Rattle.soundness.proofs.BeforeRanges.{terms_before, unsaid_before}
use Rattle.soundness.proofs.Jobs.{accepted_job}
use Rattle.soundness.proofs.Outside.{outside_call, outside_in_job, only_outside_call, only_outside_in_job}

-- ---- where a tank may be fed

module _ (reg : Register) (t m : ℕ) where
  in_window : MayFeed reg.windows (window_at reg) t m → InWindow reg t m
  in_window (inl none) w = absurd (none w.window w.there w.own)
  in_window (inr inside) w = inside

  may_feed_lem : InWindow reg t m → MayFeed reg.windows (window_at reg) t m
  may_feed_lem h =
      flag (any_below reg.windows own)
      (λ e. let w = any_found reg.windows own e in inr (h (record { window = w.index; there = w.below; own = eqb-true (window_tank reg w.index) t w.passes })))
      (λ e. inl λ j l o. false≢true (sym e ∙ any_at reg.windows own j l (eq-eqb (window_tank reg j) t o)))
    where
      own : ℕ → Bool
      own j = eqb (window_tank reg j) t

-- ---- what a valid register has and a plan of it feeds

inside : (reg : Register) → Valid reg → ChoicesInside reg
inside reg v i l = in_window reg (tank reg i) (minute reg i) (v.within.may_feed i l)

pub keeps : (reg : Register) (plan : ℕ) → Valid reg → KeepsWindows reg plan
keeps reg plan v t m f = subst (λ x. InWindow reg x m) f.tank_is (subst (InWindow reg (tank reg f.choice)) f.minute_is (inside reg v f.choice f.there))

pub register_valid : (register : List ℕ) → (register_call register).number ≡ 0 → Valid (register_call register).register
register_valid register z = (opened register (register_call register) refl z).valid

plan_keeps : (register plan : List ℕ) → Bytes plan → (cost_call register plan).number ≡ 0 →
    ((register_call register).number ≡ 0) × (fed : ℕ) × Part4 (register_call register).register plan fed × KeepsWindows (register_call register).register fed
plan_keeps register plan b z =
    let c = costed register plan z in
    let fed = c.read.parsed in
    let e = ap register_answer c.first.reads in
    let n = ap (λ a. a.number) e in (
      n,
      fed,
      subst (λ reg. Part4 reg plan fed) (sym (ap (λ a. a.register) e)) (record { conditions = costed_valid register plan c; bytes = costed_plan register plan c b }),
      keeps (register_call register).register fed (register_valid register n),
    )

-- ---- the `F` lines of an accepted job

module _ (job : List ℕ) (table : List ℤ) (supplier : ℕ) (tally : Tally) (j : AcceptedJob job_call listing_call job table supplier tally)
    (lent : List ℤ) (buffer : List ℕ) (h : Listed job_call listing_call job lent buffer) (t m : ℕ) where
  abbrev Fed : ℕ → ℕ → Type 0
  Fed = Feeding j.parts.register j.parts.plan

  abbrev Shows : List ℕ → Type 0
  Shows line = HasLine line (shown job_call listing_call job lent buffer)

  pub fed_lines_lem : Shows (fed_line t m) ↔ Fed t m
  fed_lines_lem = (to, from)
    where
      to : Shows (fed_line t m) → Fed t m
      to l =
          fed_shown Fed j.parts.register j.parts.plan (λ i k f. record { choice = i; there = k; fed = f; tank_is = refl; minute_is = refl }) _ t m
          (subst (HasLine (fed_line t m)) (j.lines lent buffer h) l)

      from : Fed t m → Shows (fed_line t m)
      from f =
          let s = shown_fed j.parts.register j.parts.plan f.choice f.there f.fed _ in
          subst Shows (ap₂ fed_line f.tank_is f.minute_is) (subst (HasLine _) (sym (j.lines lent buffer h)) s)

job_inside : (job : List ℕ) (table : List ℤ) (supplier : ℕ) (tally : Tally) → Accepted job_call listing_call job table supplier tally → JobInside job_call listing_call job table supplier tally
job_inside job table supplier tally z =
    let j = accepted_job job table supplier tally z in
    record { accepted = j; keeps = keeps j.parts.register j.parts.plan j.conditions.register; lines = fed_lines_lem job table supplier tally j }

-- ---- the same register with other windows

module _ (r : Register) (v : Valid r) (k : ℕ) (tanks froms tos : List ℕ) where
  abbrev other : Register
  other = set_windows r k tanks froms tos

  with_windows : WindowsRight other → ChoicesInside other → Valid other
  with_windows w h = record {
    within = in_windows r v.within w (λ i l. may_feed_lem other (tank r i) (minute r i) (h i l));
    day_length = v.day_length;
    some_choice = v.some_choice;
  }

module _ (r : Register) where
  inside_none : ChoicesInside (without_windows r)
  inside_none i l w = absurd (omega (arith, w.there))

  -- without its windows, and with them again

  none_valid : Valid r → Valid (without_windows r)
  none_valid v = with_windows r v 0 _ _ _ (windows_none r.day_length) inside_none

  own_valid : Valid (without_windows r) → WindowsRight r → ChoicesInside r → Valid r
  own_valid v = with_windows (without_windows r) v r.windows r.window_tanks r.window_froms r.window_tos

  -- the conditions before there were windows, on a day of the usual length and without rows and ranges

  before_none : r.day_length ≡ usual_day → Valid (without_windows (without_rows (without_ranges r))) → ValidBeforeWindows r
  before_none day v = record {
    base = v.within.base;
    day = day;
    choices = rw day at v.within.choices;
    terms = (terms_before r.choices r.terms r.masks r.coefficients).0 v.within.terms;
    some_choice = v.some_choice;
  }

  with_none : ValidBeforeWindows r → Valid (without_windows (without_rows (without_ranges r)))
  with_none b = record {
    within = record {
      base = b.base;
      day = inr (inr (inl b.day));
      choices = rw b.day b.choices;
      terms = (terms_before r.choices r.terms r.masks r.coefficients).1 b.terms;
      windows = windows_none r.day_length;
      rows = rows_none r.choices;
      may_feed = λ i l. may_feed_lem (without_windows r) (tank r i) (minute r i) (inside_none i l);
    };
    day_length = inr (inl b.day);
    some_choice = b.some_choice;
  }

  bytes_none : after_before_ranges (encode_base r.base) (without_windows (without_rows r)) ≡ bytes_before_windows r
  unfolding join_below
  bytes_none = simp append-nil

-- ---- bytes without a window that say no length, no row and no range

module _ (s : List ℕ) (none : get_or s 5 0 ≡ 0x13 → ⊥) (no_length : SaysLength s → ⊥) (no_row_lem : SaysRow s → ⊥) (no_range : SaysRange s → ⊥) where
  answered_without : without_windows (register_call s).register ≡ (register_call s).register
  unfolding fresh
  answered_without = go (register_by_itself s) refl
    where
      go : (x : Reading (Progress Register)) → register_by_itself s ≡ x → without_windows (register_answer x).register ≡ (register_answer x).register
      go (refused n at) e = refl
      go (accepted p end) e = ap (λ w. set_windows p.parsed w.0 w.1 w.2 w.3) (sym (no_windows s none no_length no_row_lem no_range e))

-- ---- acceptance

-- of bytes that are an encoding
pub accepted_valid : (register : List ℕ) (reg : Register) → Encodes reg register → (register_call register ≡ register_accepted reg) ↔ Valid reg
accepted_valid register reg x = (
  (λ e. subst Valid (ap (λ a. a.register) e) (register_valid register (ap (λ a. a.number) e))),
  λ v. ap register_answer (encoding_accepted register reg v x),
)

pub windows_kept : WindowsKept register_call cost_call job_call listing_call
windows_kept = record {
  of_register = λ register z. inside (register_call register).register (register_valid register z);
  of_plan = plan_keeps;
  of_job = job_inside;
  nothing_more = λ register reg x.
      let own = accepted_valid register reg x in
      let none = accepted_valid (encode_register (without_windows reg)) (without_windows reg) (canonical (without_windows reg) (encodes_ranges reg x)) in (
        (λ e. let v = own.0 e in (none.1 (none_valid reg v), v.within.windows, inside reg v)),
        (λ (e, w, h). own.1 (own_valid reg (none.0 e) w h)),
      );
  outside = outside_call;
  outside_in_job = outside_in_job;
  only_outside = only_outside_call;
  only_outside_in_job = only_outside_in_job;
  read_as_before = λ register none no_length no_row_lem no_range.
      (ap register_answer (as_before_windows register none no_length no_row_lem no_range), answered_without register none no_length no_row_lem no_range);
}

pub kept_before_windows : AsBeforeWindows
kept_before_windows = record {
  in_job = as_before_windows_in_job;
  by_itself = as_before_windows;
  part_1 = λ register reg no_length none.
      let bytes = λ (v : Valid (without_windows (without_rows (without_ranges reg)))). unsaid_before (without_windows (without_rows reg)) register v none no_length in (
        (λ p. let (narrow, day, e) = (bytes p.conditions).0 p.bytes in (before_none reg day p.conditions, narrow, e ∙ bytes_none reg)),
        (λ (b, narrow, e). let v = with_none reg b in record { conditions = v; bytes = (bytes v).1 (narrow, b.day, e ∙ sym (bytes_none reg)) }),
      );
}
