-- The day's length, of our calls.
use Prim.Native.Nat.{ℕ, ◌+◌, ◌^◌, ◌<◌, ◌≤◌}
use native.Mathlib.Omega.{arith}
use mathlib.Core.Path.{◌≡◌, refl, sym, ◌∙◌, ap, subst}
use mathlib.Core.Logic.{inl, inr}
use mathlib.Core.Bool.{Bool, true, false, cond}
use mathlib.Core.List.{List, [], ◌∷◌, ◌++◌, append-nil}
use lib.Dec.{ltb}
use lib.IntN.{ℤ, pos, nat_abs}
use lib.ListN.{length, drop}
use Rattle.integers.specs.Lists.{All, join_below}
use Rattle.integers.proofs.Lists.{flag}
use Rattle.integers.proofs.Entries.{table_each}
use Rattle.wire.specs.Part.{Reading, refused, accepted}
use Rattle.wire.specs.Rows.{Progress}
use Rattle.wire.specs.Outcome.{Outcome, refuses, accepts, next, and_then, starting_at, added_by}
use Rattle.wire.proofs.Encoding.{by_itself_accepted}
use Rattle.wire.proofs.Outcome.{next_by, itself_refused, refused_itself}
use Rattle.register.specs.declared.Register.{Register}
use Rattle.register.specs.Limits.{max_base, max_tank, usual_day, long_day}
use Rattle.register.specs.Register.{tank, minute, has_range, fresh, set_length, with_base, with_length, with_choice}
use Rattle.register.specs.Valid.{DayLength, Within, Valid}
use Rattle.register.specs.Encoding.{encode_base, encode_length, encode_choice, not_narrow, encode_with_length, encode_without_length, encode_register, SaysLength, length_in}
use Rattle.register.specs.Ranges.{OutOfRange}
use Rattle.register.specs.Format.{register_in_job, register_by_itself}
use Rattle.register.specs.Answer.{register_answer}
use Rattle.register.specs.Answer as R
use Rattle.register.proofs.Passes.{length_within}
use Rattle.register.proofs.Entries.{rows_none, fresh_within, base_more, length_more, choice_at, choice_new, choice_more}
use Rattle.register.proofs.Accept.{encoding_accepted, answer_iff}
use Rattle.register.proofs.Canonical.{canonical, encodes_with, encodes_without, encodes_ranges, unranged_narrow}
use Rattle.register.proofs.Opened.{opened, opened_refused}
use Rattle.register.proofs.DayLengths.{length_said, out_of_range, other_length}
use Rattle.register.proofs.SaysRow.{length_byte}
use Rattle.register.proofs.BeforeLengths.{as_before_lengths_in_job, as_before_lengths, usual_day_lem}
use Rattle.scheme.specs.Format.{scheme_in_job}
use Rattle.bound.specs.Format.{certificate_in_job}
use Rattle.plan.specs.Format.{plan_in_job}
use Rattle.job.specs.declared.Tally.{Tally}
use Rattle.job.specs.Outcome.{Parts, coefficients, of_register, with_scheme, with_certificate, with_plan, JobPart, order, last_of, in_turn, ended, outcome}
use Rattle.job.specs.Answer.{after_job, job_answer}
use Rattle.job.proofs.Turn.{of_order, follow}
use Rattle.job.proofs.Suppliers.{of_three}
use Rattle.soundness.specs.Calls.{register_call, cost_call, job_call, listing_call}
use Rattle.soundness.specs.Jobs.{Accepted}
use Rattle.soundness.specs.DayLengths.{OfDay, KeepsLength, FeedsOfDay, JobOfDay, UsualDay, ValidBeforeLengths, bytes_before_lengths, LengthsKept, AsBeforeLengths}
use Rattle.soundness.specs.BeforeRanges.{without_ranges}
use Rattle.soundness.specs.Windows.{without_rows}
use Rattle.soundness.specs.PriceRanges.{after_before_ranges}
use Rattle.soundness.proofs.Written.{says_length_iff, says_length_narrow, with_bytes, without_bytes}
use Rattle.soundness.proofs.BeforeRanges.{terms_before, unsaid_before}
use Rattle.soundness.proofs.Jobs.{accepted_job, accepted_leads}
use Rattle.soundness.proofs.Windows.{register_valid, accepted_valid, fed_lines_lem, windows_kept}

-- ---- a valid register

module _ (reg : Register) (v : Valid reg) where
  of_day : OfDay reg.day_length reg
  of_day = record {
    minutes = λ i l. (v.within.choices.each i l).minute_below;
    froms = λ j l. (v.within.windows.each j l).from_below;
    tos = λ j l. (v.within.windows.each j l).to_within;
  }

  pub feeds_of_day : (plan : ℕ) → FeedsOfDay reg plan
  feeds_of_day plan t m f = subst (λ x. x < reg.day_length) f.minute_is (of_day.minutes f.choice f.there)

  keeps_length : (s : List ℕ) → reg.day_length ≡ length_in s → KeepsLength s reg
  keeps_length s e = record { said = e; one_of_three = v.day_length; of_day = of_day }

  -- with another of the three lengths, where such a day has its minutes, as the longest has

  of_longest : OfDay long_day reg
  of_longest =
      let d = length_within v.day_length in
      record { minutes = λ i l. omega (arith, of_day.minutes i l); froms = λ j l. omega (arith, of_day.froms j l); tos = λ j l. omega (arith, of_day.tos j l) }

  other_valid : (length : ℕ) → DayLength length → OfDay length reg → Valid (set_length reg length)
  other_valid length d o = record {
    within = record {
      base = v.within.base;
      day = inr d;
      choices = let cs = v.within.choices in record {
        tanks = cs.tanks;
        minutes = cs.minutes;
        table = table_each (λ i l c. record { tank_above = c.tank_above; tank_within = c.tank_within; minute_below = o.minutes i l }) cs.table;
      };
      terms = v.within.terms;
      windows = let ws = v.within.windows in record {
        tanks = ws.tanks;
        froms = ws.froms;
        tos = ws.tos;
        table = table_each (λ j l w. record { tank_above = w.tank_above; tank_within = w.tank_within; from_below = o.froms j l; to_above = w.to_above; to_within = o.tos j l; ordered = w.ordered }) ws.table;
      };
      rows = v.within.rows;
      may_feed = v.within.may_feed;
    };
    day_length = d;
    some_choice = v.some_choice;
  }

longest_valid : (reg : Register) → Valid reg → Valid (set_length reg long_day)
longest_valid reg v = other_valid reg v long_day (inr (inr refl)) (of_longest reg v)

own_valid : (reg : Register) → Valid (set_length reg long_day) → DayLength reg.day_length → OfDay reg.day_length reg → Valid reg
own_valid reg v d o = other_valid (set_length reg long_day) v reg.day_length d (record { minutes = o.minutes; froms = o.froms; tos = o.tos })

-- without rows and ranges, by the conditions that were
before_lengths : (reg : Register) → Valid (without_rows (without_ranges reg)) → reg.day_length ≡ usual_day → ValidBeforeLengths reg
before_lengths reg v day = record {
  base = v.within.base;
  tanks = v.within.choices.tanks;
  minutes = v.within.choices.minutes;
  choices = table_each (λ i l c. record { tank_above = c.tank_above; tank_within = c.tank_within; minute_within = omega (arith, c.minute_below) }) v.within.choices.table;
  terms = (terms_before reg.choices reg.terms reg.masks reg.coefficients).0 v.within.terms;
  window_tanks = v.within.windows.tanks;
  window_froms = v.within.windows.froms;
  window_tos = v.within.windows.tos;
  windows = table_each (λ j l w. record { tank_above = w.tank_above; tank_within = w.tank_within; from_within = omega (arith, w.from_below); to_above = w.to_above; to_within = omega (arith, w.to_within); ordered = w.ordered }) v.within.windows.table;
  may_feed = v.within.may_feed;
  some_choice = v.some_choice;
}

-- and by those that are now
now_valid : (reg : Register) → ValidBeforeLengths reg → reg.day_length ≡ usual_day → Valid (without_rows (without_ranges reg))
now_valid reg b day = record {
  within = record {
    base = b.base;
    day = inr (inr (inl day));
    choices = record {
      tanks = b.tanks;
      minutes = b.minutes;
      table = table_each (λ i l c. record { tank_above = c.tank_above; tank_within = c.tank_within; minute_below = omega (arith, c.minute_within) }) b.choices;
    };
    terms = (terms_before reg.choices reg.terms reg.masks reg.coefficients).1 b.terms;
    windows = record {
      tanks = b.window_tanks;
      froms = b.window_froms;
      tos = b.window_tos;
      table = table_each (λ j l w. record { tank_above = w.tank_above; tank_within = w.tank_within; from_below = omega (arith, w.from_within); to_above = w.to_above; to_within = omega (arith, w.to_within); ordered = w.ordered }) b.windows;
    };
    rows = rows_none reg.choices;
    may_feed = b.may_feed;
  };
  day_length = inr (inl day);
  some_choice = b.some_choice;
}

bytes_none : (reg : Register) → after_before_ranges (encode_base reg.base) (without_rows reg) ≡ bytes_before_lengths reg
unfolding join_below
bytes_none reg = simp append-nil

-- ---- an accepted register

register_keeps : (s : List ℕ) → (register_call s).number ≡ 0 → KeepsLength s (register_call s).register
unfolding register_by_itself
register_keeps s z =
    let o = opened s (register_call s) refl z in
    keeps_length (register_call s).register o.valid s (length_said s (by_itself_accepted s (register_in_job s) _ _ o.reads).0)

-- ---- part 1 at the front of a job

-- a part behind it, whatever reading it leads to, keeps the register

abbrev Kept : Register → Reading Parts → Type 0
Kept reg (refused n at) = Unit {0}
Kept reg (accepted p end) = p.register ≡ reg

abbrev Later : JobPart → Type 0
Later k = (1 < k.number) × ((p : Parts) (x : List ℕ) → Kept p.register (k.reads p x))

added : {A : Type 0} (reg : Register) (add : A → Parts) → ((a : A) → (add a).register ≡ reg) → (x : Reading (Progress A)) → Kept reg (added_by add x)
added reg add h (refused n at) = tt
added reg add h (accepted p end) = h p.parsed

each_later : (reg : Register) → All Later (order reg)
each_later = of_order Later
    (omega arith, λ p x. added p.register (with_scheme p) (λ a. refl) (scheme_in_job p.register x))
    (omega arith, λ p x. added p.register (with_certificate p) (λ a. refl) (certificate_in_job (coefficients p) p.register p.scheme x))
    (omega arith, λ p x. added p.register (with_plan p) (λ a. refl) (plan_in_job p.register x))

last_later : (reg : Register) → 1 < last_of 1 (order reg)
last_later reg = flag (has_range reg) (λ t. rw t (omega arith)) (λ t. rw t (omega arith))

module _ (s : List ℕ) (Q : Register → Type 0) where
  -- a refusal of part 1 is that of its reading, and the register of an accepted job has Q
  abbrev pub First : Outcome Parts → Type 0
  First (refuses n part at) = part ≡ 1 → register_in_job s ≡ refused n at
  First (accepts p) = Q p.register

  -- the parts behind it keep the register
  turned : (last : ℕ) → 1 < last → (ks : List JobPart) → All Later ks → (p : Parts) (from : ℕ) → Q p.register → First (follow s last ks p from)
  turned last l [] h p from q = past (ltb from (length s))
    where
      past : (t : Bool) → First (cond t (refuses 12 last from) (accepts p))
      past true = λ z. absurd (omega arith)
      past false = q
  turned last l (k ∷ ks) h p from q = go (k.reads p (drop from s)) (h.0.1 p (drop from s)) (turned last l ks h.1)
    where
      go : (x : Reading Parts) → Kept p.register x → ((q : Parts) (from : ℕ) → Q q.register → First (follow s last ks q from)) → First (and_then (next k.number (starting_at from x) (in_turn ks s)) (ended last s))
      go (refused n at) e more = λ z. absurd (omega (arith, h.0.0))
      go (accepted next end) e more = more next (from + end) (subst Q (sym e) q)

  -- where each register that is read at its front does
  pub first : ((p : Progress Register) (end : ℕ) → register_in_job s ≡ accepted p end → Q p.parsed) → First (outcome s)
  unfolding outcome
  first h =
      next_by First 1 (register_in_job s) (λ one end. let reg = one.parsed in follow s (last_of 1 (order reg)) (order reg) (of_register reg) end) (λ n at x _. x)
      (λ one end x. let reg = one.parsed in turned (last_of 1 (order reg)) (last_later reg) (order reg) (each_later reg) (of_register reg) end (h one end x))

-- it has the length that the job says
abbrev SaidBy : List ℕ → Register → Type 0
SaidBy s reg = reg.day_length ≡ length_in s

first_said : (s : List ℕ) → First s (SaidBy s) (outcome s)
first_said s = first s (SaidBy s) (λ p end. length_said s)

job_of_day : (job : List ℕ) (table : List ℤ) (supplier : ℕ) (tally : Tally) → Accepted job_call listing_call job table supplier tally → JobOfDay job_call listing_call job table supplier tally
job_of_day job table supplier tally z =
    let j = accepted_job job table supplier tally z in
    let reg = j.parts.register in
    let v = j.conditions.register in
    let said : reg.day_length ≡ length_in job = rw (accepted_leads job table supplier tally z) at (first_said job) in
    let feeds = feeds_of_day reg v j.parts.plan in
    record {
      accepted = j;
      keeps = keeps_length reg v job said;
      feeds = feeds;
      lines = λ lent buffer h t m l. subst (λ n. m < n) said (feeds t m ((fed_lines_lem job table supplier tally j lent buffer h t m).0 l));
    }

-- ---- what is refused

register_refused : (s : List ℕ) → (register_call s).number ≡ 4 → OutOfRange s (register_call s).position
unfolding register_by_itself
register_refused s z =
    let e = opened_refused s (register_call s) refl (λ n. omega arith) in
    out_of_range s (register_call s).position (refused_itself s (register_in_job s) (λ n. omega arith) (e ∙ ap (λ n. refused n (register_call s).position) z))

job_refused : (job : List ℕ) (table : List ℤ) (supplier : ℕ) (tally : Tally) → (job_answer job table supplier tally).number ≡ 4 → (job_answer job table supplier tally).part ≡ 1 → OutOfRange job (job_answer job table supplier tally).position
job_refused job table supplier tally =
    of_three job table supplier tally (λ a. a.number ≡ 4 → a.part ≡ 1 → OutOfRange job a.position)
    (λ l z one. absurd (omega arith)) (λ l m z one. absurd (omega arith)) (λ l m. go (outcome job) refl)
  where
    go : (x : Outcome Parts) → outcome job ≡ x → let a = after_job x supplier tally in a.number ≡ 4 → a.part ≡ 1 → OutOfRange job a.position
    go (refuses n part at) e z one = let f : First job (SaidBy job) (refuses n part at) = rw e at (first_said job) in out_of_range job at (f one ∙ ap (λ n. refused n at) z)
    go (accepts p) e z one = absurd (omega arith)

-- ---- each minute of each day

module _ (length t m : ℕ) (day : DayLength length) (above : 1 ≤ t) (below : t ≤ max_tank) (inside : m < length) where
  abbrev header : Register
  header = with_length (with_base fresh (pos 0)) length

  -- a register with one choice
  abbrev one : Register
  one = with_choice header t m

  header_within : Within header
  unfolding fresh
  header_within = length_more (with_base fresh (pos 0)) (base_more fresh fresh_within (pos 0) (omega arith) refl refl) length day refl refl

  one_valid : Valid one
  unfolding fresh
  one_valid = record {
    within = choice_more header header_within t m refl refl (record { few = omega arith; fits = record { tank_above = above; tank_within = below; minute_below = inside }; rises = inl refl }) (inl λ j l. absurd (omega arith));
    day_length = day;
    some_choice = omega arith;
  }

  one_choice : choice_at one 0 ≡ (t, m)
  unfolding fresh
  one_choice = choice_new header header_within t m (omega arith)

  abbrev bytes : List ℕ
  bytes = encode_base (pos 0) ++ encode_length length ++ encode_choice t m ++ (0x1F ∷ [])

  one_bytes : encode_with_length one ≡ bytes
  unfolding fresh join_below
  one_bytes = simp (append-nil, ap (λ c. c.0) one_choice, ap (λ c. c.1) one_choice)

  fed : let answer = register_call bytes in (answer.number ≡ 0) × ((answer.register.choices ≡ 1) × ((tank answer.register 0 ≡ t) × (minute answer.register 0 ≡ m)))
  unfolding fresh
  fed = rw (encoding_accepted bytes one one_valid (rw one_bytes at (encodes_with one (unranged_narrow one refl)))) (refl, (refl, (ap (λ c. c.0) one_choice, ap (λ c. c.1) one_choice)))

-- ---- a length that is none of the three

length_refused : (base : ℤ) (length : ℕ) (rest : List ℕ) → nat_abs base ≤ max_base → length < 2 ^ 16 → (DayLength length → ⊥) → register_call (encode_base base ++ encode_length length ++ rest) ≡ R.refused_answer 4 5
unfolding register_by_itself
length_refused base length rest b l d = ap register_answer (itself_refused (encode_base base ++ encode_length length ++ rest) (other_length base length rest b l d))

-- ---- bytes that say no length

usual : (s : List ℕ) → (SaysLength s → ⊥) → UsualDay (register_call s)
unfolding fresh
usual s none = record {
  accepted = λ z. usual_day_lem s none (opened s (register_call s) refl z).reads;
  refused = λ d. ap (λ x. (register_answer x).register.day_length) (opened_refused s (register_call s) refl d);
}

pub lengths_kept : LengthsKept register_call cost_call job_call listing_call
lengths_kept = record {
  of_register = register_keeps;
  of_plan = λ register plan b z. let w = windows_kept.of_plan register plan b z in (w.0, w.1, w.2, feeds_of_day (register_call register).register (register_valid register w.0) w.1);
  of_job = job_of_day;
  nothing_more = λ register reg x.
      let own = accepted_valid register reg x in
      let long = accepted_valid (encode_register (set_length reg long_day)) (set_length reg long_day) (canonical (set_length reg long_day) (encodes_ranges reg x)) in (
        (λ e. let v = own.0 e in (long.1 (longest_valid reg v), v.day_length, of_day reg v)),
        (λ (e, d, o). own.1 (own_valid reg (long.0 e) d o)),
      );
  refused_for = register_refused;
  refused_in_job = job_refused;
  each_minute = fed;
  other_length = length_refused;
  said_or_not = λ reg day.
      let said = answer_iff (encode_with_length reg) reg (with_bytes reg (not_narrow reg)) in
      let not_said = answer_iff (encode_without_length reg) reg (without_bytes reg (not_narrow reg)) in (
        (λ e. let (v, x) = said.0 e in not_said.1 (v, encodes_without reg (encodes_ranges reg x) day)),
        (λ e. let (v, x) = not_said.0 e in said.1 (v, encodes_with reg (encodes_ranges reg x))),
      );
  usual = usual;
  read_as_before = λ register none no_row_lem no_range. ap register_answer (as_before_lengths register none no_row_lem no_range);
}

pub kept_before_lengths : AsBeforeLengths
kept_before_lengths = record {
  length_byte = length_byte;
  says_length = λ register reg. says_length_iff reg register;
  says_length_narrow = λ register reg. says_length_narrow reg register;
  in_job = as_before_lengths_in_job;
  by_itself = as_before_lengths;
  part_1 = λ register reg no_length none.
      let bytes = λ (v : Valid (without_rows (without_ranges reg))). unsaid_before (without_rows reg) register v none no_length in (
        (λ p. let (narrow, day, e) = (bytes p.conditions).0 p.bytes in (before_lengths reg p.conditions day, narrow, day, e ∙ bytes_none reg)),
        (λ (b, narrow, day, e). let v = now_valid reg b day in record { conditions = v; bytes = (bytes v).1 (narrow, day, e ∙ sym (bytes_none reg)) }),
      );
}
