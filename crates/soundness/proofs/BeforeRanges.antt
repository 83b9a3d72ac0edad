-- Before there were ranges: the terms of a register and their bytes, and the calls with bytes that say no range. Where no term has a range
-- each plan chooses the register's own coefficients.
use Prim.Native.Nat.{ℕ, ◌+◌, ◌<◌}
use mathlib.Core.Path.{◌≡◌, refl, sym, ◌∙◌, ap, ap₂}
use mathlib.Core.Logic.{inr, ◌↔◌}
use mathlib.Core.Bool.{Bool, true, false, cond}
use mathlib.Core.List.{List, [], ◌∷◌, ◌++◌}
use lib.Dec.{ltb}
use lib.IntN.{ℤ}
use lib.ListN.{length, drop, replicate}
use lib.Signed.{≤ℤ_refl}
use Rattle.integers.proofs.Lists.{flag}
use Rattle.integers.proofs.Join.{join_cong}
use Rattle.integers.proofs.Entries.{replicate_rest, column_none}
use Rattle.wire.specs.Part.{Reading, refused, accepted}
use Rattle.wire.specs.Rows.{Progress}
use Rattle.wire.specs.Outcome.{Outcome, refuses, accepts, next, given, and_then, answer_by, starting_at, added_by}
use Rattle.wire.specs.Writer as W
use Rattle.wire.specs.declared.WriterAnswer.{WriterAnswer}
use Rattle.wire.proofs.Accepting.{reached}
use Rattle.wire.proofs.Outcome.{next_same}
use Rattle.forms.specs.Table.{table_numbers}
use Rattle.register.specs.declared.Register.{Register}
use Rattle.register.specs.Limits.{max_terms, usual_day}
use Rattle.register.specs.Register.{fresh, mask, coefficient, has_range}
use Rattle.register.specs.Valid.{Terms, Within, Valid}
use Rattle.register.specs.Encoding.{Encodes, MasksNarrow, encode_base, encode_terms, encode_entry, encode_after, not_narrow, SaysLength, SaysRange, SaysWide}
use Rattle.register.specs.Format.{register_in_job, register_by_itself}
use Rattle.register.specs.Answer.{register_answer}
use Rattle.register.specs.BeforeRanges.{by_itself_before_ranges}
use Rattle.register.proofs.Accept as R
use Rattle.register.proofs.SaysRange.{said_in_job, said_by_itself}
use Rattle.register.proofs.SaysWide.{narrow_terms, unsaid_forms}
use Rattle.register.proofs.BeforeRanges.{range_byte, as_before_ranges_in_job, as_before_ranges, no_ranges}
use Rattle.plan.specs.declared.CostAnswer.{CostAnswer}
use Rattle.plan.specs.Plan.{cost}
use Rattle.plan.specs.Chosen.{chosen}
use Rattle.plan.specs.Format.{plan_by_itself}
use Rattle.plan.specs.Answer.{refused_cost, accepted_cost, cost_answer}
use Rattle.plan.proofs.Coefficients.{chosen_known}
use Rattle.plan.proofs.Ranges.{cost_same}
use Rattle.scheme.specs.declared.Scheme.{Scheme}
use Rattle.scheme.specs.Format.{scheme_in_job}
use Rattle.scheme.specs.Answer.{open_parts}
use Rattle.scheme.proofs.Opened.{opened}
use Rattle.certificate.specs.Format.{commands_in_job}
use Rattle.bound.specs.declared.CheckAnswer.{CheckAnswer}
use Rattle.bound.specs.Format.{certificate_by_itself}
use Rattle.bound.specs.Opening.{open_chosen}
use Rattle.bound.specs.Check as C
use Rattle.bound.specs.Check.{check_answer, check_table}
use Rattle.bound.proofs.Opening.{opens_chosen, plan_none}
use Rattle.bound.proofs.Same.{certificate_same, residual_same}
use Rattle.plain.specs.Encoding.{encode_plain}
use Rattle.plain.specs.Answer.{plain_answer, plain_buffer}
use Rattle.plain.proofs.Same.{plain_known}
use Rattle.job.specs.declared.Tally.{Tally}
use Rattle.job.specs.Outcome.{Parts, of_register, with_scheme, part_two, part_three, part_four, order, last_of, in_turn, ended, outcome, before, table_by, table_after}
use Rattle.job.specs.Answer.{after_job, job_answer, job_table}
use Rattle.job.proofs.EachRead.{all_read}
use Rattle.soundness.specs.Calls.{register_call, cost_call, check_call, plain_call, job_call}
use Rattle.soundness.specs.BeforeRanges.{TermsBefore, encode_terms_before, without_ranges, open_before_ranges, cost_before_ranges, check_before_ranges, plain_before_ranges, part_three_before, outcome_before_ranges, table_before_ranges, after_job_before_ranges, job_before_ranges}
use Rattle.soundness.specs.PriceRanges.{ValidBeforeRanges, after_before_ranges, EncodesBeforeRanges, AsBeforeRanges}
use Rattle.soundness.proofs.Written.{after_same, unsaid}

-- ---- the terms of a register

pub terms_before : (n m : ℕ) (ms : List ℕ) (cs : List ℤ) → Terms n m ms cs cs (replicate max_terms false) ↔ TermsBefore n m ms cs
terms_before n m ms cs = (to, from)
  where
    to : Terms n m ms cs cs (replicate max_terms false) → TermsBefore n m ms cs
    to t = record {
      masks = t.masks;
      coefficients = t.coefficients;
      table = record {
        few = t.few;
        each = λ i l.
            let k = t.each i l in
            record { coefficient_within = k.coefficient_within; coefficient_not_0 = (k.known (replicate_rest max_terms i false)).1; mask_not_0 = k.mask_not_0; mask_names = k.mask_names };
        rise = t.rise;
      };
    }

    from : TermsBefore n m ms cs → Terms n m ms cs cs (replicate max_terms false)
    from b = record {
      masks = b.masks;
      coefficients = b.coefficients;
      highs = b.coefficients;
      ranged = record { room = (column_none max_terms false).room; rest = λ i h. replicate_rest max_terms i false };
      table = record {
        few = b.table.few;
        each = λ i l.
            let k = b.table.each i l in
            record { coefficient_within = k.coefficient_within; high_within = k.coefficient_within; ordered = ≤ℤ_refl _; known = λ e. (refl, k.coefficient_not_0); mask_not_0 = k.mask_not_0; mask_names = k.mask_names };
        rise = b.table.rise;
      };
    }

-- and their bytes, each by `12` where the masks are narrow
encoded_before : (r : Register) → MasksNarrow r → encode_terms (without_ranges r) ≡ encode_terms_before r
encoded_before r narrow =
    narrow_terms (without_ranges r) narrow
    ∙ join_cong r.terms _ _ (λ t l. ap (λ b. encode_entry false b (mask r t) (coefficient r t) (coefficient r t)) (replicate_rest max_terms t false))

-- ---- part 1

module _ (r : Register) where
  before_none : Valid (without_ranges r) → ValidBeforeRanges r
  before_none v = record {
    base = v.within.base;
    choices = v.within.choices;
    terms = (terms_before r.choices r.terms r.masks r.coefficients).0 v.within.terms;
    windows = v.within.windows;
    rows = v.within.rows;
    may_feed = v.within.may_feed;
    day_length = v.day_length;
    some_choice = v.some_choice;
  }

  with_none : ValidBeforeRanges r → Valid (without_ranges r)
  with_none b = record {
    within = record {
      base = b.base;
      day = inr b.day_length;
      choices = b.choices;
      terms = (terms_before r.choices r.terms r.masks r.coefficients).1 b.terms;
      windows = b.windows;
      rows = b.rows;
      may_feed = b.may_feed;
    };
    day_length = b.day_length;
    some_choice = b.some_choice;
  }

  -- after a header
  bytes_before : MasksNarrow r → (header : List ℕ) → encode_after (not_narrow r) header (without_ranges r) ≡ after_before_ranges header r
  bytes_before narrow header = rw (encoded_before r narrow)

  -- the encodings that say no `15`

  module _ (s : List ℕ) (v : Valid (without_ranges r)) (none : SaysWide s → ⊥) where
    pub forms_before : Encodes (without_ranges r) s ↔ (MasksNarrow r × EncodesBeforeRanges r s)
    forms_before =
        let (to, from) = unsaid_forms (without_ranges r) v s none in (
          (λ x. let (narrow, e) = to x in (narrow, after_same r (bytes_before narrow) s e)),
          (λ (narrow, e). from (narrow, after_same r (λ header. sym (bytes_before narrow header)) s e)),
        )

    -- and no length
    pub unsaid_before : (SaysLength s → ⊥) → Encodes (without_ranges r) s ↔ (MasksNarrow r × (r.day_length ≡ usual_day) × (s ≡ after_before_ranges (encode_base r.base) r))
    unsaid_before no_length =
        let (to, from) = unsaid (without_ranges r) s v none no_length in (
          (λ x. let (narrow, day, e) = to x in (narrow, day, e ∙ bytes_before narrow _)),
          (λ (narrow, day, e). from (narrow, day, e ∙ sym (bytes_before narrow _))),
        )

-- ---- a register without a range

-- each plan costs what it does with its own coefficients
cost_known : (r : Register) → Within r → has_range r ≡ false → (plan : ℕ) → cost (chosen r plan) r plan ≡ cost (coefficient r) r plan
cost_known r w none plan = cost_same (chosen r plan) (coefficient r) r (λ t l. chosen_known r w plan none t) plan

-- ---- bytes that say no range

module _ (s : List ℕ) (none : SaysRange s → ⊥) where
  -- where part 1 is accepted, no term has one

  unranged_in_job : (p : Progress Register) (end : ℕ) → register_in_job s ≡ accepted p end → has_range p.parsed ≡ false
  unranged_in_job p end e = flag (has_range p.parsed) (λ t. absurd (none ((said_in_job s p end e).1 t))) (λ f. f)

  unranged : (p : Progress Register) (end : ℕ) → register_by_itself s ≡ accepted p end → has_range p.parsed ≡ false
  unranged p end e = flag (has_range p.parsed) (λ t. absurd (none ((said_by_itself s p end e).1 t))) (λ f. f)

  answered_without : without_ranges (register_call s).register ≡ (register_call s).register
  unfolding fresh
  answered_without = go (register_by_itself s) refl
    where
      go : (x : Reading (Progress Register)) → register_by_itself s ≡ x → without_ranges (register_answer x).register ≡ (register_answer x).register
      go (refused n at) e = refl
      go (accepted p end) e = let (same, no_range) = no_ranges s none e in ap₂ (λ hs rs. record p.parsed { highs = hs; ranged = rs }) (sym same) (sym no_range)

  pub register_before : (register_call s ≡ register_answer (by_itself_before_ranges s)) × (without_ranges (register_call s).register ≡ (register_call s).register)
  register_before = (ap register_answer (as_before_ranges s none), answered_without)

-- ---- the cost

module _ (register plan : List ℕ) (none : SaysRange register → ⊥) where
  abbrev costs_by : (Register → ℕ → ℤ) → Reading (Progress Register) → CostAnswer
  costs_by z x = answer_by refused_cost accepted_cost (and_then (given 1 x) λ reg. and_then (given 4 (plan_by_itself reg plan)) λ p. accepts (z reg p))

  cost_of : (reg : Register) → Within reg → has_range reg ≡ false → (y : Reading (Progress ℕ)) →
      answer_by refused_cost accepted_cost (and_then (given 4 y) λ p. accepts (cost (chosen reg p) reg p)) ≡ answer_by refused_cost accepted_cost (and_then (given 4 y) λ p. accepts (cost (coefficient reg) reg p))
  cost_of reg w no_range (refused n at) = refl
  cost_of reg w no_range (accepted p end) = ap accepted_cost (cost_known reg w no_range p.parsed)

  costs : (x : Reading (Progress Register)) → register_by_itself register ≡ x → costs_by (λ reg p. cost (chosen reg p) reg p) x ≡ costs_by (λ reg p. cost (coefficient reg) reg p) x
  costs (refused n at) e = refl
  costs (accepted read end) e = cost_of read.parsed (R.whole_valid register read end e).0.within (unranged register none read end e) (plan_by_itself read.parsed plan)

  pub cost_before : cost_call register plan ≡ cost_before_ranges register plan
  unfolding cost_answer
  cost_before = costs (register_by_itself register) refl ∙ ap (costs_by (λ reg p. cost (coefficient reg) reg p)) (as_before_ranges register none)

-- ---- the check and our own certificate, by what parts 1 and 2 lead to

module _ (register scheme : List ℕ) (none : SaysRange register → ⊥) where
  opens_before : open_parts register scheme ≡ open_before_ranges register scheme
  opens_before = rw (as_before_ranges register none)

  -- where they are accepted, the plan that feeds nothing stands for every plan
  opens_none : (plan : List ℕ) (reg : Register) (sch : Scheme) → open_parts register scheme ≡ accepts (reg, sch) → Within reg × ((has_range reg ≡ false) × (open_chosen register scheme plan ≡ accepts (reg, sch, 0)))
  opens_none plan reg sch e =
      let o = opened register scheme reg sch e in
      let no_range = unranged register none (reached 0x1F reg) (length register) o.register_reads in
      (o.register_valid.within, (no_range, opens_chosen (record { parts = o; opens_plan = plan_none reg plan no_range })))

  module _ (certificate plan : List ℕ) (lent : List ℤ) where
    abbrev checks_by : Outcome (Register × Scheme) → CheckAnswer × List ℤ
    checks_by x = (
      cond (ltb (length lent) table_numbers) (C.refused_answer 11 0 0)
          (answer_by C.refused_answer C.accepted_answer (and_then x λ (reg, sch). given 3 (certificate_by_itself (coefficient reg) reg sch certificate))),
      cond (ltb (length lent) table_numbers) lent
          (answer_by (λ number part at. lent) (λ (reg, sch). C.with_residual (coefficient reg) reg sch (commands_in_job reg sch certificate) lent) x),
    )

    checks : (x : Outcome (Register × Scheme)) → open_parts register scheme ≡ x → check_call register scheme certificate plan lent ≡ checks_by x
    unfolding check_answer check_table certificate_by_itself
    checks (refuses n part at) e = rw e
    checks (accepts (reg, sch)) e =
        let (w, (no_range, f)) = opens_none plan reg sch e in
        let same : (t : ℕ) → t < reg.terms → chosen reg 0 t ≡ coefficient reg t = λ t l. chosen_known reg w 0 no_range t in
        rw (f, certificate_same (chosen reg 0) (coefficient reg) reg sch same certificate, residual_same (chosen reg 0) (coefficient reg) reg sch same (commands_in_job reg sch certificate) lent)

    pub check_before : check_call register scheme certificate plan lent ≡ check_before_ranges register scheme certificate lent
    check_before = checks (open_parts register scheme) refl ∙ ap checks_by opens_before

  module _ (plan lent : List ℕ) where
    abbrev writes_by : Outcome (Register × Scheme) → WriterAnswer × List ℕ
    writes_by x = (
      answer_by W.refused_answer (λ (reg, sch). W.bytes_answer (encode_plain (coefficient reg) reg sch) lent) x,
      answer_by (λ number part at. lent) (λ (reg, sch). W.with_front (encode_plain (coefficient reg) reg sch) lent) x,
    )

    writes : (x : Outcome (Register × Scheme)) → open_parts register scheme ≡ x → plain_call register scheme plan lent ≡ writes_by x
    unfolding plain_answer plain_buffer
    writes (refuses n part at) e = rw e
    writes (accepts (reg, sch)) e = let (w, (no_range, f)) = opens_none plan reg sch e in rw (f, plain_known reg w sch 0 no_range)

    pub plain_before : plain_call register scheme plan lent ≡ plain_before_ranges register scheme lent
    plain_before = writes (open_parts register scheme) refl ∙ ap writes_by opens_before

-- ---- a job

module _ (s : List ℕ) (none : SaysRange s → ⊥) where
  -- the table with the register's own coefficients, by what the parts before part 3 lead to
  abbrev own_table : List ℤ → Outcome (Parts × ℕ) → List ℤ
  own_table lent x = answer_by (λ number part at. lent) (λ (p, at). C.with_residual (coefficient p.register) p.register p.scheme (commands_in_job p.register p.scheme (drop at s)) lent) x

  -- the parts after the register, in the order that they had

  module _ (reg : Register) (w : Within reg) (no_range : has_range reg ≡ false) (from : ℕ) where
    same : (t : ℕ) → t < reg.terms → chosen reg 0 t ≡ coefficient reg t
    same t l = chosen_known reg w 0 no_range t

    third_same : (sch : Scheme) (at : ℕ) → let p = with_scheme (of_register reg) sch in in_turn (part_three ∷ part_four ∷ []) s p at ≡ in_turn (part_three_before ∷ part_four ∷ []) s p at
    third_same sch at = rw (certificate_same (chosen reg 0) (coefficient reg) reg sch same (drop at s))

    turn_same : in_turn (part_two ∷ part_three ∷ part_four ∷ []) s (of_register reg) from ≡ in_turn (part_two ∷ part_three_before ∷ part_four ∷ []) s (of_register reg) from
    turn_same = of_scheme (scheme_in_job reg (drop from s))
      where
        of_scheme : (x : Reading (Progress Scheme)) → let y = starting_at from (added_by (with_scheme (of_register reg)) x) in
            next 2 y (in_turn (part_three ∷ part_four ∷ []) s) ≡ next 2 y (in_turn (part_three_before ∷ part_four ∷ []) s)
        of_scheme (refused n at) = refl
        of_scheme (accepted two end) = third_same two.parsed (from + end)

    -- and the table
    table_turn : (lent : List ℤ) → let x = in_turn (part_two ∷ []) s (of_register reg) from in table_by s lent x ≡ own_table lent x
    table_turn lent = of_scheme (scheme_in_job reg (drop from s))
      where
        of_scheme : (x : Reading (Progress Scheme)) → let y : Outcome (Parts × ℕ) = next 2 (starting_at from (added_by (with_scheme (of_register reg)) x)) (in_turn [] s) in table_by s lent y ≡ own_table lent y
        of_scheme (refused n at) = refl
        of_scheme (accepted two end) = residual_same (chosen reg 0) (coefficient reg) reg two.parsed same (commands_in_job reg two.parsed (drop (from + end) s)) lent

  within : (p : Progress Register) (end : ℕ) → register_in_job s ≡ accepted p end → Within p.parsed
  within p end e = (R.valid_accepted s p end e).0.within

  pub outcome_before : outcome s ≡ outcome_before_ranges s
  unfolding outcome
  outcome_before =
      let now : Progress Register → ℕ → Outcome Parts = λ one end. let reg = one.parsed in and_then (in_turn (order reg) s (of_register reg) end) (ended (last_of 1 (order reg)) s) in
      let then : Progress Register → ℕ → Outcome Parts = λ one end. and_then (in_turn (part_two ∷ part_three_before ∷ part_four ∷ []) s (of_register one.parsed) end) (ended 4 s) in
      next_same 1 (register_in_job s) _ now then (as_before_ranges_in_job s none) λ one end e.
      let e' = as_before_ranges_in_job s none ∙ e in
      let no_range = unranged_in_job s none one end e' in
      rw (no_range, turn_same one.parsed (within one end e') no_range end)

  table_same : (lent : List ℤ) → table_after s lent ≡ table_before_ranges s lent
  unfolding table_after
  table_same lent = go (register_in_job s) refl ∙ rw (as_before_ranges_in_job s none)
    where
      go : (x : Reading (Progress Register)) → register_in_job s ≡ x →
          table_by s lent (next 1 x λ one end. let reg = one.parsed in in_turn (before 3 (order reg)) s (of_register reg) end) ≡ own_table lent (next 1 x λ one end. in_turn (part_two ∷ []) s (of_register one.parsed) end)
      go (refused n at) e = refl
      go (accepted one end) e = let no_range = unranged_in_job s none one end e in rw no_range (table_turn one.parsed (within one end e) no_range end lent)

  -- what the call answers of its parts

  module _ (lent : List ℤ) (supplier : ℕ) (tally : Tally) where
    numbers : (x : Outcome Parts) → outcome s ≡ x → after_job x supplier tally ≡ after_job_before_ranges x supplier tally
    numbers (refuses n part at) e = refl
    numbers (accepts p) e =
        let r = (all_read s p e).register in
        rw (cost_known p.register (within _ _ r.is) (unranged_in_job s none _ _ r.is) p.plan)

    answers : (short : Bool) → after_job (cond short (refuses 11 0 0) (outcome s)) supplier tally ≡ after_job_before_ranges (cond short (refuses 11 0 0) (outcome_before_ranges s)) supplier tally
    answers true = refl
    answers false = numbers (outcome s) refl ∙ ap (λ x. after_job_before_ranges x supplier tally) outcome_before

    pub job_before : job_call s lent supplier tally ≡ job_before_ranges s lent supplier tally
    unfolding job_answer job_table
    job_before = rw (answers (ltb (length lent) table_numbers), table_same lent)

-- ---- of no call in particular

pub kept_before_ranges : AsBeforeRanges
kept_before_ranges = record {
  range_byte = range_byte;
  says_range = λ register rest reg p. said_in_job (register ++ rest) (reached 0x1F reg) (length register) (R.register_accepted reg register rest p.conditions p.bytes);
  in_job = as_before_ranges_in_job;
  by_itself = as_before_ranges;
  outcome = outcome_before;
  part_1 = λ register reg none. (
    (λ p. let (narrow, e) = (forms_before reg register p.conditions none).0 p.bytes in (before_none reg p.conditions, narrow, e)),
    (λ (b, narrow, e). let v = with_none reg b in record { conditions = v; bytes = (forms_before reg register v none).1 (narrow, e) }),
  );
}
