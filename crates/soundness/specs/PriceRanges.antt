-- R-9, costs known within ranges: what a farm is promised of a register with ranges, as a predicate of any such calls. That a bound is one
-- over all plans that fit, with the coefficients that the plan chooses, and that our own certificate is accepted beside every plan it was
-- written for, is demand 3 (`Demand3`), `PlainWrites` and `OwnJobs` in `Writers`, and of jobs `Jobs`; of the relaxed problem, `Relaxation`.
use Rattle.std.specs.Prelude.{ℕ, ◌<◌, ◌≤◌, ◌≡◌, ◌⊎◌, ◌↔◌, Bool, true, false, T, List, [], ◌∷◌, ◌++◌, length, ℤ, pos, nat_abs, ◌-ℤ◌, ◌≤ℤ◌}
use Rattle.sets.specs.Sets.{is_member}
use Rattle.wire.specs.Number.{Bytes}
use Rattle.forms.specs.Table.{table_numbers}
use Rattle.register.specs.declared.Register.{Register}
use Rattle.register.specs.Register.{tank, minute, mask, coefficient, high, has_range}
use Rattle.register.specs.Encoding.{encode_base, encode_length, encode_windows, encode_choices, encode_rows, HasByte, SaysRange, MasksNarrow, SaysWide}
use Rattle.register.specs.Limits.{max_base, usual_day}
use Rattle.register.specs.Valid as R
use Rattle.register.specs.Answer.{register_answer}
use Rattle.register.specs.Position.{term_position}
use Rattle.register.specs.Format.{register_in_job, register_by_itself}
use Rattle.register.specs.BeforeRanges.{in_job_before_ranges, by_itself_before_ranges}
use Rattle.plan.specs.Plan.{cost}
use Rattle.plan.specs.Fits.{Fits}
use Rattle.plan.specs.Chosen.{chosen, WithinRanges, CheapestWithinRanges}
use Rattle.scheme.specs.declared.Scheme.{Scheme}
use Rattle.builder.specs.Builder.{stopped, built, build}
use Rattle.penalty.specs.Answer.{with_penalty}
use Rattle.search.specs.Answer.{search}
use Rattle.job.specs.declared.Tally.{Tally}
use Rattle.job.specs.Outcome.{Parts, outcome}
use Rattle.job.specs.Valid as J
use Rattle.soundness.specs.Calls.{RegisterCall, CostCall, PenaltyCall, CheckCall, PlainCall, BuildCall, JobCall, SearchCall}
use Rattle.soundness.specs.Parts.{Part1, Part2, Part4}
use Rattle.soundness.specs.BeforeRanges.{TermsBefore, encode_terms_before, without_ranges, cost_before_ranges, check_before_ranges, plain_before_ranges, outcome_before_ranges, job_before_ranges}
use Rattle.soundness.specs.Writers.{refused_back}
use Rattle.soundness.specs.Rows.{Misfit}

-- ---- coefficients within the ranges

-- with any coefficients within the ranges a plan costs at most so much more than any other plan that fits
abbrev pub WithinOfCheapest : ℤ → Register → (plan : ℕ) → Type 0
WithinOfCheapest gap reg plan = (c : ℕ → ℤ) → WithinRanges reg c → (other : ℕ) → Fits reg other → (cost c reg plan -ℤ cost c reg other) ≤ℤ gap

-- of no call in particular
pub record CoefficientsChosen : Type 0 where
  -- high for a term all of whose choices the plan feeds, and low for one with a choice that it does not feed
  pub of_fed : (reg : Register) (plan t : ℕ) → ((i : ℕ) → T (is_member i (mask reg t)) → T (is_member i plan)) → chosen reg plan t ≡ high reg t
  pub of_unfed : (reg : Register) (plan t i : ℕ) → T (is_member i (mask reg t)) → (T (is_member i plan) → ⊥) → chosen reg plan t ≡ coefficient reg t
  -- they are within the ranges, and no others there make the plan dearer, nor dearer than another plan by more; the low ones make no plan
  -- dearer than any others
  pub within : (reg : Register) → R.Valid reg → (plan : ℕ) → WithinRanges reg (chosen reg plan)
  pub dearest : (reg : Register) (plan : ℕ) (c : ℕ → ℤ) → WithinRanges reg c → cost c reg plan ≤ℤ cost (chosen reg plan) reg plan
  pub worst : (reg : Register) (plan other : ℕ) (c : ℕ → ℤ) → WithinRanges reg c →
      (cost c reg plan -ℤ cost c reg other) ≤ℤ (cost (chosen reg plan) reg plan -ℤ cost (chosen reg plan) reg other)
  pub lowest : (reg : Register) (plan : ℕ) (c : ℕ → ℤ) → WithinRanges reg c → cost (coefficient reg) reg plan ≤ℤ cost c reg plan
  -- where the two coefficients of each term are one, as where no term has a range, the plan makes no difference
  pub one : (reg : Register) → ((t : ℕ) → t < reg.terms → high reg t ≡ coefficient reg t) → (plan t : ℕ) → t < reg.terms → chosen reg plan t ≡ coefficient reg t
  -- without a range the plan chooses nothing, and what is said of the chosen coefficients is said of the low ones
  pub known : (reg : Register) → R.Valid reg → has_range reg ≡ false → (plan : ℕ) → chosen reg plan ≡ coefficient reg
  -- the scheme that is built looks at choices and masks alone, and the penalty form and the search at the low coefficients: highs, and
  -- whether terms have ranges, make no difference to any of them
  pub builder : (reg : Register) (lows highs : List ℤ) (ranged : List Bool) → build (record reg { coefficients = lows; highs = highs; ranged = ranged }) ≡ build reg
  pub penalty_form : (reg : Register) (highs : List ℤ) (ranged : List Bool) (sch : Scheme) (lent : List ℤ) →
      with_penalty (record reg { highs = highs; ranged = ranged }) sch lent ≡ with_penalty reg sch lent
  pub searched : (reg : Register) (highs : List ℤ) (ranged : List Bool) →
      let other = record reg { highs = highs; ranged = ranged } in search (coefficient other) other ≡ search (coefficient reg) reg

-- ---- terms of either kind

-- part 1 of two registers that are the same but for the coefficients of their terms and which of the terms have ranges
pub record OfEitherKind (register other : List ℕ) : Type 0 where
  pub reg : Register
  pub lows : List ℤ
  pub highs : List ℤ
  pub ranged : List Bool
  pub part_1 : Part1 register reg
  pub part_1_other : Part1 other (record reg { coefficients = lows; highs = highs; ranged = ranged })

-- what `builder`, `penalty_form` and `searched` above come to for the bytes that calls are lent
pub record KindsAlike (build_call : BuildCall) (penalty_call : PenaltyCall) (search_call : SearchCall) : Type 0 where
  -- the builder answers the two alike, and writes the same bytes for both
  pub builds : (register other : List ℕ) (k : OfEitherKind register other) (sch : Scheme) → build k.reg ≡ built sch → (lent : List ℕ) →
      build_call register lent ≡ build_call other lent
  -- or it refuses both 10, at the command of the same term in the bytes of each
  pub stops : (register other : List ℕ) (k : OfEitherKind register other) (term : ℕ) → build k.reg ≡ stopped term → (lent : List ℕ) →
      (build_call register lent ≡ refused_back 10 1 (term_position register term) lent) × (build_call other lent ≡ refused_back 10 1 (term_position other term) lent)
  -- where the low coefficients are the same too, so is what the penalty call answers and leaves in the table, whatever part 2 is, and what the
  -- search answers
  pub penalty_alike : (register other : List ℕ) (k : OfEitherKind register other) → k.lows ≡ k.reg.coefficients → (scheme : List ℕ) (table : List ℤ) →
      penalty_call register scheme table ≡ penalty_call other scheme table
  pub search_alike : (register other : List ℕ) (k : OfEitherKind register other) → k.lows ≡ k.reg.coefficients → (limit : ℕ) → search_call register limit ≡ search_call other limit

-- ---- the promises

-- parts 1 and 2 of a register with a range, and a plan of its choices that does not fit, whatever follows it
pub record MisfitChoosing (register scheme plan : List ℕ) : Type 0 where
  pub sch : Scheme
  pub misfit : Misfit register plan
  pub ranged : has_range misfit.reg ≡ true
  pub part_2 : Part2 misfit.reg scheme sch

pub record RangesKept (register_call : RegisterCall) (cost_call : CostCall) (check_call : CheckCall) (plain_call : PlainCall) (job_call : JobCall) : Type 0 where
  -- an accepted register has a range just where its bytes say one
  pub says_range : (register : List ℕ) → (register_call register).number ≡ 0 → SaysRange register ↔ (has_range (register_call register).register ≡ true)
  -- the bound of an accepted certificate is at most what the cost call answers for any plan, though that is of the coefficients that this
  -- plan chooses
  pub costed : (register scheme certificate plan other : List ℕ) (table : List ℤ) → (check_call register scheme certificate plan table).0.number ≡ 0 →
      (cost_call register other).number ≡ 0 → (check_call register scheme certificate plan table).0.bound ≤ℤ (cost_call register other).cost
  -- where it is what the cost call answers for the plan beside it, this plan is the cheapest that fits, whatever the coefficients are
  pub cheapest : (register scheme certificate plan : List ℕ) (table : List ℤ) (reg : Register) (fed : ℕ) → Part1 register reg → Part4 reg plan fed →
      (check_call register scheme certificate plan table).0.number ≡ 0 → (check_call register scheme certificate plan table).0.bound ≡ (cost_call register plan).cost →
      CheapestWithinRanges reg fed
  -- and so is the plan of a job whose gap is 0
  pub cheapest_in_job : (job : List ℕ) (table : List ℤ) (supplier : ℕ) (tally : Tally) (parts : Parts) → J.Valid parts → J.Encodes parts job →
      (job_call job table supplier tally).0.number ≡ 0 → (job_call job table supplier tally).0.gap ≡ pos 0 → CheapestWithinRanges parts.register parts.plan
  -- and where it is not, it costs at most the gap more than the cheapest, whatever they are
  pub within_gap : (job : List ℕ) (table : List ℤ) (supplier : ℕ) (tally : Tally) (parts : Parts) → J.Valid parts → J.Encodes parts job →
      (job_call job table supplier tally).0.number ≡ 0 → WithinOfCheapest (job_call job table supplier tally).0.gap parts.register parts.plan
  -- a plan that does not fit the rows of a register with a range is refused 15 by the check and for our own certificate too, at its command,
  -- whatever the certificate is, and whatever follows the plan
  pub misfit_checked : (register scheme certificate plan : List ℕ) (table : List ℤ) → MisfitChoosing register scheme plan → table_numbers ≤ length table →
      check_call register scheme certificate plan table ≡ (record { number = 15; part = 4; position = 0; bound = pos 0 }, table)
  pub misfit_own : (register scheme plan lent : List ℕ) → MisfitChoosing register scheme plan → plain_call register scheme plan lent ≡ refused_back 15 4 0 lent
  -- and nothing else is
  pub only_misfit_checked : (register scheme certificate plan : List ℕ) (table : List ℤ) → Bytes register → Bytes scheme → Bytes certificate → Bytes plan →
      (check_call register scheme certificate plan table).0.number ≡ 15 → MisfitChoosing register scheme plan
  pub only_misfit_own : (register scheme plan lent : List ℕ) → Bytes register → Bytes scheme → Bytes plan →
      (plain_call register scheme plan lent).0.number ≡ 15 → MisfitChoosing register scheme plan
  -- of a register without a range these two do not look at the plan
  pub plan_unread : (register scheme certificate plan other : List ℕ) (table : List ℤ) → has_range (register_call register).register ≡ false →
      check_call register scheme certificate plan table ≡ check_call register scheme certificate other table
  pub plan_unread_own : (register scheme plan other lent : List ℕ) → has_range (register_call register).register ≡ false → plain_call register scheme plan lent ≡ plain_call register scheme other lent
  -- bytes that say no range are answered as they were, accepted or refused, with no range, and with every plan; but for `15`, `41`,
  -- more than 32 choices and `23`, which came later and are read as today
  pub register_as_before : (register : List ℕ) → (SaysRange register → ⊥) →
      (register_call register ≡ register_answer (by_itself_before_ranges register)) × (without_ranges (register_call register).register ≡ (register_call register).register)
  pub cost_as_before : (register plan : List ℕ) → (SaysRange register → ⊥) → cost_call register plan ≡ cost_before_ranges register plan
  pub check_as_before : (register scheme certificate plan : List ℕ) (table : List ℤ) → (SaysRange register → ⊥) →
      check_call register scheme certificate plan table ≡ check_before_ranges register scheme certificate table
  pub plain_as_before : (register scheme plan lent : List ℕ) → (SaysRange register → ⊥) → plain_call register scheme plan lent ≡ plain_before_ranges register scheme lent
  pub job_as_before : (job : List ℕ) (table : List ℤ) (supplier : ℕ) (tally : Tally) → (SaysRange job → ⊥) →
      job_call job table supplier tally ≡ job_before_ranges job table supplier tally

-- ---- without ranges

-- the conditions on a register before there were ranges
pub record ValidBeforeRanges (r : Register) : Type 0 where
  pub base : nat_abs r.base ≤ max_base
  pub choices : R.Choices r.day_length r.choices r.tanks r.minutes
  pub terms : TermsBefore r.choices r.terms r.masks r.coefficients
  pub windows : R.Windows r.day_length r.windows r.window_tanks r.window_froms r.window_tos
  pub rows : R.Rows r.choices r.rows r.row_totals r.row_entries
  pub may_feed : (i : ℕ) → i < r.choices → R.MayFeed r.windows (R.window_at r) (tank r i) (minute r i)
  pub day_length : R.DayLength r.day_length
  pub some_choice : 1 ≤ r.choices

-- and its bytes: `10`, `18`, which may be missing where the length is the usual one, each `13`, each `11`, each `14`, each `12`, `1F`. They are
-- those of the register where every mask is below 2^32

abbrev pub after_before_ranges : List ℕ → Register → List ℕ
after_before_ranges header r = header ++ encode_windows r ++ encode_choices r ++ encode_rows r ++ encode_terms_before r ++ (0x1F ∷ [])

abbrev pub EncodesBeforeRanges : Register → List ℕ → Type 0
EncodesBeforeRanges r s =
    (s ≡ after_before_ranges (encode_base r.base ++ encode_length r.day_length) r) ⊎ ((r.day_length ≡ usual_day) × (s ≡ after_before_ranges (encode_base r.base) r))

-- A register that says no range is what it was, of no call in particular: each call reads part 1 at the front of a job or by itself. `15`, `41`
-- and more than 32 choices, which came later, are read as today.
pub record AsBeforeRanges : Type 0 where
  -- bytes that say a range have a byte `16`: all others are as before
  pub range_byte : (s : List ℕ) → SaysRange s → HasByte 0x16 s
  -- and where part 1 is right, by itself or whatever stands behind it, a range is said just where there is one
  pub says_range : (register rest : List ℕ) (reg : Register) → Part1 register reg → SaysRange (register ++ rest) ↔ (has_range reg ≡ true)
  pub in_job : (s : List ℕ) → (SaysRange s → ⊥) → register_in_job s ≡ in_job_before_ranges s
  pub by_itself : (s : List ℕ) → (SaysRange s → ⊥) → register_by_itself s ≡ by_itself_before_ranges s
  pub outcome : (s : List ℕ) → (SaysRange s → ⊥) → outcome s ≡ outcome_before_ranges s
  pub part_1 : (register : List ℕ) (reg : Register) → (SaysWide register → ⊥) →
      Part1 register (without_ranges reg) ↔ (ValidBeforeRanges reg × MasksNarrow reg × EncodesBeforeRanges reg register)
