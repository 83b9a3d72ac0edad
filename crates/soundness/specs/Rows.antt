-- R-5, exactly so many feedings: what a farm is promised of rows, as a predicate of any such calls. A plan that a cost call or a job
-- accepts fits them; one that does not is refused 15, and nothing else is; a `3B` adds a form that is 0 where the plan fits. What the
-- search, the bound and the least values say of plans that fit stands in `Search`, `Jobs` and `Demand3`; the other calls take a register
-- just where the register call does.
use Rattle.std.specs.Prelude.{ℕ, suc, ◌^◌, ◌<◌, ◌≤◌, ◌≡◌, ◌⊎◌, ◌↔◌, true, List, [], ◌∷◌, ◌++◌, length, get_or, ℤ, pos, neg_ℤ, nat_abs, ◌-ℤ◌, ◌*ℤ◌}
use Rattle.integers.specs.Integer.{bit}
use Rattle.integers.specs.Lists.{All}
use Rattle.integers.specs.Sum.{sum_below}
use Rattle.wire.specs.Number.{Bytes}
use Rattle.forms.specs.Form.{place, value, entry}
use Rattle.forms.specs.Table.{table_numbers}
use Rattle.register.specs.declared.Register.{Register}
use Rattle.register.specs.Limits.{max_base, usual_day}
use Rattle.register.specs.Register.{tank, minute, row_total, row_entry, has_range}
use Rattle.register.specs.Valid as R
use Rattle.register.specs.Valid.{DayLength, Choices, Windows, MayFeed, window_at}
use Rattle.register.specs.Encoding.{Encodes, encode_base, encode_length, encode_windows, encode_choices, encode_register, HasByte, SaysRow, SaysRange, MasksNarrow, SaysWide}
use Rattle.register.specs.Answer.{register_answer}
use Rattle.register.specs.Format.{register_in_job, register_by_itself}
use Rattle.register.specs.BeforeRows.{in_job_before_rows, by_itself_before_rows}
use Rattle.plan.specs.declared.CostAnswer.{CostAnswer}
use Rattle.plan.specs.Plan.{cost}
use Rattle.plan.specs.Fits.{Fits, fed_sum}
use Rattle.plan.specs.Chosen.{chosen}
use Rattle.plan.specs.Format.{plan_in_job, plan_by_itself}
use Rattle.plan.specs.BeforeRows.{plan_in_job_before_rows, plan_by_itself_before_rows}
use Rattle.plan.specs.Encoding as PE
use Rattle.scheme.specs.declared.Scheme.{Scheme}
use Rattle.scheme.specs.Filling.{Filling, factor, induced}
use Rattle.scheme.specs.Function.{g}
use Rattle.certificate.specs.Limits.{max_scale, max_target, max_row_multiplier}
use Rattle.certificate.specs.Certificate.{Multiplier, Certificate}
use Rattle.certificate.specs.Rules.{rule_of}
use Rattle.certificate.specs.RowForm.{row_form_of}
use Rattle.certificate.specs.Encoding.{encode_scale, encode_multiplier}
use Rattle.penalty.specs.Carried.{carried}
use Rattle.penalty.specs.Answer.{with_penalty}
use Rattle.plain.specs.Plain.{plain}
use Rattle.bound.specs.declared.CheckAnswer.{CheckAnswer}
use Rattle.text.specs.Text.{HasLine}
use Rattle.job.specs.declared.Tally.{Tally}
use Rattle.job.specs.declared.JobAnswer.{JobAnswer}
use Rattle.job.specs.Tally.{suppliers, with_refused, moved}
use Rattle.listing.specs.Listing.{fed_line}
use Rattle.soundness.specs.Calls.{RegisterCall, CostCall, CheckCall, JobCall, ListingCall}
use Rattle.soundness.specs.Parts.{Part1, Part2, Part3, Part4, Choosing}
use Rattle.soundness.specs.Acceptance.{register_accepted, cost_accepted}
use Rattle.soundness.specs.Refusals.{Before3, Before4}
use Rattle.soundness.specs.BeforeRanges.{TermsBefore, encode_terms_before, without_ranges}
use Rattle.soundness.specs.Jobs.{Accepted, Listed, shown, AcceptedJob}
use Rattle.soundness.specs.Windows.{without_rows}

-- ---- an accepted register

-- the rows by themselves: count, ranges, and entries past the choices
abbrev pub RowsRight : Register → Type 0
RowsRight r = R.Rows r.choices r.rows r.row_totals r.row_entries

-- ---- an accepted plan

-- row k counts the feedings of a tank: its entry is 1 for each choice of the tank and 0 for every other. Choices from 32 on are in no row,
-- so a row counts no tank that has one of them
pub record Counts (reg : Register) (k t : ℕ) : Type 0 where
  pub there : k < reg.rows
  pub own : (i : ℕ) → i < reg.choices → tank reg i ≡ t → row_entry reg k i ≡ pos 1
  pub others : (i : ℕ) → i < reg.choices → (tank reg i ≡ t → ⊥) → row_entry reg k i ≡ pos 0

-- a text has exactly n `F` lines of a tank: the minutes of those that it has, rising, are n
pub record Exactly (n t : ℕ) (text : List ℕ) : Type 0 where
  pub minutes : List ℕ
  pub many : length minutes ≡ n
  pub rising : (j : ℕ) → suc j < length minutes → get_or minutes j 0 < get_or minutes (suc j) 0
  pub lines : (m : ℕ) → HasLine (fed_line t m) text ↔ ((j : ℕ) × (j < length minutes) × (get_or minutes j 0 ≡ m))

-- of an accepted job
pub record JobFits (job_call : JobCall) (listing_call : ListingCall) (job : List ℕ) (table : List ℤ) (supplier : ℕ) (tally : Tally) : Type 0 where
  pub accepted : AcceptedJob job_call listing_call job table supplier tally
  -- its plan fits the rows
  pub fits : Fits accepted.parts.register accepted.parts.plan
  -- where the job says no row its register has none, so that each plan fits; and only there
  pub none_said : (SaysRow job → ⊥) → accepted.parts.register.rows ≡ 0
  pub says_row : SaysRow job ↔ (1 ≤ accepted.parts.register.rows)
  -- where a row counts the feedings of a tank, a farm reads exactly so many `F` lines of the tank as the row's total
  pub exactly : (k t : ℕ) → Counts accepted.parts.register k t →
      (lent : List ℤ) (buffer : List ℕ) → Listed job_call listing_call job lent buffer →
      (n : ℕ) × (row_total accepted.parts.register k ≡ pos n) × Exactly n t (shown job_call listing_call job lent buffer)

-- ---- a plan that is refused

-- part 1, and behind it a plan of its choices that does not fit, whatever follows
pub record Misfit (register plan : List ℕ) : Type 0 where
  pub reg : Register
  pub part_1 : Part1 register reg
  pub fed : ℕ
  pub inside : fed < 2 ^ reg.choices
  pub misfit : Fits reg fed → ⊥
  pub front : List ℕ
  pub encodes : PE.Encodes reg fed front
  pub rest : List ℕ
  pub bytes : plan ≡ front ++ rest

-- in a job whose register has no range: parts 1 to 3, and at a position such a plan
pub record MisfitLast (job : List ℕ) (position : ℕ) : Type 0 where
  pub register : List ℕ
  pub scheme : List ℕ
  pub certificate : List ℕ
  pub before : Before4 register scheme certificate
  pub fed : ℕ
  pub inside : fed < 2 ^ before.reg.choices
  pub misfit : Fits before.reg fed → ⊥
  pub front : List ℕ
  pub encodes : PE.Encodes before.reg fed front
  pub rest : List ℕ
  pub bytes : job ≡ ((register ++ scheme) ++ certificate) ++ (front ++ rest)
  pub position_is : position ≡ length ((register ++ scheme) ++ certificate)

-- in one whose register has a range: parts 1 and 2, and at a position such a plan
pub record MisfitFirst (job : List ℕ) (position : ℕ) : Type 0 where
  pub register : List ℕ
  pub scheme : List ℕ
  pub before : Before3 register scheme
  pub ranged : has_range before.reg ≡ true
  pub fed : ℕ
  pub inside : fed < 2 ^ before.reg.choices
  pub misfit : Fits before.reg fed → ⊥
  pub front : List ℕ
  pub encodes : PE.Encodes before.reg fed front
  pub rest : List ℕ
  pub bytes : job ≡ (register ++ scheme) ++ (front ++ rest)
  pub position_is : position ≡ length (register ++ scheme)

abbrev pub MisfitJob : List ℕ → ℕ → Type 0
MisfitJob job position = MisfitLast job position ⊎ MisfitFirst job position

-- at the plan's command, which is the first of part 4
abbrev pub plan_refused : ℕ → CostAnswer
plan_refused number = record { number = number; part = 4; position = 0; cost = pos 0 }

abbrev pub job_misfit : ℕ → ℕ → Tally → JobAnswer
job_misfit position supplier tally =
    record { number = 15; part = 4; position = position; bound = pos 0; cost = pos 0; gap = pos 0; tally = moved with_refused supplier tally }

-- ---- a multiplier `3B`

-- of a row and a variable
abbrev pub row_multiplier : (k i : ℕ) → ℤ → Multiplier
row_multiplier k i m = record { kind = 0x3B; names = k ∷ i ∷ []; m = m }

-- a certificate whose first multiplier is a `3B` of a row that is not there, its scale, target and m being in their ranges
pub record RowAbsent (reg : Register) (certificate : List ℕ) : Type 0 where
  pub scale : ℕ
  pub target : ℤ
  pub row : ℕ
  pub variable : ℕ
  pub m : ℤ
  pub rest : List ℕ
  pub scale_above : 1 ≤ scale
  pub scale_within : scale ≤ max_scale
  pub target_within : nat_abs target ≤ max_target
  pub m_within : nat_abs m ≤ max_row_multiplier
  pub absent : reg.rows ≤ row
  pub row_byte : row < 2 ^ 8
  pub variable_byte : variable < 2 ^ 8
  pub bytes : certificate ≡ encode_scale scale target ++ (encode_multiplier (row_multiplier row variable m) ++ rest)

-- at its command, which stands behind `30`
abbrev pub row_absent : CheckAnswer
row_absent = record { number = 5; part = 3; position = 13; bound = pos 0 }

-- every row that a certificate names is there
abbrev pub NamesRows : Register → Certificate → Type 0
NamesRows reg cert = All (λ t. t.kind ≡ 0x3B → get_or t.names 0 0 < reg.rows) cert.multipliers

-- the numbers of its table, row k and variable i: the entry of choice j where i and j meet, twice where j is i; less the row's total
-- where i and the constant meet; 0 elsewhere
pub record RowTable (reg : Register) (k i : ℕ) : Type 0 where
  pub constant : entry (row_form_of reg k i) 0 (place i) ≡ neg_ℤ (row_total reg k)
  pub product : (j : ℕ) → j < reg.choices → (i ≡ j → ⊥) → entry (row_form_of reg k i) (place i) (place j) ≡ row_entry reg k j
  pub square : i < reg.choices → entry (row_form_of reg k i) (place i) (place i) ≡ row_entry reg k i *ℤ pos 2
  pub past : (j : ℕ) → reg.choices ≤ j → entry (row_form_of reg k i) (place i) (place j) ≡ pos 0
  pub beside : (x y : ℕ) → (x ≡ place i → ⊥) → (y ≡ place i → ⊥) → entry (row_form_of reg k i) x y ≡ pos 0

-- what is said of its form, of no call in particular
pub record RowForms : Type 0 where
  -- it is a null form, which is added m times
  pub form : (reg : Register) (sch : Scheme) (k i : ℕ) (m : ℤ) →
      let rule = rule_of reg sch (row_multiplier k i m) in
      (rule.form ≡ row_form_of reg k i) × (rule.null ≡ true)
  -- its value at any factors y of the places: that of the variable times (the sum of the entries, each times that of its choice, less
  -- the total times that of the constant)
  pub at_list : (reg : Register) (k i : ℕ) (y : ℕ → ℤ) →
      value y (row_form_of reg k i) ≡ y (place i) *ℤ (sum_below reg.choices (λ j. row_entry reg k j *ℤ y (place j)) -ℤ row_total reg k *ℤ y 0)
  -- at a filling: the variable times (row sum − b)
  pub at_filling : (reg : Register) (k i : ℕ) (z : Filling) →
      value (factor z) (row_form_of reg k i) ≡ bit (z i) *ℤ (fed_sum reg.choices (row_entry reg k) (carried reg.choices z) -ℤ row_total reg k)
  -- so it is 0 at each filling whose choices fit, among them the filling of each plan that fits
  pub vanishes : (reg : Register) (k i : ℕ) → k < reg.rows → (z : Filling) → Fits reg (carried reg.choices z) → value (factor z) (row_form_of reg k i) ≡ pos 0
  pub vanishes_plan : (reg : Register) (sch : Scheme) (k i : ℕ) → k < reg.rows → (plan : ℕ) → Fits reg plan →
      value (factor (induced reg.choices sch plan)) (row_form_of reg k i) ≡ pos 0
  pub in_table : (reg : Register) (k i : ℕ) → RowTable reg k i

-- ---- what rows leave as it is

-- rows change neither what a plan costs, nor g, the penalty form in a table and our own certificate, of no call in particular; c t is the
-- coefficient of term t
pub record RowsApart : Type 0 where
  pub costs : (c : ℕ → ℤ) (reg : Register) (plan : ℕ) → cost c (without_rows reg) plan ≡ cost c reg plan
  pub function : (c : ℕ → ℤ) (reg : Register) (sch : Scheme) → g c (without_rows reg) sch ≡ g c reg sch
  pub penalty_form : (reg : Register) (sch : Scheme) (lent : List ℤ) → with_penalty (without_rows reg) sch lent ≡ with_penalty reg sch lent
  pub own_certificate : (c : ℕ → ℤ) (reg : Register) (sch : Scheme) → plain c (without_rows reg) sch ≡ plain c reg sch

-- ---- without rows

-- the conditions on a register before there were rows, which was before there were ranges
pub record ValidBeforeRows (r : Register) : Type 0 where
  pub base : nat_abs r.base ≤ max_base
  pub choices : Choices r.day_length r.choices r.tanks r.minutes
  pub terms : TermsBefore r.choices r.terms r.masks r.coefficients
  pub windows : Windows r.day_length r.windows r.window_tanks r.window_froms r.window_tos
  pub may_feed : (i : ℕ) → i < r.choices → MayFeed r.windows (window_at r) (tank r i) (minute r i)
  pub day_length : DayLength r.day_length
  pub some_choice : 1 ≤ r.choices

-- and its bytes: `10`, `18`, which may be missing where the length is the usual one, each `13`, each `11`, each `12`, `1F`. They are those of
-- the register where every mask is below 2^32

abbrev pub after_before_rows : List ℕ → Register → List ℕ
after_before_rows header r = header ++ encode_windows r ++ encode_choices r ++ encode_terms_before r ++ (0x1F ∷ [])

abbrev pub EncodesBeforeRows : Register → List ℕ → Type 0
EncodesBeforeRows r s =
    (s ≡ after_before_rows (encode_base r.base ++ encode_length r.day_length) r) ⊎ ((r.day_length ≡ usual_day) × (s ≡ after_before_rows (encode_base r.base) r))

-- ---- the promises

pub record RowsKept (register_call : RegisterCall) (cost_call : CostCall) (check_call : CheckCall) (job_call : JobCall) (listing_call : ListingCall) : Type 0 where
  -- the rows of an accepted register are right
  pub of_register : (register : List ℕ) → (register_call register).number ≡ 0 → RowsRight (register_call register).register
  -- rows refuse no register more: with its rows it is accepted just where it is without them and the rows by themselves are right
  pub nothing_more : (register : List ℕ) (reg : Register) → Encodes reg register → (register_call register ≡ register_accepted reg)
      ↔ ((register_call (encode_register (without_rows reg)) ≡ register_accepted (without_rows reg)) × RowsRight reg)
  -- a plan that is accepted for a cost fits them
  pub of_plan : (register plan : List ℕ) → Bytes plan → (cost_call register plan).number ≡ 0 →
      ((register_call register).number ≡ 0) × (fed : ℕ) × Part4 (register_call register).register plan fed × Fits (register_call register).register fed
  -- and so does the plan of an accepted job
  pub of_job : (job : List ℕ) (table : List ℤ) (supplier : ℕ) (tally : Tally) → Accepted job_call listing_call job table supplier tally → JobFits job_call listing_call job table supplier tally
  -- a plan whose choices are all there, and which does not fit, is refused 15 at its command, whatever follows it
  pub misfit : (register plan : List ℕ) → Misfit register plan → cost_call register plan ≡ plan_refused 15
  pub misfit_in_job : (job : List ℕ) (table : List ℤ) (supplier : ℕ) (tally : Tally) (position : ℕ) → supplier < suppliers → table_numbers ≤ length table →
      MisfitJob job position → (job_call job table supplier tally).0 ≡ job_misfit position supplier tally
  -- and nothing else is
  pub only_misfit : (register plan : List ℕ) → Bytes register → Bytes plan → (cost_call register plan).number ≡ 15 → Misfit register plan
  pub only_misfit_in_job : (job : List ℕ) (table : List ℤ) (supplier : ℕ) (tally : Tally) → Bytes job → table_numbers ≤ length table →
      (job_call job table supplier tally).0.number ≡ 15 → MisfitJob job (job_call job table supplier tally).0.position
  -- a choice that is not there is refused 5, whether or not the others fit
  pub names_first : (register front rest : List ℕ) (reg : Register) (fed : ℕ) → Part1 register reg → 2 ^ reg.choices ≤ fed → fed < 2 ^ 64 → PE.Encodes reg fed front →
      cost_call register (front ++ rest) ≡ plan_refused 5
  -- a `3B` of a row that is not there is refused 5, and an accepted certificate has none
  pub row_absent : (register scheme certificate plan : List ℕ) (reg : Register) (sch : Scheme) (fed : ℕ) (table : List ℤ) → table_numbers ≤ length table →
      Part1 register reg → Part2 reg scheme sch → Choosing reg plan fed → RowAbsent reg certificate → (check_call register scheme certificate plan table).0 ≡ row_absent
  pub rows_named : (c : ℕ → ℤ) (reg : Register) (sch : Scheme) (certificate : List ℕ) (cert : Certificate) → Part3 c reg sch certificate cert → NamesRows reg cert
  -- without rows every plan fits, as where the bytes say no row
  pub every_plan : (reg : Register) → reg.rows ≡ 0 → (plan : ℕ) → Fits reg plan
  pub none_said : (register : List ℕ) → (SaysRow register → ⊥) → (register_call register).register.rows ≡ 0
  -- and an accepted register has rows just where its bytes say one
  pub says_row : (register : List ℕ) → (register_call register).number ≡ 0 → SaysRow register ↔ (1 ≤ (register_call register).register.rows)
  -- and every set of the choices is accepted for its cost, as before there were rows
  pub cost_every : (register plan : List ℕ) (reg : Register) (fed : ℕ) → Part1 register reg → reg.rows ≡ 0 → fed < 2 ^ reg.choices → PE.Encodes reg fed plan →
      cost_call register plan ≡ cost_accepted (cost (chosen reg fed) reg fed)
  -- bytes that say no row, and no range, which came later, are answered as they were, accepted or refused, with no row; but for `15` and more
  -- than 32 choices, which came later too and are read as today
  pub read_as_before : (register : List ℕ) → (SaysRow register → ⊥) → (SaysRange register → ⊥) →
      (register_call register ≡ register_answer (by_itself_before_rows register)) × (without_rows (register_call register).register ≡ (register_call register).register)

-- A register that says no row and no range is what it was, of no call in particular: each call reads part 1 at the front of a job or by itself, and
-- what is said of part 1, and of part 4 with such a register, has its earlier form. `15`, `41` and more than 32 choices, which came later too,
-- are read as today.
pub record AsBeforeRows : Type 0 where
  -- bytes that say a row have a byte `14`: all others are as before
  pub row_byte : (s : List ℕ) → SaysRow s → HasByte 0x14 s
  -- and where part 1 is right, by itself or whatever stands behind it, a row is said just where there is one
  pub says_row : (register rest : List ℕ) (reg : Register) → Part1 register reg → SaysRow (register ++ rest) ↔ (1 ≤ reg.rows)
  pub in_job : (s : List ℕ) → (SaysRow s → ⊥) → (SaysRange s → ⊥) → register_in_job s ≡ in_job_before_rows s
  pub by_itself : (s : List ℕ) → (SaysRow s → ⊥) → (SaysRange s → ⊥) → register_by_itself s ≡ by_itself_before_rows s
  pub part_1 : (register : List ℕ) (reg : Register) → (SaysWide register → ⊥) →
      Part1 register (without_rows (without_ranges reg)) ↔ (ValidBeforeRows reg × MasksNarrow reg × EncodesBeforeRows reg register)
  -- with a register without rows part 4 is read as it was, accepted or refused, but for `41`, which came later
  pub part_4_in_job : (reg : Register) → reg.rows ≡ 0 → (s : List ℕ) → plan_in_job reg s ≡ plan_in_job_before_rows reg s
  pub part_4_by_itself : (reg : Register) → reg.rows ≡ 0 → (s : List ℕ) → plan_by_itself reg s ≡ plan_by_itself_before_rows reg s
  -- part 4 of a register without rows: each choice that is fed is one of the register's, and nothing more is asked of the plan
  pub part_4 : (reg : Register) (plan : List ℕ) (fed : ℕ) → reg.rows ≡ 0 → Part4 reg plan fed ↔ ((fed < 2 ^ reg.choices) × PE.Encodes reg fed plan)
