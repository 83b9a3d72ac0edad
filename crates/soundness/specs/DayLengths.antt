-- R-4, the day's length: what a farm is promised of it, as a predicate of any such calls. No minute that the day does not have is
-- accepted, and none that it has is out of range. The other calls take a register just where the register call does: `Acceptance`,
-- `Refusals` and `Writers` say it of parts that meet their conditions.
use Rattle.std.specs.Prelude.{ℕ, Bool, ◌^◌, ◌<◌, ◌≤◌, ◌≡◌, ◌↔◌, List, [], ◌∷◌, ◌++◌, ℤ, pos, nat_abs}
use Rattle.integers.specs.Lists.{Column, Table}
use Rattle.wire.specs.Number.{Bytes}
use Rattle.register.specs.declared.Register.{Register}
use Rattle.register.specs.declared.RegisterAnswer.{RegisterAnswer}
use Rattle.register.specs.Limits.{max_choices, max_windows, max_base, max_tank, usual_day, long_day}
use Rattle.register.specs.Register.{tank, minute, window_from, window_to, set_length}
use Rattle.register.specs.Valid.{DayLength, Before, MayFeed, window_at, Valid}
use Rattle.register.specs.Encoding.{Encodes, encode_base, encode_length, encode_choice, encode_windows, encode_choices, encode_with_length, encode_without_length, encode_register, HasByte, SaysLength, length_in, SaysRow, SaysRange, MasksNarrow, SaysWide, encode_after}
use Rattle.register.specs.Ranges.{OutOfRange}
use Rattle.register.specs.Format.{register_in_job, register_by_itself}
use Rattle.register.specs.Answer.{refused_answer, register_answer}
use Rattle.register.specs.BeforeLengths.{max_minute_before, max_to_before, in_job_before_lengths, by_itself_before_lengths}
use Rattle.text.specs.Text.{HasLine}
use Rattle.job.specs.declared.Tally.{Tally}
use Rattle.listing.specs.Listing.{fed_line}
use Rattle.soundness.specs.BeforeRanges.{TermsBefore, encode_terms_before, without_ranges}
use Rattle.soundness.specs.Calls.{RegisterCall, CostCall, JobCall, ListingCall}
use Rattle.soundness.specs.Parts.{Part1, Part4}
use Rattle.soundness.specs.Acceptance.{register_accepted}
use Rattle.soundness.specs.Jobs.{Accepted, Listed, shown, AcceptedJob}
use Rattle.soundness.specs.Windows.{Feeding, without_rows}

-- ---- what is accepted

-- on a day of this length each choice's minute and each window's "from" is a minute of the day, and no window ends after the day
pub record OfDay (length : ℕ) (reg : Register) : Type 0 where
  pub minutes : (i : ℕ) → i < reg.choices → minute reg i < length
  pub froms : (j : ℕ) → j < reg.windows → window_from reg j < length
  pub tos : (j : ℕ) → j < reg.windows → window_to reg j ≤ length

-- a register has the length that its bytes say, which is one of the three, and only minutes of such a day
pub record KeepsLength (s : List ℕ) (reg : Register) : Type 0 where
  pub said : reg.day_length ≡ length_in s
  pub one_of_three : DayLength reg.day_length
  pub of_day : OfDay reg.day_length reg

-- a plan feeds only in minutes of the day
abbrev pub FeedsOfDay : Register → (plan : ℕ) → Type 0
FeedsOfDay reg plan = (t m : ℕ) → Feeding reg plan t m → m < reg.day_length

-- of an accepted job
pub record JobOfDay (job_call : JobCall) (listing_call : ListingCall) (job : List ℕ) (table : List ℤ) (supplier : ℕ) (tally : Tally) : Type 0 where
  pub accepted : AcceptedJob job_call listing_call job table supplier tally
  pub keeps : KeepsLength job accepted.parts.register
  pub feeds : FeedsOfDay accepted.parts.register accepted.parts.plan
  -- each `F` line that a farm reads has a minute of the day
  pub lines : (lent : List ℤ) (buffer : List ℕ) → Listed job_call listing_call job lent buffer →
      (t m : ℕ) → HasLine (fed_line t m) (shown job_call listing_call job lent buffer) → m < length_in job

-- ---- where no length is said

-- it is the usual one where the register is accepted, and 0 where it is refused
pub record UsualDay (answer : RegisterAnswer) : Type 0 where
  pub accepted : answer.number ≡ 0 → answer.register.day_length ≡ usual_day
  pub refused : (answer.number ≡ 0 → ⊥) → answer.register.day_length ≡ 0

-- the conditions on a register before there were day lengths, which was before there were rows and ranges: on the numbers of a choice and
-- of a window, and on the whole

pub record ChoiceBefore (t m : ℕ) : Type 0 where
  pub tank_above : 1 ≤ t
  pub tank_within : t ≤ max_tank
  pub minute_within : m ≤ max_minute_before

pub record WindowBefore (t from to : ℕ) : Type 0 where
  pub tank_above : 1 ≤ t
  pub tank_within : t ≤ max_tank
  pub from_within : from ≤ max_minute_before
  pub to_above : 1 ≤ to
  pub to_within : to ≤ max_to_before
  pub ordered : from < to

pub record ValidBeforeLengths (r : Register) : Type 0 where
  pub base : nat_abs r.base ≤ max_base
  pub tanks : Column max_choices r.choices 0 r.tanks
  pub minutes : Column max_choices r.choices 0 r.minutes
  pub choices : Table max_choices r.choices (λ i. (tank r i, minute r i)) (λ c. ChoiceBefore c.0 c.1) Before
  pub terms : TermsBefore r.choices r.terms r.masks r.coefficients
  pub window_tanks : Column max_windows r.windows 0 r.window_tanks
  pub window_froms : Column max_windows r.windows 0 r.window_froms
  pub window_tos : Column max_windows r.windows 0 r.window_tos
  pub windows : Table max_windows r.windows (window_at r) (λ c. WindowBefore c.0 c.1 c.2) (λ c d. Before (c.0, c.1) (d.0, d.1))
  pub may_feed : (i : ℕ) → i < r.choices → MayFeed r.windows (window_at r) (tank r i) (minute r i)
  pub some_choice : 1 ≤ r.choices

-- and its bytes: `10`, each `13`, each `11`, each `12`, `1F`. They are those of the register where every mask is below 2^32
abbrev pub bytes_before_lengths : Register → List ℕ
bytes_before_lengths r = encode_base r.base ++ encode_windows r ++ encode_choices r ++ encode_terms_before r ++ (0x1F ∷ [])

-- ---- the promises

pub record LengthsKept (register_call : RegisterCall) (cost_call : CostCall) (job_call : JobCall) (listing_call : ListingCall) : Type 0 where
  -- an accepted register has the length that it says, and no minute that the day does not have
  pub of_register : (register : List ℕ) → (register_call register).number ≡ 0 → KeepsLength register (register_call register).register
  -- so a plan that is accepted with it feeds only in minutes of the day
  pub of_plan : (register plan : List ℕ) → Bytes plan → (cost_call register plan).number ≡ 0 →
      ((register_call register).number ≡ 0) × (fed : ℕ) × Part4 (register_call register).register plan fed × FeedsOfDay (register_call register).register fed
  -- and so does the plan of an accepted job
  pub of_job : (job : List ℕ) (table : List ℤ) (supplier : ℕ) (tally : Tally) → Accepted job_call listing_call job table supplier tally → JobOfDay job_call listing_call job table supplier tally
  -- the length refuses nothing more: a register is accepted just where it is with the longest day, its length is one of the three, and
  -- its minutes and windows are of the day
  pub nothing_more : (register : List ℕ) (reg : Register) → Encodes reg register → (register_call register ≡ register_accepted reg)
      ↔ ((register_call (encode_register (set_length reg long_day)) ≡ register_accepted (set_length reg long_day)) × DayLength reg.day_length × OfDay reg.day_length reg)
  -- so no choice and no window is out of range for a minute that the day has, by itself and in a job
  pub refused_for : (register : List ℕ) → (register_call register).number ≡ 4 → OutOfRange register (register_call register).position
  pub refused_in_job : (job : List ℕ) (table : List ℤ) (supplier : ℕ) (tally : Tally) →
      let a = (job_call job table supplier tally).0 in
      a.number ≡ 4 → a.part ≡ 1 → OutOfRange job a.position
  -- and each minute of each day may be a choice's
  pub each_minute : (length t m : ℕ) → DayLength length → 1 ≤ t → t ≤ max_tank → m < length →
      let answer = register_call (encode_base (pos 0) ++ encode_length length ++ encode_choice t m ++ (0x1F ∷ [])) in
      (answer.number ≡ 0) × ((answer.register.choices ≡ 1) × ((tank answer.register 0 ≡ t) × (minute answer.register 0 ≡ m)))
  -- another length is refused 4, at its command
  pub other_length : (base : ℤ) (length : ℕ) (rest : List ℕ) → nat_abs base ≤ max_base → length < 2 ^ 16 → (DayLength length → ⊥) →
      register_call (encode_base base ++ encode_length length ++ rest) ≡ refused_answer 4 5
  -- the usual length may be said or not: the register is the same
  pub said_or_not : (reg : Register) → reg.day_length ≡ usual_day →
      (register_call (encode_with_length reg) ≡ register_accepted reg) ↔ (register_call (encode_without_length reg) ≡ register_accepted reg)
  -- bytes that say no length have the usual one, with rows and ranges or without
  pub usual : (register : List ℕ) → (SaysLength register → ⊥) → UsualDay (register_call register)
  -- and are answered as they were, accepted or refused, where they say no row and no range, which came later; but for `15` and more than 32
  -- choices, which came later too and are read as today
  pub read_as_before : (register : List ℕ) → (SaysLength register → ⊥) → (SaysRow register → ⊥) → (SaysRange register → ⊥) → register_call register ≡ register_answer (by_itself_before_lengths register)

-- A register that says no length, no row and no range is what it was, of no call in particular: each call reads part 1 at the front of a job or
-- by itself, and what is said of part 1 has its earlier form. `15` and more than 32 choices, which came later too, are read as today.
pub record AsBeforeLengths : Type 0 where
  -- bytes that say a length have a byte `18`. An encoding of a register says one just where it is one of those with `18`, which differ in the
  -- terms that are said by `15`. And where it says no `15` and the register is valid, it says a length just where it is the writer's with
  -- `18`, as before there was `15`
  pub length_byte : (s : List ℕ) → SaysLength s → HasByte 0x18 s
  pub says_length : (register : List ℕ) (reg : Register) → Encodes reg register →
      SaysLength register ↔ ((wide : ℕ → Bool) × (register ≡ encode_after wide (encode_base reg.base ++ encode_length reg.day_length) reg))
  pub says_length_narrow : (register : List ℕ) (reg : Register) → Valid reg → (SaysWide register → ⊥) → Encodes reg register → SaysLength register ↔ (register ≡ encode_with_length reg)
  pub in_job : (s : List ℕ) → (SaysLength s → ⊥) → (SaysRow s → ⊥) → (SaysRange s → ⊥) → register_in_job s ≡ in_job_before_lengths s
  pub by_itself : (s : List ℕ) → (SaysLength s → ⊥) → (SaysRow s → ⊥) → (SaysRange s → ⊥) → register_by_itself s ≡ by_itself_before_lengths s
  pub part_1 : (register : List ℕ) (reg : Register) → (SaysLength register → ⊥) → (SaysWide register → ⊥) →
      Part1 register (without_rows (without_ranges reg)) ↔ (ValidBeforeLengths reg × MasksNarrow reg × (reg.day_length ≡ usual_day) × (register ≡ bytes_before_lengths reg))
