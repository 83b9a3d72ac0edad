-- R-1, feeding windows: what a farm is promised of them, as a predicate of any such calls. What an accepted plan feeds lies inside the
-- windows, and windows refuse nothing more. The other calls take a register just where the register call does: `Acceptance`,
-- `Refusals` and `Writers` say it of parts that meet their conditions.
use Rattle.std.specs.Prelude.{ℕ, ◌*◌, ◌<◌, ◌≤◌, ◌≡◌, ◌↔◌, true, List, [], ◌∷◌, ◌++◌, length, ℤ, pos, nat_abs, get_or, replicate}
use Rattle.sets.specs.Sets.{is_member}
use Rattle.wire.specs.Number.{Bytes}
use Rattle.wire.specs.Part.{refused}
use Rattle.forms.specs.Table.{table_numbers}
use Rattle.register.specs.declared.Register.{Register}
use Rattle.register.specs.Limits.{max_windows, max_rows, row_entries, max_base, usual_day}
use Rattle.register.specs.Register.{tank, minute, window_tank, set_windows, set_rows}
use Rattle.register.specs.Valid.{Choices, Windows, Inside, window_at}
use Rattle.register.specs.Encoding.{Encodes, encode_base, encode_choices, encode_register, SaysLength, SaysRow, SaysRange, MasksNarrow, SaysWide}
use Rattle.register.specs.Outside.{ChoiceOutside}
use Rattle.register.specs.Answer.{refused_answer, register_answer}
use Rattle.register.specs.Format.{register_in_job, register_by_itself}
use Rattle.register.specs.BeforeWindows.{in_job_before_windows, by_itself_before_windows}
use Rattle.text.specs.Text.{HasLine}
use Rattle.job.specs.declared.Tally.{Tally}
use Rattle.job.specs.declared.JobAnswer.{JobAnswer}
use Rattle.job.specs.Tally.{suppliers, with_refused, moved}
use Rattle.listing.specs.Listing.{fed_line}
use Rattle.soundness.specs.BeforeRanges.{TermsBefore, encode_terms_before, without_ranges}
use Rattle.soundness.specs.Calls.{RegisterCall, CostCall, JobCall, ListingCall}
use Rattle.soundness.specs.Parts.{Part1, Part4}
use Rattle.soundness.specs.Acceptance.{register_accepted}
use Rattle.soundness.specs.Jobs.{Accepted, Listed, shown, AcceptedJob}

-- ---- what an accepted plan feeds

-- the register has a window of the tank
pub record HasWindow (reg : Register) (t : ℕ) : Type 0 where
  pub window : ℕ
  pub there : window < reg.windows
  pub own : window_tank reg window ≡ t

-- a tank that has windows is fed at a minute of one of them
abbrev pub InWindow : Register → (t m : ℕ) → Type 0
InWindow reg t m = HasWindow reg t → Inside reg.windows (window_at reg) t m

-- the same of each choice, fed or not: its tank at its minute
abbrev pub ChoicesInside : Register → Type 0
ChoicesInside reg = (i : ℕ) → i < reg.choices → InWindow reg (tank reg i) (minute reg i)

-- a feeding: the tank and the minute of a choice that the plan feeds
pub record Feeding (reg : Register) (plan t m : ℕ) : Type 0 where
  pub choice : ℕ
  pub there : choice < reg.choices
  pub fed : is_member choice plan ≡ true
  pub tank_is : tank reg choice ≡ t
  pub minute_is : minute reg choice ≡ m

-- each feeding of a plan keeps to the windows of its tank
abbrev pub KeepsWindows : Register → (plan : ℕ) → Type 0
KeepsWindows reg plan = (t m : ℕ) → Feeding reg plan t m → InWindow reg t m

-- of an accepted job
pub record JobInside (job_call : JobCall) (listing_call : ListingCall) (job : List ℕ) (table : List ℤ) (supplier : ℕ) (tally : Tally) : Type 0 where
  pub accepted : AcceptedJob job_call listing_call job table supplier tally
  -- its plan feeds inside the windows
  pub keeps : KeepsWindows accepted.parts.register accepted.parts.plan
  -- the `F` lines that a farm reads show just these feedings
  pub lines : (lent : List ℤ) (buffer : List ℕ) → Listed job_call listing_call job lent buffer →
      (t m : ℕ) → HasLine (fed_line t m) (shown job_call listing_call job lent buffer) ↔ Feeding accepted.parts.register accepted.parts.plan t m

-- ---- with windows and without

-- the windows by themselves: count, ranges and order
abbrev pub WindowsRight : Register → Type 0
WindowsRight r = Windows r.day_length r.windows r.window_tanks r.window_froms r.window_tos

-- the same register without its windows
abbrev pub without_windows : Register → Register
without_windows r = set_windows r 0 (replicate max_windows 0) (replicate max_windows 0) (replicate max_windows 0)

-- the same register without its rows
abbrev pub without_rows : Register → Register
without_rows r = set_rows r 0 (replicate max_rows (pos 0)) (replicate (max_rows * row_entries) (pos 0))

-- the conditions on a register before there were windows, when each day had the usual length and there were no rows and no ranges
pub record ValidBeforeWindows (r : Register) : Type 0 where
  pub base : nat_abs r.base ≤ max_base
  pub day : r.day_length ≡ usual_day
  pub choices : Choices usual_day r.choices r.tanks r.minutes
  pub terms : TermsBefore r.choices r.terms r.masks r.coefficients
  pub some_choice : 1 ≤ r.choices

-- and its bytes: `10`, each `11`, each `12`, `1F`. They are those of the register where every mask is below 2^32
abbrev pub bytes_before_windows : Register → List ℕ
bytes_before_windows r = encode_base r.base ++ encode_choices r ++ encode_terms_before r ++ (0x1F ∷ [])

-- ---- a choice that is refused for its windows

-- at a position of a job
abbrev pub job_outside : ℕ → ℕ → Tally → JobAnswer
job_outside position supplier tally =
    record { number = 13; part = 1; position = position; bound = pos 0; cost = pos 0; gap = pos 0; tally = moved with_refused supplier tally }

-- ---- the promises

pub record WindowsKept (register_call : RegisterCall) (cost_call : CostCall) (job_call : JobCall) (listing_call : ListingCall) : Type 0 where
  -- each choice of an accepted register is inside a window of its tank, where the tank has windows
  pub of_register : (register : List ℕ) → (register_call register).number ≡ 0 → ChoicesInside (register_call register).register
  -- so a plan that is accepted with it feeds inside them
  pub of_plan : (register plan : List ℕ) → Bytes plan → (cost_call register plan).number ≡ 0 →
      ((register_call register).number ≡ 0) × (fed : ℕ) × Part4 (register_call register).register plan fed × KeepsWindows (register_call register).register fed
  -- and so does the plan of an accepted job
  pub of_job : (job : List ℕ) (table : List ℤ) (supplier : ℕ) (tally : Tally) → Accepted job_call listing_call job table supplier tally → JobInside job_call listing_call job table supplier tally
  -- windows refuse nothing more: with its windows a register is accepted just where it is without them, the windows by themselves
  -- are right, and its choices lie inside
  pub nothing_more : (register : List ℕ) (reg : Register) → Encodes reg register → (register_call register ≡ register_accepted reg)
      ↔ ((register_call (encode_register (without_windows reg)) ≡ register_accepted (without_windows reg)) × WindowsRight reg × ChoicesInside reg)
  -- a choice outside the windows of its tank is refused 13 at its command, where what stands before it and all else of it is right,
  -- whatever follows
  pub outside : (register : List ℕ) (at : ℕ) → ChoiceOutside register at → register_call register ≡ refused_answer 13 at
  pub outside_in_job : (job : List ℕ) (table : List ℤ) (supplier : ℕ) (tally : Tally) (at : ℕ) → supplier < suppliers → table_numbers ≤ length table →
      ChoiceOutside job at → (job_call job table supplier tally).0 ≡ job_outside at supplier tally
  -- and nothing else is
  pub only_outside : (register : List ℕ) → Bytes register → (register_call register).number ≡ 13 → ChoiceOutside register (register_call register).position
  pub only_outside_in_job : (job : List ℕ) (table : List ℤ) (supplier : ℕ) (tally : Tally) → Bytes job → table_numbers ≤ length table →
      (job_call job table supplier tally).0.number ≡ 13 → ChoiceOutside job (job_call job table supplier tally).0.position
  -- bytes without a window, whose `13` would stand at 5, are answered as they were, accepted or refused, with no window, where they
  -- say no day length, no row and no range, which came later; but for `15` and more than 32 choices, which came later too and are read as today
  pub read_as_before : (register : List ℕ) → (get_or register 5 0 ≡ 0x13 → ⊥) → (SaysLength register → ⊥) → (SaysRow register → ⊥) → (SaysRange register → ⊥) →
      (register_call register ≡ register_answer (by_itself_before_windows register)) × (without_windows (register_call register).register ≡ (register_call register).register)

-- 13, of no call in particular: each call reads part 1 at the front of a job or by itself, and comes to 13 just where a choice lies
-- outside the windows of its tank.
pub record RefusedOutside : Type 0 where
  pub in_job : (s : List ℕ) (at : ℕ) → Bytes s → (register_in_job s ≡ refused 13 at) ↔ ChoiceOutside s at
  pub by_itself : (s : List ℕ) (at : ℕ) → Bytes s → (register_by_itself s ≡ refused 13 at) ↔ ChoiceOutside s at

-- A register without windows that says no day length, no row and no range is what it was, of no call in particular: each call reads part 1 at the
-- front of a job or by itself, and what is said of part 1 has its earlier form. `15` and more than 32 choices, which came later too, are
-- read as today.
pub record AsBeforeWindows : Type 0 where
  pub in_job : (s : List ℕ) → (get_or s 5 0 ≡ 0x13 → ⊥) → (SaysLength s → ⊥) → (SaysRow s → ⊥) → (SaysRange s → ⊥) → register_in_job s ≡ in_job_before_windows s
  pub by_itself : (s : List ℕ) → (get_or s 5 0 ≡ 0x13 → ⊥) → (SaysLength s → ⊥) → (SaysRow s → ⊥) → (SaysRange s → ⊥) → register_by_itself s ≡ by_itself_before_windows s
  pub part_1 : (register : List ℕ) (reg : Register) → (SaysLength register → ⊥) → (SaysWide register → ⊥) →
      Part1 register (without_windows (without_rows (without_ranges reg))) ↔ (ValidBeforeWindows reg × MasksNarrow reg × (register ≡ bytes_before_windows reg))
