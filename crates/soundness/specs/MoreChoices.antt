-- R-10, forty-eight choices: what is promised of their number and of the forms that name them, as a predicate of any such calls. Every other
-- statement here is of registers with up to 48 choices too. What the calls answered when there were at most 32 choices, no `15` and no `41`,
-- and that they still answer it for bytes that say none of these, stands in `BeforeMoreChoices`.
use Rattle.std.specs.Prelude.{ℕ, ◌%◌, ◌^◌, ◌+◌, ◌<◌, ◌≤◌, ◌≡◌, ◌⊎◌, ◌↔◌, List, ◌++◌, length, ℤ, pos, nat_abs, ◌≤ℤ◌}
use Rattle.std.specs.Int.Bits.{bit_or}
use Rattle.forms.specs.Table.{table_numbers}
use Rattle.register.specs.declared.Register.{Register}
use Rattle.register.specs.Limits.{max_choices, row_entries, max_row_total, lowest_entry, highest_entry}
use Rattle.register.specs.Register.{mask, row_entry}
use Rattle.register.specs.Valid as R
use Rattle.register.specs.Encoding.{encode_choice}
use Rattle.register.specs.Position.{term_position}
use Rattle.register.specs.Outside.{EncodesChoices}
use Rattle.register.specs.Answer.{refused_answer}
use Rattle.plan.specs.Fits.{Fits}
use Rattle.scheme.specs.declared.Scheme.{Scheme}
use Rattle.scheme.specs.Scheme.{max_products, max_variables, variables, initial}
use Rattle.scheme.specs.Variables.{E}
use Rattle.scheme.specs.Valid as S
use Rattle.scheme.specs.Encoding.{HeaderBytes, encode_product, encode_products}
use Rattle.scheme.specs.Answer as SA
use Rattle.builder.specs.Builder.{next, WithVariable, join_pair, stopped, built, build_from, build}
use Rattle.job.specs.declared.Tally.{Tally}
use Rattle.job.specs.declared.JobAnswer.{JobAnswer}
use Rattle.job.specs.Tally.{suppliers, with_refused, moved}
use Rattle.job.specs.Outcome.{Parts}
use Rattle.job.specs.Valid as J
use Rattle.soundness.specs.Calls.{RegisterCall, SchemeCall, CostCall, PenaltyCall, CheckCall, PlainCall, BuildCall, JobCall, ListingCall, SearchCall}
use Rattle.soundness.specs.Parts.{Part1, Part4}
use Rattle.soundness.specs.Writers.{refused_back}

-- ---- counts

-- at a position of a run of bytes stands a choice too many: before it stand the base cost, the day length, windows and as many choices as
-- there may be, all of them right, and after it whatever follows
pub record ChoiceTooMany (s : List ℕ) (at : ℕ) : Type 0 where
  pub before : Register
  pub within : R.Within before
  pub day : R.DayLength before.day_length
  pub no_row : before.rows ≡ 0
  pub no_term : before.terms ≡ 0
  pub full : before.choices ≡ max_choices
  pub front : List ℕ
  pub encodes : EncodesChoices before front
  pub t : ℕ
  pub m : ℕ
  pub rest : List ℕ
  pub bytes : s ≡ front ++ (encode_choice t m ++ rest)
  pub position : at ≡ length front

-- at a position of a run of bytes stands a product too many: before it stand a header and products, all of them right, which are as many as
-- there may be, or with the choices as many variables as there may be, and after it whatever follows
pub record ProductTooMany (reg : Register) (s : List ℕ) (at : ℕ) : Type 0 where
  pub before : Scheme
  pub within : S.Within reg before
  pub no_split : before.splits ≡ 0
  pub full : (before.products ≡ max_products) ⊎ (variables reg.choices before ≡ max_variables)
  pub header : List ℕ
  pub header_is : HeaderBytes before header
  pub l : ℕ
  pub r : ℕ
  pub rest : List ℕ
  pub bytes : s ≡ header ++ encode_products reg.choices before ++ (encode_product l r ++ rest)
  pub position : at ≡ length (header ++ encode_products reg.choices before)

-- the answer for a job that is refused with this number in this part at this position of it
abbrev pub job_refused : (number part position supplier : ℕ) → Tally → JobAnswer
job_refused number part position supplier tally =
    record { number = number; part = part; position = position; bound = pos 0; cost = pos 0; gap = pos 0; tally = moved with_refused supplier tally }

pub record CountsKept (register_call : RegisterCall) (scheme_call : SchemeCall) (job_call : JobCall) : Type 0 where
  -- an accepted register has at most 48 choices, and no term names another
  pub choices_few : (register : List ℕ) → (register_call register).number ≡ 0 → (register_call register).register.choices ≤ max_choices
  pub choices_named : (register : List ℕ) → (register_call register).number ≡ 0 → (t : ℕ) → t < (register_call register).register.terms →
      mask (register_call register).register t < 2 ^ (register_call register).register.choices
  -- a choice more is refused 3 at its command, whatever it is
  pub choice_too_many : (register : List ℕ) (at : ℕ) → ChoiceTooMany register at → register_call register ≡ refused_answer 3 at
  pub choice_too_many_in_job : (job : List ℕ) (table : List ℤ) (supplier : ℕ) (tally : Tally) (at : ℕ) → supplier < suppliers → table_numbers ≤ length table →
      ChoiceTooMany job at → (job_call job table supplier tally).0 ≡ job_refused 3 1 at supplier tally
  -- an accepted scheme has at most 32 products, and with the choices at most 64 variables
  pub products_few : (register scheme : List ℕ) → (scheme_call register scheme).number ≡ 0 →
      ((scheme_call register scheme).scheme.products ≤ max_products) × (variables (register_call register).register.choices (scheme_call register scheme).scheme ≤ max_variables)
  -- a product more is refused 3 at its command, whatever it is
  pub product_too_many : (register scheme : List ℕ) (reg : Register) (at : ℕ) → Part1 register reg → ProductTooMany reg scheme at →
      scheme_call register scheme ≡ SA.refused_answer 3 2 at
  pub product_too_many_in_job : (job : List ℕ) (table : List ℤ) (supplier : ℕ) (tally : Tally) (register rest : List ℕ) (reg : Register) (at : ℕ) →
      supplier < suppliers → table_numbers ≤ length table → Part1 register reg → job ≡ register ++ rest → ProductTooMany reg rest at →
      (job_call job table supplier tally).0 ≡ job_refused 3 2 (length register + at) supplier tally

-- ---- the builder, of no call in particular: `InTerm` in `Refusals` and `BuildWrites` in `Writers` say what the call makes of this

-- a scheme that comes from another by pairs joined after each other
pub data Joined (n : ℕ) (from : Scheme) : Scheme → Type 0 where
  itself : Joined n from from
  joined : (sch : Scheme) (a b : ℕ) (p : WithVariable) → Joined n from sch → join_pair n sch a b ≡ next p → Joined n from p.scheme

-- where the builder stops, in term t: it has built the terms before; the pairs that it then joined for term t led to a scheme that keeps to
-- what part 2 asks, and that has as many products as there may be, or with the choices as many variables; and two variables of that scheme
-- have a union that is the set of no variable, so they need a product more
pub record FullAt (reg : Register) (t : ℕ) : Type 0 where
  pub before : Scheme
  pub builds : build_from reg t 0 initial ≡ built before
  pub sch : Scheme
  pub joins : Joined reg.choices before sch
  pub within : S.Within reg sch
  pub splits_are : sch.splits ≡ t
  pub full : (sch.products ≡ max_products) ⊎ (variables reg.choices sch ≡ max_variables)
  pub a : ℕ
  pub b : ℕ
  pub there : (a < variables reg.choices sch) × (b < variables reg.choices sch)
  pub needed : (v : ℕ) → v < variables reg.choices sch → E reg.choices sch v ≡ bit_or (E reg.choices sch a) (E reg.choices sch b) → ⊥

pub record BuilderKeeps : Type 0 where
  -- what is built has at most 32 products, and with the choices at most 64 variables
  pub builds_within : (reg : Register) → R.Valid reg → (sch : Scheme) → build reg ≡ built sch → (sch.products ≤ max_products) × (variables reg.choices sch ≤ max_variables)
  -- and the builder stops only where another product would be one too many
  pub stops_full : (reg : Register) → R.Valid reg → (t : ℕ) → build reg ≡ stopped t → FullAt reg t

-- ---- forms

-- the calls that are lent part 1, the builder apart, answer the two alike, whatever the other parts are, and hand back the same
pub record RegistersAlike (register_call : RegisterCall) (scheme_call : SchemeCall) (cost_call : CostCall) (penalty_call : PenaltyCall) (check_call : CheckCall) (plain_call : PlainCall) (search_call : SearchCall) (register other : List ℕ) : Type 0 where
  pub registers : register_call register ≡ register_call other
  pub schemes : (scheme : List ℕ) → scheme_call register scheme ≡ scheme_call other scheme
  pub costs : (plan : List ℕ) → cost_call register plan ≡ cost_call other plan
  pub penalties : (scheme : List ℕ) (table : List ℤ) → penalty_call register scheme table ≡ penalty_call other scheme table
  pub checks : (scheme certificate plan : List ℕ) (table : List ℤ) → check_call register scheme certificate plan table ≡ check_call other scheme certificate plan table
  pub plains : (scheme plan lent : List ℕ) → plain_call register scheme plan lent ≡ plain_call other scheme plan lent
  pub searches : (limit : ℕ) → search_call register limit ≡ search_call other limit

-- so do those that are lent part 4
pub record PlansAlike (cost_call : CostCall) (check_call : CheckCall) (plain_call : PlainCall) (register plan other : List ℕ) : Type 0 where
  pub costs : cost_call register plan ≡ cost_call register other
  pub checks : (scheme certificate : List ℕ) (table : List ℤ) → check_call register scheme certificate plan table ≡ check_call register scheme certificate other table
  pub plains : (scheme lent : List ℕ) → plain_call register scheme plan lent ≡ plain_call register scheme other lent

-- so do the job call and the two listing calls of two jobs
pub record JobsAlike (job_call : JobCall) (listing_call supplier_listing_call : ListingCall) (job other : List ℕ) : Type 0 where
  pub jobs : (table : List ℤ) (supplier : ℕ) (tally : Tally) → job_call job table supplier tally ≡ job_call other table supplier tally
  pub listings : (table : List ℤ) (buffer : List ℕ) → listing_call job table buffer ≡ listing_call other table buffer
  pub supplier_listings : (table : List ℤ) (buffer : List ℕ) → supplier_listing_call job table buffer ≡ supplier_listing_call other table buffer

pub record FormsAlike (register_call : RegisterCall) (scheme_call : SchemeCall) (cost_call : CostCall) (penalty_call : PenaltyCall) (check_call : CheckCall) (plain_call : PlainCall) (build_call : BuildCall) (search_call : SearchCall) (job_call : JobCall) (listing_call supplier_listing_call : ListingCall) : Type 0 where
  -- a term may be said by `12` or by `15`, where both can name its choices, and the usual length by `18` or not at all: the register is the same
  pub of_register : (register other : List ℕ) (reg : Register) → Part1 register reg → Part1 other reg →
      RegistersAlike register_call scheme_call cost_call penalty_call check_call plain_call search_call register other
  -- and the builder writes the same bytes
  pub of_builder : (register other : List ℕ) (reg : Register) (sch : Scheme) → Part1 register reg → Part1 other reg → build reg ≡ built sch → (lent : List ℕ) →
      build_call register lent ≡ build_call other lent
  -- or it refuses both 10, at the command of the same term in the bytes of each
  pub builder_stops : (register other : List ℕ) (reg : Register) (term : ℕ) → Part1 register reg → Part1 other reg → build reg ≡ stopped term → (lent : List ℕ) →
      (build_call register lent ≡ refused_back 10 1 (term_position register term) lent) × (build_call other lent ≡ refused_back 10 1 (term_position other term) lent)
  -- a plan by `40` or by `41`
  pub of_plan : (register plan other : List ℕ) (reg : Register) (fed : ℕ) → Part1 register reg → Part4 reg plan fed → Part4 reg other fed →
      PlansAlike cost_call check_call plain_call register plan other
  -- and jobs of the same four valid parts are answered alike, in whichever of their forms these stand there
  pub of_job : (job other : List ℕ) (parts : Parts) → J.Valid parts → J.Encodes parts job → J.Encodes parts other →
      JobsAlike job_call listing_call supplier_listing_call job other

-- ---- rows, of no call in particular

pub record RowsOfFirst : Type 0 where
  -- a row bears on the first 32 choices: the others have no entry, and whether they are fed decides nothing of whether a plan fits
  pub no_entry : (reg : Register) (k j : ℕ) → row_entries ≤ j → row_entry reg k j ≡ pos 0
  pub fits : (reg : Register) (plan : ℕ) → Fits reg plan ↔ Fits reg (plan % 2 ^ row_entries)
  -- with 32 choices or more each entry of a row is a choice's, and may be any number in its range
  pub entries_free : (n : ℕ) (total : ℤ) (entry : ℕ → ℤ) → row_entries ≤ n → nat_abs total ≤ max_row_total →
      ((j : ℕ) → j < row_entries → (lowest_entry ≤ℤ entry j) × (entry j ≤ℤ highest_entry)) → R.FeedingRow n total entry
