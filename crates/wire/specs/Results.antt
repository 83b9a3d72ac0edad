-- What the code's results say: the paper's number of each refusal, a part that is read or refused, parts that are opened or refused.
use Rattle.std.specs.Prelude.{ℕ, Result, Ok, Err}
use Rattle.wire.specs.declared.refusals.Refusal.{Refusal}
use Rattle.wire.specs.declared.refusals.Refusal.TheVariants.{NoCommand, CutShort, TooMany, OutOfRange, NotThere, Misordered, NotRising, SetsUnfit, FallsShort, NoProductLeft, TooShort, PastEnd, OutsideWindows, PastLimit, Misfit, NoneFits, UnknownSupplier, ShapeOutOfRange}
use Rattle.wire.specs.declared.refusals.Refused.{Refused}
use Rattle.wire.specs.declared.refusals.Fault.{Fault}
use Rattle.wire.specs.declared.refusals.Read.{Read}
use Rattle.wire.specs.Part.{Reading, refused, accepted}
use Rattle.wire.specs.Outcome.{Outcome, refuses, accepts, next}

-- the paper's numbers
abbrev pub number_of : Refusal → ℕ
-- a byte that is not a command here
number_of NoCommand = 1
-- bytes that end early
number_of CutShort = 2
-- a count above a limit, a split past the last term, and what is missing at an end
number_of TooMany = 3
number_of OutOfRange = 4
-- a choice, a variable, a product or a row that is not there, and entries past the last
number_of NotThere = 5
number_of Misordered = 6
number_of NotRising = 7
number_of SetsUnfit = 8
-- R, at `3F`
number_of FallsShort = 9
number_of NoProductLeft = 10
-- a table or a byte buffer
number_of TooShort = 11
number_of PastEnd = 12
number_of OutsideWindows = 13
-- the visits of the search
number_of PastLimit = 14
-- a plan and the rows
number_of Misfit = 15
number_of NoneFits = 16
number_of UnknownSupplier = 17
-- how many terms, and of how many choices each, are asked for
number_of ShapeOutOfRange = 18

-- the number of a refusal, or 0 where nothing is refused
abbrev pub number_in : {A : Type 0} → Result A Refusal → ℕ
number_in (Ok a) = 0
number_in (Err refusal) = number_of refusal

-- a part at the front of a run of bytes
abbrev pub reading_of : {A : Type 0} → Result (Read A) Refused → Reading A
reading_of (Ok read) = accepted read.value read.end
reading_of (Err fault) = refused (number_of fault.refusal) fault.position

-- a part as a run of bytes by itself, by its number: what it gives, or where it is refused
abbrev pub whole_of : {A : Type 0} → ℕ → Reading A → Outcome A
whole_of part reading = next part reading λ a end. accepts a

-- parts
abbrev pub outcome_of : {A : Type 0} → Result A Fault → Outcome A
outcome_of (Ok a) = accepts a
outcome_of (Err fault) = refuses (number_of fault.refusal) fault.part fault.position
