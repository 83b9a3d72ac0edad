-- What the programs print, to what, and with which exit status.
use Rattle.std.specs.Prelude.{ℕ, ◌≡◌, List, [], take, Result, IfOk}
use denote.Ref.{Bor, MutBor}
use Rattle.wire.specs.Outcome.{Outcome, refuses, accepts}
use Rattle.listing.specs.Listing.{refusal_line}
use Rattle.console.specs.declared.parts.Made.{Made}
use Rattle.console.specs.Parts.{printed, made}

-- what a program does with what it makes of its input: it prints the bytes to `output` and exits with status 0, or prints the line of a
-- refusal to `errors` and exits with status 1. To the other it prints nothing, also where this fails. `output` and `errors` say of each
-- what it has grown by
abbrev pub Prints : {Error : Type 0} → Result ℕ Error → (output errors : List ℕ → Type 0) → Outcome (List ℕ) → Type 0
Prints result output errors (accepts bytes) = IfOk result (λ status. (status ≡ 0) × output bytes) × errors []
Prints result output errors (refuses number part at) = IfOk result (λ status. (status ≡ 1) × errors (refusal_line number at)) × output []

-- ---- what the code keeps

-- what is to be printed stands at the front of a text, with its count and which of the two it is
abbrev pub Makes : Outcome (List ℕ) → Made → List ℕ → Type 0
Makes said m text = (m ≡ made said) × (take m.count text ≡ printed said)

-- what a call makes of an input, for the answers and texts after it that it may have
abbrev pub Says : (Bor (List ℕ) → MutBor (List ℕ) → Made → MutBor (List ℕ) → Type 0) → (List ℕ → Outcome (List ℕ)) → Type 0
Says post says = (input : Bor (List ℕ)) (text : MutBor (List ℕ)) (m : Made) (after : MutBor (List ℕ)) → post input text m after → Makes (says input.now) m after.now

-- the first bytes of an input decide what is said of it
abbrev pub DecidedBy : ℕ → (List ℕ → Outcome (List ℕ)) → Type 0
DecidedBy count says = (s : List ℕ) → says (take count s) ≡ says s
