-- Parts read in turn: the first refusal answers.
use Rattle.std.specs.Prelude.{ℕ, ◌+◌}
use Rattle.wire.specs.Part.{Reading, refused, accepted}
use Rattle.wire.specs.Rows.{Progress}

-- what parts lead to: a refusal's number, part and position, or what they gave
pub data Outcome (A : Type 0) : Type 0 where
  refuses : ℕ → ℕ → ℕ → Outcome A
  accepts : A → Outcome A

-- the part with a number, and then what follows it, by what was read and where it ends
abbrev pub next : {S A : Type 0} → ℕ → Reading S → (S → ℕ → Outcome A) → Outcome A
next part (refused number at) rest = refuses number part at
next part (accepted read end) rest = rest read end

-- the part with a number, and what its commands gave
abbrev pub given : {A : Type 0} → ℕ → Reading (Progress A) → Outcome A
given part reading = next part reading λ p end. accepts p.parsed

-- parts, and then what follows them, by what they gave
abbrev pub and_then : {A B : Type 0} → Outcome A → (A → Outcome B) → Outcome B
and_then (refuses number part at) rest = refuses number part at
and_then (accepts a) rest = rest a

-- what is answered: of a refusal, and of what the parts gave
abbrev pub answer_by : {A B : Type 0} → (ℕ → ℕ → ℕ → B) → (A → B) → Outcome A → B
answer_by refusal answer (refuses number part at) = refusal number part at
answer_by refusal answer (accepts a) = answer a

-- a part that starts at a position of a longer run, with positions from the start of that run
abbrev pub starting_at : {S : Type 0} → ℕ → Reading S → Reading S
starting_at from (refused number at) = refused number (from + at)
starting_at from (accepted read end) = accepted read (from + end)

-- what the commands of a part gave, added to what the parts before it gave
abbrev pub added_by : {A B : Type 0} → (A → B) → Reading (Progress A) → Reading B
added_by add (refused number at) = refused number at
added_by add (accepted p end) = accepted (add p.parsed) end
