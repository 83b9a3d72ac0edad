-- How a part of the job file is read: one command byte, then operands of fixed width; commands first to last.
use Rattle.std.specs.Prelude.{ℕ, zero, suc, ◌+◌, ◌-◌, Bool, cond, List, [], ◌∷◌, length, get_or, eqb, ltb}
use Rattle.wire.specs.Number.{nat_at}
use Rattle.wire.specs.Checks.{Check, command_checks, refusal}

-- the commands of a part, where S is what has been read so far
pub record Part (S : Type 0) : Type 0 where
  -- before the first command
  pub start : S
  -- the byte is a command here, or it is refused 1
  pub here : S → ℕ → Bool
  -- the widths in bytes of the operands of the command with this byte
  pub widths : ℕ → List ℕ
  -- the checks of a command with its operands, unsigned: refusals 3 and up, in rising order
  pub checks : S → ℕ → List ℕ → List Check
  -- what has been read after a command
  pub after : S → ℕ → List ℕ → S
  -- the byte ends the part
  pub last : ℕ → Bool

-- what reading a part leads to: a refusal with its number and position, or what was read and the position past it
pub data Reading (S : Type 0) : Type 0 where
  refused : ℕ → ℕ → Reading S
  accepted : S → ℕ → Reading S

-- what one command leads to: what has been read and the next command's position, or the end of reading
pub data Step (S : Type 0) : Type 0 where
  goes : S → ℕ → Step S
  stops : Reading S → Step S

-- the operands of these widths at a position, one after the other
unfoldable pub operands_at : List ℕ → List ℕ → ℕ → List ℕ
operands_at [] s at = []
operands_at (w ∷ ws) s at = nat_at w s at ∷ operands_at ws s (at + w)

-- the bytes that operands of these widths take
unfoldable pub total : List ℕ → ℕ
total [] = 0
total (w ∷ ws) = w + total ws

module _ {S : Type 0} (P : Part S) where
  -- the bytes of a command
  abbrev pub size : ℕ → ℕ
  size b = suc (total (P.widths b))

  -- all checks of the command at a position
  unfoldable pub checks_at : List ℕ → S → ℕ → List Check
  checks_at s read at =
      let b = get_or s at 0 in
      command_checks (P.here read b) (length s - at) (size b) (P.checks read b (operands_at (P.widths b) s (at + 1)))

  -- what has been read after the command at a position
  unfoldable pub after_at : List ℕ → S → ℕ → S
  after_at s read at = let b = get_or s at 0 in P.after read b (operands_at (P.widths b) s (at + 1))

  -- the command at a position
  unfoldable pub command : List ℕ → S → ℕ → Step S
  command s read at =
      let b = get_or s at 0 in
      let number = refusal (checks_at s read at) in
      let next = after_at s read at in
      cond (eqb number 0) (cond (P.last b) (stops (accepted next (at + size b))) (goes next (at + size b))) (stops (refused number at))

  -- no byte at this position: refused 2 right here
  unfoldable pub step : List ℕ → S → ℕ → Step S
  step s read at = cond (ltb at (length s)) (command s read at) (stops (refused 2 at))

  unfoldable pub follow : Step S → (S → ℕ → Reading S) → Reading S
  follow (goes read at) rest = rest read at
  follow (stops reading) rest = reading

  -- command after command, at most k of them
  unfoldable pub run : ℕ → List ℕ → S → ℕ → Reading S
  run zero s read at = refused 2 at
  run (suc k) s read at = follow (step s read at) (run k s)

  -- from a position on: each command takes at least a byte, so the bytes left and one are enough, and `run zero` is not reached
  unfoldable pub read_from : List ℕ → S → ℕ → Reading S
  read_from s read at = run (suc (length s - at)) s read at

  -- the part at the front of a run of bytes
  unfoldable pub read_part : List ℕ → Reading S
  read_part s = read_from s P.start 0

-- a part outside a job has all the bytes: one more than it needs is refused 12, where it stands
unfoldable pub by_itself : {S : Type 0} → List ℕ → Reading S → Reading S
by_itself s (refused number at) = refused number at
by_itself s (accepted read end) = cond (ltb end (length s)) (refused 12 end) (accepted read end)
