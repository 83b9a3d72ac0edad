-- The bytes on which the supplier's listing of an accepted job must not depend: those of the operands of part 1 that say a tank, a
-- minute, or the "from" or "to" of a window. And what it means that two jobs agree in every other byte.
use Rattle.std.specs.Prelude.{ℕ, zero, suc, ◌<◌, ◌≤◌, ◌+◌, ◌≡◌, ◌⊎◌, Bool, true, false, cond, List, [], ◌∷◌, ◌++◌, length, get_or, drop, replicate}
use Rattle.wire.specs.Part.{total, size}
use Rattle.wire.specs.Encoding.{Command, encode}
use Rattle.certificate.specs.Rules.{by_key}
use Rattle.register.specs.Format.{register_part}

-- ---- by the bytes of commands

-- the commands of part 1 that have hidden operands, by their byte, and of their operands, in order, true for each that is hidden:
-- `11` tank, minute; `13` tank, from, to
abbrev pub hidden_operands : List (ℕ × List Bool)
hidden_operands = (0x11, true ∷ true ∷ []) ∷ (0x13, true ∷ true ∷ true ∷ []) ∷ []

-- those of a command with this byte; of any other command none is hidden
abbrev pub hides : ℕ → List Bool
hides b = by_key [] b hidden_operands

-- the bytes of operands of these widths, true for each byte of one that is hidden
unfoldable pub operand_marks : List ℕ → List Bool → List Bool
operand_marks [] hs = []
operand_marks (w ∷ ws) hs = replicate w (get_or hs 0 false) ++ operand_marks ws (drop 1 hs)

-- the bytes of a command: its first is not hidden
abbrev pub command_marks : ℕ → List Bool
command_marks b = false ∷ operand_marks (register_part.widths b) (hides b)

-- the bytes of part 1 at the front of a job, command by command up to `1F`, at most k commands
unfoldable pub marks_from : ℕ → List ℕ → List Bool
marks_from zero s = []
marks_from (suc k) s =
    let b = get_or s 0 0 in
    command_marks b ++ cond (register_part.last b) [] (marks_from k (drop (size register_part b) s))

-- a byte of a job is hidden; past part 1 none is. Each command takes at least a byte, so none is left
unfoldable pub is_hidden : List ℕ → ℕ → Bool
is_hidden job at = get_or (marks_from (length job) job) at false

-- ---- the same in a list of commands

-- a position is one of the operands of a command that says a choice or a window: `11` or `13`
pub record InOperand (cs : List Command) (at : ℕ) : Type 0 where
  pub front : List Command
  pub command : Command
  pub back : List Command
  pub whole : cs ≡ front ++ (command ∷ back)
  pub says : (command.byte ≡ 0x11) ⊎ (command.byte ≡ 0x13)
  pub past : length (encode register_part front) < at
  pub within : at ≤ length (encode register_part front) + total (register_part.widths command.byte)

-- ---- two jobs

-- they are equally long, and the same byte stands wherever it is hidden in neither
pub record Agree (job job' : List ℕ) : Type 0 where
  pub lengths : length job ≡ length job'
  pub bytes : (at : ℕ) → is_hidden job at ≡ false → is_hidden job' at ≡ false → get_or job at 0 ≡ get_or job' at 0
