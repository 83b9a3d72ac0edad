-- Calls that write bytes into a lent buffer: what they answer, and the buffer after them.
use Rattle.std.specs.Prelude.{ℕ, cond, List, ◌++◌, ltb, length, drop, Result, Ok, Err}
use Rattle.wire.specs.declared.WriterAnswer.{WriterAnswer}
use Rattle.wire.specs.declared.refusals.Fault.{Fault}
use Rattle.wire.specs.Results.{number_of}

-- number, part and position of a refusal, with count 0
abbrev pub refused_answer : ℕ → ℕ → ℕ → WriterAnswer
refused_answer number part at = record { number = number; part = part; position = at; count = 0 }

-- zeros and the count of bytes
abbrev pub written_answer : ℕ → WriterAnswer
written_answer count = record { number = 0; part = 0; position = 0; count = count }

-- from how many bytes the code wrote, or why it wrote none
abbrev pub writer_answer : Result ℕ Fault → WriterAnswer
writer_answer (Ok count) = written_answer count
writer_answer (Err fault) = refused_answer (number_of fault.refusal) fault.part fault.position

-- bytes to be written into a lent buffer: a buffer shorter than they are is refused 11, part and position 0
unfoldable pub bytes_answer : List ℕ → List ℕ → WriterAnswer
bytes_answer bytes lent = cond (ltb (length lent) (length bytes)) (refused_answer 11 0 0) (written_answer (length bytes))

-- and the buffer after them: a buffer shorter than they are is unchanged, and else it begins with them, its rest unchanged
abbrev pub with_front : List ℕ → List ℕ → List ℕ
with_front bytes lent = cond (ltb (length lent) (length bytes)) lent (bytes ++ drop (length bytes) lent)
