-- What the call answers, and the buffer that it leaves.
use Rattle.std.specs.Prelude.{ℕ, ◌+◌, ◌*◌, ◌/◌, cond, List}
use Rattle.wire.specs.declared.WriterAnswer.{WriterAnswer}
use Rattle.wire.specs.Writer.{refused_answer, bytes_answer, with_front}
use Rattle.costliest.specs.Limits.{min_degree, max_named}
use Rattle.costliest.specs.Costliest.{is_refused, costliest_bytes}

-- how many bytes the register has: `10` of 5, `11` of 5, `12` of 9, and `1F`
abbrev pub costliest_size : ℕ → ℕ → ℕ
costliest_size m d = 5 + 5 * (m * d) + 9 * m + 1

-- so many are enough for every costliest register: none has more than that of the most terms, 10 of 3 choices each
abbrev pub costliest_room : ℕ
costliest_room = costliest_size (max_named / min_degree) min_degree

-- 18 comes before 11; part and position are 0
unfoldable pub costliest_answer : ℕ → ℕ → List ℕ → WriterAnswer
costliest_answer m d lent = cond (is_refused m d) (refused_answer 18 0 0) (bytes_answer (costliest_bytes m d) lent)

-- the buffer holds the bytes where the call answers 0, its rest as lent, and else is unchanged
unfoldable pub costliest_buffer : ℕ → ℕ → List ℕ → List ℕ
costliest_buffer m d lent = cond (is_refused m d) lent (with_front (costliest_bytes m d) lent)
