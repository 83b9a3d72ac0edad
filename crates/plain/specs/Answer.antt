-- What the call answers and what its lent buffer then holds, by what reading the parts leads to.
use Rattle.std.specs.Prelude.{ℕ, ◌+◌, ◌*◌, List}
use Rattle.wire.specs.Outcome.{answer_by}
use Rattle.wire.specs.declared.WriterAnswer.{WriterAnswer}
use Rattle.wire.specs.Writer.{refused_answer, bytes_answer, with_front}
use Rattle.register.specs.declared.Register.{Register}
use Rattle.plan.specs.Chosen.{chosen}
use Rattle.scheme.specs.declared.Scheme.{Scheme}
use Rattle.scheme.specs.Scheme.{max_variables}
use Rattle.certificate.specs.Format.{command_size}
use Rattle.bound.specs.Opening.{open_chosen}
use Rattle.plain.specs.Encoding.{encode_plain}

-- the bytes of our own certificate, with the coefficients that a plan chooses
abbrev pub own_bytes : Register → Scheme → (plan : ℕ) → List ℕ
own_bytes reg sch plan = encode_plain (chosen reg plan) reg sch

-- so many bytes are enough for every certificate of our own: `30`, for each variable at most `31` and one of `38` and `39`, and `3F`
abbrev pub own_room : ℕ
own_room = command_size 0x30 + max_variables * (command_size 0x31 + command_size 0x38) + command_size 0x3F

-- number, part and position of a refusal, count 0, or zeros and the count of bytes, of the bytes of parts 1 and 2, of part 4 where a term
-- has a range, and the lent buffer: a short buffer is found after all else
unfoldable pub plain_answer : (register scheme plan lent : List ℕ) → WriterAnswer
plain_answer register scheme plan lent = answer_by refused_answer (λ (reg, sch, p). bytes_answer (own_bytes reg sch p) lent) (open_chosen register scheme plan)

-- the buffer holds the bytes where the parts are accepted and it is long enough, and else is unchanged
unfoldable pub plain_buffer : (register scheme plan lent : List ℕ) → List ℕ
plain_buffer register scheme plan lent = answer_by (λ number part at. lent) (λ (reg, sch, p). with_front (own_bytes reg sch p) lent) (open_chosen register scheme plan)
