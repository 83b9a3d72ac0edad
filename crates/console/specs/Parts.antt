-- What the programs make of their input that write a part of a job: `build_scheme` part 2 for part 1, `own_certificate` part 3 for parts
-- 1 and 2, and for the plan of part 4 where the register has a range.
use Rattle.std.specs.Prelude.{ℕ, ◌+◌, true, false, cond, eqb, List, [], length, take, drop}
use Rattle.wire.specs.Part.{Reading, refused, accepted}
use Rattle.wire.specs.Outcome.{Outcome, refuses, accepts, and_then, answer_by}
use Rattle.wire.specs.declared.WriterAnswer.{WriterAnswer}
use Rattle.register.specs.declared.Register.{Register}
use Rattle.register.specs.Register.{has_range}
use Rattle.register.specs.Format.{register_in_job}
use Rattle.register.specs.Opening.{open_register}
use Rattle.register.specs.Position.{term_position}
use Rattle.scheme.specs.Encoding.{encode_scheme}
use Rattle.scheme.specs.Format.{scheme_in_job}
use Rattle.bound.specs.Opening.{open_chosen}
use Rattle.builder.specs.Builder.{Built, stopped, built, build}
use Rattle.plain.specs.Answer.{own_bytes}
use Rattle.listing.specs.Listing.{refusal_line}
use Rattle.console.specs.declared.parts.Made.{Made}

-- the bytes of the part, for standard output, or the line of a refusal, for standard error
abbrev pub printed : Outcome (List ℕ) → List ℕ
printed (refuses number part at) = refusal_line number at
printed (accepts bytes) = bytes

-- how many there are, and which of the two
abbrev pub made : Outcome (List ℕ) → Made
made (refuses number part at) = record { count = length (refusal_line number at); refused = true }
made (accepts bytes) = record { count = length bytes; refused = false }

-- ---- part 2

-- the bytes of what the builder makes, or refusal 10
abbrev pub built_bytes : List ℕ → Register → Built → Outcome (List ℕ)
built_bytes register reg (stopped t) = refuses 10 1 (term_position register t)
built_bytes register reg (built sch) = accepts (encode_scheme reg.choices sch)

-- of the bytes of part 1
abbrev pub built_scheme : List ℕ → Outcome (List ℕ)
built_scheme register = and_then (open_register register) λ reg. built_bytes register reg (build reg)

-- ---- part 3

-- of the bytes of parts 1, 2 and 4, each by itself; those of part 4 are looked at where the register has a range
abbrev pub own_certificate : (register scheme plan : List ℕ) → Outcome (List ℕ)
own_certificate register scheme plan = and_then (open_chosen register scheme plan) λ (reg, sch, p). accepts (own_bytes reg sch p)

-- where a part ends in a run of bytes; a part that is refused has them all
abbrev pub end_in : {A : Type 0} → List ℕ → Reading A → ℕ
end_in s (refused number at) = length s
end_in s (accepted p end) = end

abbrev pub register_end : List ℕ → ℕ
register_end s = end_in s (register_in_job s)

-- where part 2 ends in its bytes and those of a plan, which stands behind it where the register has a range; without one it has them all
abbrev pub scheme_end : (register rest : List ℕ) → ℕ
scheme_end register rest = answer_by (λ number part at. length rest) (λ reg. cond (has_range reg) (end_in rest (scheme_in_job reg rest)) (length rest)) (open_register register)

-- positions in parts 2 and 4 counted from the start of part 1, by where these two parts start
abbrev pub counted_from : (two four : ℕ) → Outcome (List ℕ) → Outcome (List ℕ)
counted_from two four (refuses number part at) = refuses number part (cond (eqb part 2) (two + at) (cond (eqb part 4) (four + at) at))
counted_from two four (accepts bytes) = accepts bytes

-- of the bytes of these parts, one straight after the other
unfoldable pub certificate_after : List ℕ → Outcome (List ℕ)
certificate_after s =
    let two = register_end s in
    let register = take two s in
    let rest = drop two s in
    let end = scheme_end register rest in
    counted_from two (two + end) (own_certificate register (take end rest) (drop end rest))

-- ---- not the paper's: what the code keeps

-- the line of a refusal that a writing call answered, nothing of a part that it wrote
unfoldable pub line_in : WriterAnswer → List ℕ
line_in a = cond (eqb a.number 0) [] (refusal_line a.number a.position)

-- an answer whose positions in parts 2 and 4 are counted from the start of part 1
abbrev pub answer_from : (two four : ℕ) → WriterAnswer → WriterAnswer
answer_from two four a =
    record { number = a.number; part = a.part; position = cond (eqb a.part 2) (two + a.position) (cond (eqb a.part 4) (four + a.position) a.position); count = a.count }
