-- What the builder's call answers, and the buffer that it leaves.
use Rattle.std.specs.Prelude.{ℕ, ◌+◌, ◌*◌, List}
use Rattle.wire.specs.Outcome.{answer_by}
use Rattle.wire.specs.declared.WriterAnswer.{WriterAnswer}
use Rattle.wire.specs.Writer.{refused_answer, bytes_answer, with_front}
use Rattle.register.specs.declared.Register.{Register}
use Rattle.register.specs.Limits.{max_terms}
use Rattle.register.specs.Opening.{open_register}
use Rattle.register.specs.Position.{term_position}
use Rattle.scheme.specs.Scheme.{max_products}
use Rattle.scheme.specs.Encoding.{encode_scheme}
use Rattle.builder.specs.Builder.{Built, stopped, built, build}

-- so many bytes are enough for every scheme that is built: `21` and `22` of 3 bytes each, and `2F`
abbrev pub built_room : ℕ
built_room = 3 * max_products + 3 * max_terms + 1

-- of what building leads to: 10 at the command of the term that needs a 33rd product or a 65th variable, where it stands in the register's bytes

abbrev pub built_answer : List ℕ → Register → List ℕ → Built → WriterAnswer
built_answer register reg buffer (stopped t) = refused_answer 10 1 (term_position register t)
built_answer register reg buffer (built sch) = bytes_answer (encode_scheme reg.choices sch) buffer

abbrev pub built_buffer : Register → List ℕ → Built → List ℕ
built_buffer reg buffer (stopped t) = buffer
built_buffer reg buffer (built sch) = with_front (encode_scheme reg.choices sch) buffer

-- of the register's bytes and the lent buffer

abbrev pub build_answer : List ℕ → List ℕ → WriterAnswer
build_answer register buffer = answer_by refused_answer (λ reg. built_answer register reg buffer (build reg)) (open_register register)

abbrev pub build_buffer : List ℕ → List ℕ → List ℕ
build_buffer register buffer = answer_by (λ number part at. buffer) (λ reg. built_buffer reg buffer (build reg)) (open_register register)
