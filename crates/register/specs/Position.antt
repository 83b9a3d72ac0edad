-- Where the command of a term stands in a register's bytes.
use Rattle.std.specs.Prelude.{ℕ, List}
use Rattle.wire.specs.Walk.{position_of}
use Rattle.register.specs.Format.{register_part}
use Rattle.register.specs.Encoding.{term_kind}

-- of term t, found by a walk over the commands from the front. In every encoding of a register a form of the term stands there:
-- `term_stands` in `register/proofs/Position`
unfoldable pub term_position : List ℕ → ℕ → ℕ
term_position s t = position_of register_part term_kind.bytes s t
