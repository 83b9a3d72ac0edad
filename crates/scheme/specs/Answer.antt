-- What the scheme's calls answer, by what reading leads to.
use Rattle.std.specs.Prelude.{ℕ, List, Result, Ok, Err}
use Rattle.wire.specs.declared.refusals.Fault.{Fault}
use Rattle.wire.specs.Rows.{Progress}
use Rattle.wire.specs.Outcome.{Outcome, refuses, accepts, given, and_then, answer_by}
use Rattle.wire.specs.Results.{number_of}
use Rattle.register.specs.declared.Register.{Register}
use Rattle.register.specs.Register.{mask}
use Rattle.register.specs.Opening.{open_register}
use Rattle.scheme.specs.declared.Scheme.{Scheme}
use Rattle.scheme.specs.declared.Seen.{Seen}
use Rattle.scheme.specs.declared.SchemeAnswer.{SchemeAnswer}
use Rattle.scheme.specs.declared.parts.Quadratization.{Quadratization}
use Rattle.scheme.specs.Scheme.{fresh}
use Rattle.scheme.specs.Format.{scheme_by_itself}

-- what the checks of a command look at, of the register and of what has been read so far; the sets of the variables beside it
abbrev pub seen_of : Register → Progress Scheme → Seen
seen_of reg p = let s = p.parsed in record {
  previous = p.previous;
  choices = reg.choices;
  terms = reg.terms;
  products = s.products;
  splits = s.splits;
  mask = mask reg s.splits;
}

-- parts 1 and 2, each a run of bytes by itself
abbrev pub open_parts : List ℕ → List ℕ → Outcome (Register × Scheme)
open_parts register s = and_then (open_register register) λ reg. and_then (given 2 (scheme_by_itself reg s)) λ sch. accepts (reg, sch)

-- what opening them gives, as an outcome
abbrev pub parts_of : Result Quadratization Fault → Outcome (Register × Scheme)
parts_of (Ok q) = accepts (q.register, q.scheme)
parts_of (Err fault) = refuses (number_of fault.refusal) fault.part fault.position

-- of the call: number, part and position of a refusal, other fields 0; or zeros and the scheme

abbrev pub refused_answer : ℕ → ℕ → ℕ → SchemeAnswer
refused_answer number part at = record { number = number; part = part; position = at; scheme = fresh }

abbrev pub accepted_answer : Register × Scheme → SchemeAnswer
accepted_answer (reg, sch) = record { number = 0; part = 0; position = 0; scheme = sch }

abbrev pub scheme_answer : List ℕ → List ℕ → SchemeAnswer
scheme_answer register s = answer_by refused_answer accepted_answer (open_parts register s)
