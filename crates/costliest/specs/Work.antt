-- What the code's test of the two numbers gives.
use Rattle.std.specs.Prelude.{ℕ, cond, Result, Ok, Err}
use Rattle.wire.specs.declared.refusals.Fault.{Fault}
use Rattle.wire.specs.Outcome.{Outcome, refuses, accepts}
use Rattle.wire.specs.Results.{number_of}
use Rattle.costliest.specs.declared.shape.Shape.{Shape}
use Rattle.costliest.specs.Costliest.{is_refused}

-- the two numbers, or 18, which no command causes
abbrev pub admitted : ℕ → ℕ → Outcome (ℕ × ℕ)
admitted m d = cond (is_refused m d) (refuses 18 0 0) (accepts (m, d))

abbrev pub shape_outcome : Result Shape Fault → Outcome (ℕ × ℕ)
shape_outcome (Ok shape) = accepts (shape.terms, shape.degree)
shape_outcome (Err fault) = refuses (number_of fault.refusal) fault.part fault.position
