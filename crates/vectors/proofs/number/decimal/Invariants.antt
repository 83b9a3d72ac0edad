use Rattle.std.proofs.Common.{◌≡◌, drop}
use Rattle.vectors.specs.Said.{and_digits}
use Rattle.vectors.proofs.number.decimal.Given as goal

abbrev pub invariant-loop-digit : goal.invariant-loop-digit
invariant-loop-digit l = and_digits l.value (drop l.digit-index l.field) ≡ and_digits 0 l.field
