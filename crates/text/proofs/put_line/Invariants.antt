-- After i turns the fields of the first i numbers are written.
use Rattle.integers.specs.Lists.{join_below}
use Rattle.text.specs.Writing.{Writes}
use Rattle.text.proofs.Lines.{field_of}
use Rattle.text.proofs.put_line.Given as goal

abbrev pub invariant-loop-number : goal.invariant-loop-number
invariant-loop-number l = Writes (join_below l.number-index (field_of l.numbers)) l.initial.writer l.writer
