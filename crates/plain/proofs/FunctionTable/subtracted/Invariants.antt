use lib.IntN.{pos}
use Rattle.integers.specs.Integer.{neg_part}
use Rattle.plain.specs.InTable.{left_in}
use Rattle.plain.proofs.FunctionTable.subtracted.Given as goal

-- the terms are the negative parts of what is left, by the table that the closure holds
abbrev pub ghost-sum_of : goal.ghost-sum_of
ghost-sum_of a = let table = a.term.0.now in λ i. pos (neg_part (left_in table.n table.numbers.now i))
