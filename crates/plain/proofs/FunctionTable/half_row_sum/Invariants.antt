use Rattle.integers.specs.Integer.{abs}
use Rattle.integers.specs.Sum.{except}
use Rattle.plain.specs.InTable.{products_in}
use Rattle.plain.proofs.FunctionTable.half_row_sum.Given as goal

-- the terms are the magnitudes beside the diagonal, by the table and the row that the closure holds
abbrev pub ghost-sum_of : goal.ghost-sum_of
ghost-sum_of a = let (table, row) = a.term in except row.now (λ k. abs (products_in table.now.n table.now.numbers.now row.now k))
