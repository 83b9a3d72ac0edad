use Rattle.plain.specs.InTable.{diagonal_in, linear_in}
use Rattle.plain.proofs.put_certificate.Given as goal

-- first `31` of each variable, then `38` or `39`

abbrev pub ghost-put_commands : goal.ghost-put_commands
ghost-put_commands a = let table = a.command.0.now in diagonal_in table.n table.numbers.now

abbrev pub ghost-put_commands-2 : goal.ghost-put_commands-2
ghost-put_commands-2 a = let table = a.command.0.now in linear_in table.n table.numbers.now
