use mathlib.Core.Path.{ap}
use borrow.Author.Rules.{rules}
use Rattle.wire.specs.Outcome.{accepts}
use Rattle.console.specs.Cheapest.{cheapest_lines}
use Rattle.console.proofs.Printed.{by_input, makes}
use Rattle.console.proofs.print_cheapest.Goals as goal

pub returns : goal.returns
returns g c =
    c.print_made.ensures (λ register. accepts (cheapest_lines register c.args.limit))
    (λ bytes text m after p. makes (accepts (cheapest_lines bytes.now c.args.limit)) m text.now after.now (search rules) (search rules))
    (λ s. ap accepts (by_input.cheapest s c.args.limit))
