use borrow.Author.Rules.{rules}
use Rattle.console.specs.Parts.{built_scheme}
use Rattle.console.proofs.Printed.{by_input, makes}
use Rattle.console.proofs.print_scheme.Goals as goal

pub returns : goal.returns
returns g c = c.print_made.ensures built_scheme (λ bytes text m after p. search (rules, makes) depth 12) by_input.scheme
