use borrow.Author.Rules.{rules}
use Rattle.console.specs.Parts.{certificate_after}
use Rattle.console.proofs.Printed.{by_input, makes}
use Rattle.console.proofs.print_certificate.Goals as goal

pub returns : goal.returns
returns g c = c.print_made.ensures certificate_after (λ bytes text m after p. search (rules, makes) depth 12) by_input.certificate
