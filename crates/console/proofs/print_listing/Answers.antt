use mathlib.Core.Path.{ap}
use borrow.Author.Rules.{rules}
use Rattle.wire.specs.Outcome.{accepts}
use Rattle.job.specs.Outcome.{outcome}
use Rattle.listing.specs.Listing.{listing}
use Rattle.console.proofs.Printed.{by_input, makes}
use Rattle.console.proofs.print_listing.Goals as goal

pub returns : goal.returns
returns g c =
    c.print_made.ensures (λ job. accepts (listing (outcome job)))
    (λ bytes text m after p. makes (accepts (listing (outcome bytes.now))) m text.now after.now (search rules) (search rules))
    (λ s. ap (λ o. accepts (listing o)) (by_input.job s))
