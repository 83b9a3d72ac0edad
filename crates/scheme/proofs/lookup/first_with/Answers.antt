-- By what the iterator's search gives.
use Rattle.std.proofs.Common.{◌≡◌, rules, tests}
use Rattle.std.proofs.lemmas.Iterator.{IsFirst-from_position, YieldsList-from_slice}
use Rattle.scheme.proofs.Search.{found}
use Rattle.scheme.proofs.lookup.first_with.Goals as goal

pub returns : goal.returns
returns c =
    let u = c.args.union in
    found _ _ _ c.requires c.position.result (IsFirst-from_position _ _ c.position.result (λ x. x ≡ u) (λ x. x ≡ u → ⊥) c.position.ensures.ran (YieldsList-from_slice _ c.iter.ensures.rest) (λ x q k. search (rules, tests)) (λ x q k. search (rules, tests)))
