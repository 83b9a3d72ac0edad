-- The loop's invariant: the total is the base cost and the terms passed.
use mathlib.Core.Path.{◌≡◌}
use Rattle.search.specs.Lent.{terms_in, sum_to}
use Rattle.search.proofs.terms.sum_at.Given as goal

abbrev pub invariant-loop-t : goal.invariant-loop-t
invariant-loop-t l = l.total ≡ sum_to l.register.base (terms_in l.register) l.t l.fed l.possible
