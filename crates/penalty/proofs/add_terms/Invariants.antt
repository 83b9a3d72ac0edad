-- After t turns the first t terms are added.
use Rattle.forms.specs.Store.{Adds}
use Rattle.penalty.proofs.Scaled.{first_terms}
use Rattle.penalty.proofs.add_terms.Given as goal

abbrev pub invariant-loop-t : goal.invariant-loop-t
invariant-loop-t l = Adds (first_terms l.scale l.quadratization.register l.quadratization.scheme l.t) l.fn.table l.table
