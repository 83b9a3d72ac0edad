-- The loop's invariant: terms are listed under the choices passed.
use Rattle.search.specs.Lent.{terms_in, AllListed}
use Rattle.search.proofs.lists.TermLists.list_all.Given as goal

abbrev pub invariant-loop-k : goal.invariant-loop-k
invariant-loop-k l = AllListed (terms_in l.register) l.k l.self.masks l.self.coefficients l.self.counts
