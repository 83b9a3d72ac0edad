-- The loop's invariant: both totals are those of the places passed.
use mathlib.Core.Path.{◌≡◌}
use Rattle.search.specs.Lent.{term_lost, term_gained, change_to}
use Rattle.search.proofs.lists.TermLists.change_of.Given as goal

abbrev pub invariant-loop-j : goal.invariant-loop-j
invariant-loop-j l = record {
  lost : l.lost ≡ change_to term_lost l.self.masks l.self.coefficients l.from l.possible l.j;
  gained : l.gained ≡ change_to term_gained l.self.masks l.self.coefficients l.from l.fed l.j;
}
