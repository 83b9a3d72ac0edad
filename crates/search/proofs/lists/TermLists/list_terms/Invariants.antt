-- The loop's invariant: the terms passed are listed, and the places before are as they were.
use Prim.Native.Nat.{◌*◌}
use mathlib.Core.Path.{◌≡◌}
use lib.IntN.{pos}
use Rattle.register.specs.Limits.{max_terms}
use Rattle.search.specs.Lent.{terms_in, ListedUnder, Kept}
use Rattle.search.proofs.lists.TermLists.list_terms.Given as goal

abbrev pub invariant-loop-t : goal.invariant-loop-t
invariant-loop-t l = record {
  listed : ListedUnder (terms_in l.register) l.t l.k l.self.masks l.self.coefficients l.count;
  masks_kept : Kept 0 (l.k * max_terms) l.fn.self.masks l.self.masks;
  coefficients_kept : Kept (pos 0) (l.k * max_terms) l.fn.self.coefficients l.self.coefficients;
  counts_kept : l.self.counts ≡ l.fn.self.counts;
}
