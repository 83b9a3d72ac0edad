-- `search::lists::TermLists::list_all` meets its contract.
use Prim.Native.Nat.{◌<◌}
use lib.ListN.{length}
use Rattle.std.proofs.Common.{rules}
use Rattle.search.specs.Lent.{terms_in}
use Rattle.search.proofs.Sums.{within_small}
use Rattle.search.proofs.Listing.{all_next}
use Rattle.search.proofs.lists.TermLists.list_all.Goals as goal

pub loop-k-preserved : goal.loop-k-preserved
loop-k-preserved c =
    let l = c.loop-k in
    let r = c.args.register.now in
    let t = c.list_terms in
    let few = c.requires.choices.few in
    let room : l.k < length l.self.counts = search rules in
    rw t.ensures.counts_kept (all_next (terms_in r) (within_small r c.requires) l.self.masks _ l.self.coefficients _ l.self.counts l.k t.result room l.invariant t.ensures.masks_kept t.ensures.coefficients_kept t.ensures.listed_under)
