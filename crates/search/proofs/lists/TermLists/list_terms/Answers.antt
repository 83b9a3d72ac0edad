-- `search::lists::TermLists::list_terms` meets its contract.
use Prim.Native.Nat.{◌+◌, ◌*◌, ◌<◌}
use native.Mathlib.Omega.{arith}
use mathlib.Core.Path.{◌≡◌, refl, ◌∙◌, ap}
use mathlib.Core.Bool.{Bool, true, false, cond}
use lib.IntN.{pos}
use lib.ListN.{length}
use mir.Syntax.{w32}
use mir.Val.{to_z, of_z, bool_byte}
use Rattle.std.proofs.Common.{rules}
use Rattle.integers.proofs.Machine.{read_signed}
use Rattle.register.specs.Limits.{max_terms}
use Rattle.search.specs.Lent.{terms_in, mask_of, coefficient_of, is_listed}
use Rattle.search.proofs.Sums.{within_small}
use Rattle.search.proofs.Listing.{kept_next, listed_none, listed_next}
use Rattle.search.proofs.lists.TermLists.list_terms.Goals as goal

one_where : (b : Bool) → bool_byte b ≡ cond b 1 0
one_where true = refl
one_where false = refl

pub loop-t-init : goal.loop-t-init
loop-t-init c = record { listed = listed_none _ _ _ _ _; masks_kept = λ p l. refl; coefficients_kept = λ p l. refl; counts_kept = refl }

pub loop-t-preserved : goal.loop-t-preserved
loop-t-preserved c =
    let l = c.loop-t in
    let h = l.invariant in
    let r = terms_in c.args.register.now in
    let from = c.args.k * max_terms in
    let w = within_small c.args.register.now c.requires.within in
    let room : from + l.count < length l.self.masks = search rules in
    let room' : from + l.count < length l.self.coefficients = search rules in
    let small = w.coefficients_within l.t in
    let read : to_z w32 (of_z w32 (coefficient_of r l.t)) ≡ coefficient_of r l.t = read_signed w32 (coefficient_of r l.t) (omega arith) in
    let told : c.is_listed.result ≡ is_listed c.args.k (mask_of r l.t) (coefficient_of r l.t) = c.is_listed.ensures ∙ ap (is_listed c.args.k (mask_of r l.t)) read in
    record {
      listed = rw (c.from-count.ensures, one_where c.is_listed.result, read) (listed_next _ r from w l.self.masks l.self.coefficients l.t l.count room room' c.is_listed.result told h.listed);
      masks_kept = kept_next 0 from (from + l.count) c.args.self.now.masks l.self.masks _ (omega arith) h.masks_kept;
      coefficients_kept = kept_next (pos 0) from (from + l.count) c.args.self.now.coefficients l.self.coefficients _ (omega arith) h.coefficients_kept;
      counts_kept = h.counts_kept;
    }
