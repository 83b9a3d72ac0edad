-- A set looked for among the entries below a count.
use Prim.Native.Nat.{ℕ, ◌<◌, ◌≤◌}
use native.Mathlib.Omega.{arith}
use mathlib.Core.Path.{◌≡◌, sym}
use mathlib.Core.Bool.{true, not}
use mathlib.Core.List.{List}
use lib.ListN.{length, take, get_or}
use lib.Dec.{eqb}
use borrow.Author.Tests.{eq-eqb, ne_eqb}
use Rattle.std.specs.Prelude.{Option, Some, None, MatchOption}
use Rattle.std.specs.List.{AllWithin, HoldsAt}
use Rattle.std.proofs.lemmas.List.{get_or-take, length-take-le}
use Rattle.integers.specs.Lists.{all_below}
use Rattle.integers.proofs.Lists.{T_true, all_below_by}
use Rattle.integers.proofs.Search.{first_none, first_at}
use Rattle.scheme.specs.Sets.{first_in}

module _ (sets : List ℕ) (count union : ℕ) (room : count ≤ length sets) where
  -- no entry passed is the set
  unmatched : (v : ℕ) → v ≤ count → AllWithin (λ x. x ≡ union → ⊥) (take count sets) 0 v → all_below v (λ i. not (eqb (get_or sets i 0) union)) ≡ true
  unmatched v l h = (T_true _).0 (all_below_by v _ (λ i m. rw (ne_eqb _ _ (rw (get_or-take count sets i 0 (omega arith)) at (h i 0 (omega arith) m))) tt))

  -- the first that is
  pub found : (r : Option ℕ) →
      MatchOption r (AllWithin (λ x. x ≡ union → ⊥) (take count sets) 0 (length (take count sets)))
      (λ v. (v < length (take count sets)) × HoldsAt (λ x. x ≡ union) (take count sets) v × AllWithin (λ x. x ≡ union → ⊥) (take count sets) 0 v) →
      MatchOption r (first_in sets count union ≡ count) (λ v. (v < count) × (v ≡ first_in sets count union))
  unfolding first_in
  found None h = first_none _ count (unmatched count (omega arith) (rw (length-take-le count sets room) at h))
  found (Some v) (l, here, before) =
      let m : v < count = rw (length-take-le count sets room) at l in
      (m, sym (first_at _ count v m (unmatched v (omega arith) before) (eq-eqb _ _ (rw (get_or-take count sets v 0 m) at (here 0)))))
