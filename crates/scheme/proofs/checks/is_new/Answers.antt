-- By what the search gives.
use Prim.Native.Nat.{ℕ, ◌<◌}
use native.Mathlib.Omega.{arith}
use mathlib.Core.Path.{◌≡◌, sym, ◌∙◌}
use mathlib.Core.Bool.{Bool, true, false, not, false≢true}
use mathlib.Core.List.{List}
use borrow.Author.Tests.{eq-eqb, ne_eqb}
use Rattle.std.specs.Prelude.{Option, Some, None, MatchOption, is_some}
use Rattle.integers.proofs.Search.{none_is_lem}
use Rattle.scheme.specs.Sets.{none_is, first_in}
use Rattle.scheme.proofs.checks.is_new.Goals as goal

unmatched : (sets : List ℕ) (count union : ℕ) (r : Option ℕ) (b : Bool) → MatchOption r (first_in sets count union ≡ count) (λ v. (v < count) × (v ≡ first_in sets count union)) → is_some r ≡ not b → b ≡ none_is sets count union
unfolding first_in none_is
unmatched sets count union None true m e = sym (eq-eqb _ _ m) ∙ none_is_lem _ count
unmatched sets count union None false m e = absurd (false≢true e)
unmatched sets count union (Some v) true m e = absurd (false≢true (sym e))
unmatched sets count union (Some v) false (l, m) e = sym (ne_eqb _ _ (λ d. omega arith)) ∙ none_is_lem _ count

pub returns : goal.returns
returns c = unmatched _ _ _ _ _ c.first_with.ensures c.is_none.ensures
