-- `search::walk_from_empty` meets its contract. The terms are listed, and the walk begins with the sum at the empty partial plan.
use Prim.Native.Nat.{ℕ, ◌-◌, ◌*◌, ◌%◌, ◌^◌}
use mathlib.Core.Path.{◌≡◌, ◌∙◌}
use mir.Syntax.{w64}
use mir.Val.{SFits, to_z, of_z}
use mir.Facts.{to_z-of_z}
use mathlib.Core.List.{List}
use lib.IntN.{ℤ}
use Rattle.std.proofs.Common.{Bool}
use Rattle.register.specs.declared.Register.{Register}
use Rattle.register.specs.Register.{coefficient}
use Rattle.register.specs.Valid.{Within}
use Rattle.plan.specs.Fits.{fits as fits_test}
use Rattle.search.specs.declared.Walked.{Walked}
use Rattle.search.specs.Walk.{Best, start, walk}
use Rattle.search.specs.Answer.{search as rule}
use Rattle.search.specs.Lent.{terms_in, sum_to, lent_sum, AllListed, At, walked_of, UpTo}
use Rattle.search.proofs.Sums.{within_small}
use Rattle.search.proofs.Going.{shifted, empty_sum, empty_at}
use Rattle.search.proofs.Answers.{search_lent}
use Rattle.search.proofs.walk_from_empty.Goals as goal

module _ {r : Register} (w : Within r) {masks : List ℕ} {coefficients : List ℤ} {counts : List ℕ} {s : ℤ} (listed : AllListed (terms_in r) r.choices masks coefficients counts) (fits : SFits w64 s)
    (is : s ≡ sum_to r.base (terms_in r) r.terms 0 (1 * 2 ^ r.choices % 18446744073709551616 - 1)) where
  -- what is known at the empty partial plan
  abbrev begins : At masks coefficients counts r.choices 0 (to_z w64 (of_z w64 s))
  begins = empty_at r.base (terms_in r) w.base (within_small r w) listed w.choices.few (to_z-of_z fits ∙ is ∙ rw (shifted r.choices w.choices.few) (empty_sum r.base (terms_in r) r.choices))

  -- and what the walk has come to
  came : (limit : ℕ) {l : ℕ} (before walked : Walked) (ok : Bool) → before ≡ walked_of start → l ≡ limit →
      ((a : At masks coefficients counts r.choices 0 (to_z w64 (of_z w64 s))) (w : Best) → before ≡ walked_of w → UpTo l (walk (lent_sum a.base a.terms) (fits_test r) r.choices 0 w) walked ok) →
      UpTo limit (rule (coefficient r) r) walked ok
  came limit before walked ok b e h = rw (e, search_lent r) at (h begins start b)

pub walk-requires-clause-at : goal.walk-requires-clause-at
walk-requires-clause-at c = begins c.requires.within c.list_all.ensures (record { sfits = c.sum_at-sum.type_inv }) c.sum_at-sum.ensures

pub returns-clause-reached : goal.returns-clause-reached
returns-clause-reached c = came c.requires.within c.list_all.ensures (record { sfits = c.sum_at-sum.type_inv }) c.sum_at-sum.ensures c.args.limit _ _ _ c.requires.fresh c.from.ensures c.walk.ensures.reached
