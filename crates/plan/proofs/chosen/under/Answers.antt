-- The coefficients are stored one after the other; those past the count are 0 before and after.
use Prim.Native.Nat.{ℕ, suc, ◌+◌}
use native.Mathlib.Nat.{zero-add}
use native.Mathlib.Omega.{arith}
use native.Mathlib.Numerals.{add-one}
use mathlib.Core.Path.{◌≡◌, refl, sym, ◌∙◌, ap}
use mathlib.Core.Logic.{inr}
use mathlib.Core.Bool.{cond}
use mathlib.Core.List.{List, [], ◌∷◌}
use lib.Dec.{ltb}
use lib.IntN.{ℤ, pos}
use lib.ListN.{length, set}
use lib.Seq.{sets, length-sets}
use mir.Facts.{to_z-of_z}
use borrow.Author.Tests.{ltb-true, ltb-false}
use Rattle.integers.specs.Lists.{join_below}
use Rattle.integers.proofs.Lists.{flag}
use Rattle.integers.proofs.Blocks.{length_ones, ones_at, ones_are, sets_in, sets_other, sets_more}
use Rattle.sets.specs.Sets.{is_subset}
use Rattle.register.specs.declared.Register.{Register}
use Rattle.register.specs.Limits.{max_terms}
use Rattle.register.specs.Register.{mask, high}
use Rattle.register.specs.Valid.{Within}
use Rattle.plan.specs.Chosen.{chosen, chosen_list}
use Rattle.plan.proofs.Coefficients.{past_0}
use Rattle.plan.proofs.chosen.under.Goals as goal

module _ (r : Register) (plan : ℕ) where
  abbrev ones : ℕ → List ℤ
  ones t = join_below t (λ i. chosen r plan i ∷ [])

  -- with the first t chosen
  abbrev stored : ℕ → Register
  stored t = record r { coefficients = sets r.coefficients 0 (ones t) }

  -- and one more
  step : (t : ℕ) (reg : Register) → reg ≡ stored t → (z : ℤ) → z ≡ chosen reg plan t → record reg { coefficients = set reg.coefficients t z } ≡ stored (suc t)
  unfolding join_below
  step t reg e z h =
      let same : chosen (stored t) plan t ≡ chosen r plan t =
      ap (cond (is_subset (mask r t) plan) (high r t)) (sets_other (pos 0) (ones t) r.coefficients 0 t (inr (omega (arith, length_ones (chosen r plan) t)))) in
      let place : t ≡ 0 + length (ones t) = omega (arith, length_ones (chosen r plan) t) in
      let now : z ≡ chosen r plan t = rw e at h ∙ same in
      rw (e, now)
      (ap (λ n. record r { coefficients = set (sets r.coefficients 0 (ones t)) n (chosen r plan t) }) place
      ∙ ap (λ cs. record r { coefficients = cs }) (sym (sets_more (ones t) r.coefficients 0 (chosen r plan t))))

  all : Within r → chosen_list r plan ≡ sets r.coefficients 0 (ones r.terms)
  all w =
      ones_are (pos 0) max_terms (chosen r plan) (sets r.coefficients 0 (ones r.terms)) (length-sets r.coefficients 0 (ones r.terms) ∙ w.terms.coefficients.room) λ i l.
      flag (ltb i r.terms)
      (λ t.
      let k = ltb-true i r.terms t in
      rw zero-add at (sets_in (pos 0) (ones r.terms) r.coefficients 0 i (omega (arith, length_ones (chosen r plan) r.terms)) (omega (arith, length_ones (chosen r plan) r.terms, w.terms.few, w.terms.coefficients.room)))
      ∙ ones_at (chosen r plan) r.terms i (pos 0) k)
      (λ t.
      let k = ltb-false i r.terms t in
      sets_other (pos 0) (ones r.terms) r.coefficients 0 i (inr (omega (arith, length_ones (chosen r plan) r.terms)))
      ∙ w.terms.coefficients.rest i k
      ∙ sym (past_0 r w plan i k))

pub loop-t-init : goal.loop-t-init
unfolding join_below
loop-t-init c = refl

pub loop-t-preserved : goal.loop-t-preserved
loop-t-preserved c =
    rw (to_z-of_z (record { sfits = c.chosen_of.type_inv }), add-one)
    (step c.args.register c.args.plan c.loop-t.t c.loop-t.register c.loop-t.invariant c.chosen_of.result c.chosen_of.ensures)

pub returns-after-loop-t : goal.returns-after-loop-t
returns-after-loop-t c =
    let r = c.args.register in
    let some = sym c.has_range.ensures ∙ c.if-has_range.true in
    let e : c.loop-t.t ≡ r.terms = omega arith in
    c.loop-t.invariant ∙ ap (stored r c.args.plan) e ∙ rw (some, all r c.args.plan c.requires)
