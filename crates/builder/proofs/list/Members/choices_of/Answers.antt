-- By whether the choice is in the mask.
use mathlib.Core.Path.{refl, ap, ◌∙◌}
use mathlib.Core.List.{◌++◌, [], ◌∷◌}
use native.Mathlib.Omega.{arith}
use Rattle.integers.specs.Lists.{join_below}
use Rattle.builder.specs.Builder.{choices_of}
use Rattle.builder.proofs.Choosing.{choices_in, choices_out}
use Rattle.builder.proofs.list.Members.choices_of.Goals as goal
use Rattle.builder.proofs.list.Members.choices_of.Goals.{then-mask-i-eq1, else-mask-i-eq1}

pub loop-i-init : goal.loop-i-init
unfolding choices_of join_below
loop-i-init c = record { list_is = refl; count_within = omega arith }

pub loop-i-preserved : goal.loop-i-preserved
loop-i-preserved c =
    let i = c.loop-i.i in
    let g = c.loop-i.invariant in
    elim c.if-mask-i-eq1.branch [
      | then-mask-i-eq1 w ↦ rw w.members-is (record { list_is = w.push.ensures.members ∙ ap (λ l. l ++ (i ∷ [])) g.list_is ∙ choices_in i c.args.mask w.if-mask-i-eq1.true; count_within = omega (arith, w.push.ensures.count, g.count_within) })
      | else-mask-i-eq1 w ↦ rw w.members-is (record { list_is = g.list_is ∙ choices_out i c.args.mask w.if-mask-i-eq1.false; count_within = omega (arith, g.count_within) })
    ]
