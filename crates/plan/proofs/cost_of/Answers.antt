-- `plan::cost_of` meets its contract.
use Prim.Native.Nat.{ℕ, ◌+◌, ◌<◌}
use mathlib.Core.Path.{◌≡◌, ◌∙◌, ap}
use lib.IntN.{◌+ℤ◌}
use mir.Syntax.{w64}
use mir.Val.{SFits, to_z, of_z}
use mir.Facts.{to_z-of_z}
use Rattle.std.proofs.Common.{arith}
use Rattle.std.proofs.lemmas.Int.{ints}
use Rattle.integers.proofs.Machine.{fits_signed}
use Rattle.register.specs.declared.Register.{Register}
use Rattle.register.specs.Register.{high}
use Rattle.register.specs.Valid.{Within}
use Rattle.register.proofs.Ranged.{high_small}
use Rattle.plan.proofs.Ranges.{cost_high}
use Rattle.plan.proofs.Bounds.{cost_to, cost_to_zero, cost_to_next, cost_to_all, cost_to_small}
use Rattle.plan.proofs.cost_of.Goals as goal

fits : (r : Register) (plan t : ℕ) → Within r → t < r.terms → SFits w64 (cost_to (high r) r plan (t + 1))
fits r plan t w l = fits_signed w64 (cost_to (high r) r plan (t + 1)) (omega (arith, cost_to_small (high r) r plan w (λ t l. high_small r w t) (t + 1) (omega arith)))

-- the total that a turn makes
total : (c : goal.After-from-total-in-loop-t) → to_z w64 c.loop-t.total-bits +ℤ to_z w64 (of_z w64 c.from-total-in-loop-t.result) ≡ cost_to (high c.args.register) c.args.register c.args.plan (c.loop-t.t + 1)
total c = grind (arith, ints, to_z-of_z, cost_to_next)

pub loop-t-init : goal.loop-t-init
loop-t-init c = grind (arith, ints, to_z-of_z, cost_to_zero)

pub overflow_add-total : goal.overflow_add-total
overflow_add-total c = rw (total c) (fits c.args.register c.args.plan c.loop-t.t c.requires c.loop-t-test.true)

pub loop-t-preserved : goal.loop-t-preserved
loop-t-preserved c = rw (total c) (to_z-of_z (fits c.args.register c.args.plan c.loop-t.t c.requires c.loop-t-test.true))

pub returns : goal.returns
returns c =
    let e : c.loop-t.t ≡ c.args.register.terms = omega arith in
    let r = c.args.register in
    c.loop-t.invariant ∙ ap (cost_to (high r) r c.args.plan) e ∙ cost_to_all (high r) r c.args.plan ∙ cost_high r c.args.plan
