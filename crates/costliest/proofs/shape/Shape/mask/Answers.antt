-- No bit of the shifted ones is lost, in 64 bits or in 32.
use Prim.Native.Nat.{◌+◌, ◌*◌, ◌≤◌}
use mathlib.Core.Path.{sym, ◌∙◌, subst}
use native.Mathlib.Omega.{arith}
use mir.Syntax.{w32}
use mir.Val.{Fits}
use Rattle.costliest.proofs.Masks.{run_inside, mask_number}
use Rattle.costliest.proofs.Shifts.{number_fits, shifted}
use Rattle.costliest.proofs.shape.Shape.mask.Goals as goal

pub returns : goal.returns
returns c =
    let s = c.args.self in
    let t = c.args.t in
    let small : t * s.degree + s.degree ≤ 32 = omega (arith, run_inside s.terms s.degree t c.requires, s.admitted.small) in
    shifted s.degree t small ∙ sym (mask_number s.terms s.degree t c.requires (omega (arith, s.admitted.deep)))

pub overflow_cast-result : goal.overflow_cast-result
overflow_cast-result c =
    let s = c.args.self in
    let t = c.args.t in
    let small : t * s.degree + s.degree ≤ 32 = omega (arith, run_inside s.terms s.degree t c.requires, s.admitted.small) in
    subst (Fits w32) (sym (shifted s.degree t small)) (record { fits = number_fits s.degree t small })
