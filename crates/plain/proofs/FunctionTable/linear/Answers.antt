use mathlib.Core.Path.{◌≡◌, sym, ◌∙◌, ap}
use lib.IntN.{nat_abs}
use mir.Facts.{to_z-of_z}
use mir.Syntax.{w64}
use Rattle.plain.specs.Plain.{unless_zero, cancelling}
use Rattle.plain.proofs.BySign.{cancels_negative, cancels_positive}
use Rattle.plain.proofs.FunctionTable.linear.Goals as goal
use Rattle.plain.proofs.FunctionTable.linear.Goals.{then-left-lt0, else-left-lt0}

pub returns : goal.returns
returns c =
    let left = c.linear_left-left.result in
    let read = to_z-of_z {w = w64} {z = left} (record { sfits = c.linear_left-left.type_inv }) in
    let m : c.unsigned_abs.result ≡ nat_abs left = c.unsigned_abs.ensures.value ∙ ap nat_abs read in
    let kind : unless_zero c.if-left-lt0.kind c.args.i (nat_abs left) ≡ cancelling c.args.i left =
    elim c.if-left-lt0.branch [
      | then-left-lt0 w ↦ ap (λ k. unless_zero k c.args.i (nat_abs left)) w.kind-is ∙ sym (cancels_negative left (rw read at w.if-left-lt0.true) c.args.i)
      | else-left-lt0 w ↦ ap (λ k. unless_zero k c.args.i (nat_abs left)) w.kind-is ∙ sym (cancels_positive left (rw read at w.if-left-lt0.false) c.args.i)
    ] in
    ap (unless_zero c.if-left-lt0.kind c.args.i) m ∙ kind ∙ ap (cancelling c.args.i) c.linear_left-left.ensures
