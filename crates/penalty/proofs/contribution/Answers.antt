-- Both variables of the split can be followed down; the coefficient keeps its magnitude.
use mathlib.Core.Path.{◌≡◌, ap, sym, ◌∙◌}
use mathlib.Core.Bool.{true, false}
use native.Mathlib.Omega.{arith}
use mir.Syntax.{w32}
use Rattle.integers.specs.Integer.{abs}
use Rattle.integers.proofs.Machine.{read_signed}
use Rattle.register.specs.Register.{coefficient}
use Rattle.scheme.proofs.Truncated.{valid_register}
use Rattle.penalty.specs.Weights.{reaches, uses}
use Rattle.penalty.proofs.contribution.Goals as goal
use Rattle.penalty.proofs.contribution.Goals.{then-reaches, else-reaches}

pub returns-then-used : goal.returns-then-used
unfolding uses abs
returns-then-used c =
    let q = c.args.quadratization.now in
    let m = ((valid_register q.register_valid).within.terms.each c.args.t c.requires).coefficient_within in
    let u : uses q.register.choices q.scheme c.args.k c.args.t ≡ true =
    elim c.if-reaches.branch [
      | then-reaches w ↦ rw (sym (c.reaches.ensures ∙ ap (reaches q.register.choices q.scheme c.args.k) c.from.ensures) ∙ w.if-reaches.true)
      | else-reaches w ↦ rw (sym (c.reaches.ensures ∙ ap (reaches q.register.choices q.scheme c.args.k) c.from.ensures) ∙ w.if-reaches.false, sym (w.reaches-used.ensures ∙ ap (reaches q.register.choices q.scheme c.args.k) w.from-else-reaches.ensures) ∙ sym w.used-is ∙ c.if-used.true)
    ] in
    rw (u, c.from-then-used.ensures, c.unsigned_abs.ensures.value, read_signed w32 (coefficient q.register c.args.t) (omega arith))

pub returns-else-used : goal.returns-else-used
unfolding uses
returns-else-used c =
    let q = c.args.quadratization.now in
    let u : uses q.register.choices q.scheme c.args.k c.args.t ≡ false =
    elim c.if-reaches.branch [
      | then-reaches w ↦ absurd (cc (w.used-is, c.if-used.false))
      | else-reaches w ↦ rw (sym (c.reaches.ensures ∙ ap (reaches q.register.choices q.scheme c.args.k) c.from.ensures) ∙ w.if-reaches.false, sym (w.reaches-used.ensures ∙ ap (reaches q.register.choices q.scheme c.args.k) w.from-else-reaches.ensures) ∙ sym w.used-is ∙ c.if-used.false)
    ] in
    rw u
