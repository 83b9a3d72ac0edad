use Prim.Native.Nat.{ℕ, ◌+◌}
use native.Mathlib.Omega.{arith}
use mathlib.Core.Path.{◌≡◌, sym, ◌∙◌, ap}
use mathlib.Core.Bool.{false}
use lib.IntN.{ℤ}
use mir.Syntax.{w8}
use mir.Val.{of_z}
use Rattle.integers.proofs.Lists.{flag}
use Rattle.wire.specs.Number.{int_at}
use Rattle.register.specs.Format.{zero_past}
use Rattle.register.proofs.Passes.{zeros_iff}
use Rattle.register.proofs.rows.past_zero.Goals as goal

pub returns-then-read-ne0 : goal.returns-then-read-ne0
returns-then-read-ne0 c =
    let entry : ℕ → ℤ = λ j. int_at w8 c.args.bytes.now (c.args.at + j) in
    let other : zero_past c.args.n entry ≡ false =
    flag (zero_past c.args.n entry) (λ t. absurd (c.if-read-ne0.true (ap (of_z w8) (c.read.ensures ∙ (zeros_iff c.args.n entry).0 t c.loop-j.j (omega arith) (omega arith))))) (λ t. t) in
    sym other

pub returns : goal.returns
returns c = sym ((zeros_iff c.args.n (λ j. int_at w8 c.args.bytes.now (c.args.at + j))).1 (λ i a l. c.loop-j.invariant i a (omega arith)))
