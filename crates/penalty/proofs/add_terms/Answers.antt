use mathlib.Core.Path.{◌≡◌}
use Prim.Native.Nat.{ℕ, ◌≤◌, ◌<◌}
use native.Mathlib.Omega.{arith}
use lib.IntN.{ℤ, nat_abs}
use mir.Syntax.{w32, w64}
use mir.Val.{to_z, of_z}
use Rattle.integers.specs.Lists.{join_below}
use Rattle.integers.proofs.Machine.{read_signed}
use Rattle.forms.proofs.Added.{adds_none}
use Rattle.register.specs.declared.Register.{Register}
use Rattle.register.specs.Register.{coefficient}
use Rattle.register.specs.Valid.{Within}
use Rattle.penalty.specs.Multiple.{max_multiple}
use Rattle.penalty.proofs.Scaled.{Product, product, terms_room, terms_turn}
use Rattle.scheme.proofs.Truncated.{valid_register}
use Rattle.penalty.proofs.add_terms.Goals as goal

-- the scale as the code has it
small : (z : ℤ) → nat_abs z ≤ max_multiple → nat_abs (to_z w64 (of_z w64 z)) ≤ max_multiple
small z h = rw (read_signed w64 z (omega arith)) h

-- times the coefficient of term t
scaled : (z : ℤ) (r : Register) (t : ℕ) (y : ℤ) → y ≡ to_z w32 (of_z w32 (coefficient r t)) → nat_abs z ≤ max_multiple → Within r → t < r.terms → Product (to_z w64 (of_z w64 z)) (coefficient r t) y
scaled z r t y e h within l =
    let m = (within.terms.each t l).coefficient_within in
    product (to_z w64 (of_z w64 z)) (coefficient r t) y e (small z h) (omega arith)

pub loop-t-init : goal.loop-t-init
unfolding join_below
loop-t-init c = adds_none _

pub overflow_mul-scale : goal.overflow_mul-scale
overflow_mul-scale c =
    let q = c.args.quadratization.now in
    (scaled c.args.scale q.register c.loop-t.t _ c.from-in-loop-t-2.ensures c.requires.scale_bound (valid_register q.register_valid).within (omega arith)).fits

pub add_term-requires-clause-room : goal.add_term-requires-clause-room
add_term-requires-clause-room c =
    let q = c.args.quadratization.now in
    terms_room (to_z w64 (of_z w64 c.args.scale)) q.register q.scheme c.loop-t.t c.loop-t.invariant
    (valid_register q.register_valid).within q.scheme_valid c.requires.side_value c.requires.room (small c.args.scale c.requires.scale_bound) (omega arith)

pub add_term-requires-clause-c_bound : goal.add_term-requires-clause-c_bound
add_term-requires-clause-c_bound c =
    let q = c.args.quadratization.now in
    let k = scaled c.args.scale q.register c.loop-t.t _ c.from-in-loop-t-2.ensures c.requires.scale_bound (valid_register q.register_valid).within (omega arith) in
    rw k.reads (omega (arith, k.low))

pub loop-t-preserved : goal.loop-t-preserved
loop-t-preserved c =
    let q = c.args.quadratization.now in
    terms_turn (to_z w64 (of_z w64 c.args.scale)) q.register q.scheme c.loop-t.t c.loop-t.invariant _
    (scaled c.args.scale q.register c.loop-t.t _ c.from-in-loop-t-2.ensures c.requires.scale_bound (valid_register q.register_valid).within (omega arith)).reads
    (rw (c.from.ensures, c.from-in-loop-t.ensures) at c.add_term.ensures)
