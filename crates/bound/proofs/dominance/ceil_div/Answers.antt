-- The quotient of −t, which `div_euclid` rounds down, taken from 0.
use Prim.Native.Nat.{ℕ, zero, suc, ◌+◌, ◌-◌, ◌/◌, ◌≤◌}
use mathlib.Core.Path.{◌≡◌, refl, ◌∙◌, ap, ap₂}
use native.Mathlib.Nat.{add-div_right, zero-div, div-eq_of_lt}
use native.Mathlib.Omega.{arith}
use lib.IntN.{ℤ, pos, negsuc, neg_ℤ, ◌-ℤ◌, +ℤ_idl}
use mir.Syntax.{w64}
use mir.Val.{to_z, of_z}
use mir.Facts.{to_z-of_z}
use Rattle.std.specs.Int.{int_div_euclid}
use Rattle.integers.specs.CeilDiv.{ceil_div}
use Rattle.integers.proofs.Order.{nat_abs_sub}
use Rattle.integers.proofs.CeilDiv.{nat_abs-ceil_div}
use Rattle.integers.proofs.Machine.{read_signed}
use Rattle.bound.proofs.dominance.ceil_div.Goals as goal

rounded_up : (t : ℤ) (s : ℕ) → 1 ≤ s → neg_ℤ (int_div_euclid (neg_ℤ t) (pos s)) ≡ ceil_div t s
unfolding ceil_div
rounded_up (pos zero) s h =
    let e : (0 + (s - 1)) / s ≡ 0 = div-eq_of_lt (omega arith) in
    rw (zero-div s, e)
rounded_up (pos (suc a)) s h =
    let e : suc a + (s - 1) ≡ a + s = omega arith in
    rw (e, add-div_right a h) (ap pos (omega arith))
rounded_up (negsuc a) s h = refl

pub returns : goal.returns
returns c =
    let t = c.args.t in
    let s = c.args.s in
    let n : to_z w64 (of_z w64 (pos 0 -ℤ to_z w64 (of_z w64 t))) ≡ neg_ℤ t = rw (to_z-of_z c.ranges.t) (read_signed w64 (pos 0 -ℤ t) (omega (arith, nat_abs_sub (pos 0) t)) ∙ +ℤ_idl (neg_ℤ t)) in
    let q : c.div_euclid.result ≡ int_div_euclid (neg_ℤ t) (pos s) = c.div_euclid.ensures ∙ ap₂ int_div_euclid n (to_z-of_z {w = w64} (record { sfits = c.from.type_inv }) ∙ c.from.ensures) in
    let r : pos 0 -ℤ to_z w64 (of_z w64 c.div_euclid.result) ≡ ceil_div t s =
    ap (λ x. pos 0 -ℤ x) (to_z-of_z {w = w64} (record { sfits = c.div_euclid.type_inv }) ∙ q) ∙ +ℤ_idl _ ∙ rounded_up t s (omega arith) in
    rw r (read_signed w64 (ceil_div t s) (omega (arith, nat_abs-ceil_div t s)))
