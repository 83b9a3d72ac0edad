-- The multiplier command at a position, by what each read ensures.
use Rattle.std.proofs.Common.{◌≡◌, ◌+◌, ◌-◌, ◌≤◌, get_or, length, ℕ}
use native.Mathlib.Omega.{arith}
use mir.Facts.{to_z-of_z}
use Rattle.wire.specs.Number.{int_at}
use Rattle.certificate.specs.Rules.{arity}
use Rattle.certificate.specs.Answer.{multiplier_at}
use Rattle.certificate.proofs.Operands.{names_first, name_is, multiplier_last}
use Rattle.certificate.proofs.Sizes.{size_multiplier}
use Rattle.certificate.proofs.layout.multiplier_at.Goals as goal

pub overflow_sub-count : goal.overflow_sub-count
overflow_sub-count c = omega (arith, size_multiplier)

pub read-requires : goal.read-requires
read-requires c = omega (arith, size_multiplier)

pub returns : goal.returns
unfolding multiplier_at int_at
returns c =
    let s = c.args.bytes.now in
    let k = arity (get_or s c.args.at 0) in
    let e : c.command_size-count.result - 9 ≡ k = omega (arith, size_multiplier) in
    let f : c.args.at + 1 + k - (c.args.at + 1) ≡ k = omega arith in
    let room : c.args.at + 1 + k ≤ length s = omega (arith, size_multiplier) in
    let name = λ (i : ℕ). name_is k s (c.args.at + 1) i room in
    rw (names_first, multiplier_last, to_z-of_z (record { sfits = c.read.type_inv }), c.read.ensures, c.name_at-4.ensures, c.name_at-3.ensures, c.name_at-2.ensures, c.name_at.ensures, e, f, name 0, name 1, name 2, name 3)
