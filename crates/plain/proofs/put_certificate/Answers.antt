use Prim.Native.Nat.{ℕ, ◌+◌, ◌≤◌}
use mathlib.Core.List.{List}
use mathlib.Core.Path.{◌≡◌, ◌∙◌, ap, ap₂}
use native.Mathlib.Omega.{arith}
use lib.IntN.{ℤ, pos, nat_abs, ◌-ℤ◌}
use lib.ListN.{length}
use mir.Facts.{to_z-of_z}
use mir.Syntax.{w64}
use mir.Val.{SFits, to_z, of_z}
use Rattle.integers.proofs.Machine.{fits_signed, read_signed, read_unsigned}
use Rattle.integers.proofs.Order.{nat_abs_sub}
use Rattle.wire.specs.Number.{put_at, written}
use Rattle.wire.proofs.Written.{Wrote, and_then, put_at_next, one_byte}
use Rattle.certificate.specs.Encoding.{encode_scale}
use Rattle.register.specs.Limits.{max_base}
use Rattle.plain.specs.Encoding.{encode_multipliers}
use Rattle.plain.specs.InTable.{Small, subtracted_in, diagonals_in, linears_in, encode_in}
use Rattle.plain.proofs.Sizes.{max_subtracted}
use Rattle.plain.proofs.InTable.{total_small}
use Rattle.plain.proofs.Encoded.{length_scale, encode_parts, length_parts}
use borrow.Author.Rules.{rules}
use contract.BorrowLft.{⊑_meet, ⊑_static}
use Rattle.plain.proofs.put_certificate.Goals as goal

module _ (n : ℕ) (t : List ℤ) (ok : Small n t) (base : ℤ) where
  -- the target
  abbrev target : ℤ
  target = base -ℤ subtracted_in n t

  -- x is what the code subtracts
  module _ (x : ℕ) (e : pos x ≡ subtracted_in n t) where
    taken_small : x ≤ max_subtracted
    taken_small = omega (arith, ap nat_abs e, total_small n t ok)

    taken_fits : SFits w64 (pos x)
    taken_fits = fits_signed w64 (pos x) (omega (arith, taken_small))

    module _ (low : nat_abs base ≤ max_base) (fits : SFits w64 base) where
      difference : to_z w64 (of_z w64 base) -ℤ to_z w64 x ≡ target
      difference = ap₂ ◌-ℤ◌ (to_z-of_z fits) (read_unsigned w64 x (omega (arith, taken_small)) ∙ e)

      target_small : nat_abs target ≤ max_base + max_subtracted
      target_small = omega (arith, nat_abs_sub base (subtracted_in n t), total_small n t ok, low)

      target_fits : SFits w64 (to_z w64 (of_z w64 base) -ℤ to_z w64 x)
      target_fits = rw difference (fits_signed w64 target (omega (arith, target_small)))

      target_read : to_z w64 (of_z w64 (to_z w64 (of_z w64 base) -ℤ to_z w64 x)) ≡ target
      target_read = ap (λ y. to_z w64 (of_z w64 y)) difference ∙ read_signed w64 target (omega (arith, target_small))

  -- the buffer has room for all
  total : (out : List ℕ) → length (encode_in n base t) ≤ length out →
      13 + length (encode_multipliers (diagonals_in n t)) + length (encode_multipliers (linears_in n t)) + 1 ≤ length out
  unfolding encode_in
  total out h = omega (arith, length_parts 1 target (diagonals_in n t) (linears_in n t), h)

pub overflow_cast-subtracted : goal.overflow_cast-subtracted
overflow_cast-subtracted c = taken_fits _ _ c.args.table.now.small c.args.base _ c.subtracted.ensures

pub overflow_sub-base : goal.overflow_sub-base
overflow_sub-base c = target_fits _ _ c.args.table.now.small c.args.base _ c.subtracted.ensures c.requires.base_bound c.ranges.base

pub put_scale-requires : goal.put_scale-requires
put_scale-requires c = omega (arith, total _ _ c.args.table.now.small c.args.base _ c.requires.out_in_bounds)

pub put_commands-middle-requires : goal.put_commands-middle-requires
put_commands-middle-requires c κs within = (
  search (rules, ⊑_meet, ⊑_static) depth 12,
  (search rules, ((λ i x l p. search rules), omega (arith, total _ _ c.args.table.now.small c.args.base _ c.requires.out_in_bounds))),
)

pub put_commands-end-requires : goal.put_commands-end-requires
put_commands-end-requires c κs within = (
  search (rules, ⊑_meet, ⊑_static) depth 12,
  (
    search rules,
    (
      (λ i x l p. search rules),
      omega (arith, total _ _ c.args.table.now.small c.args.base _ c.requires.out_in_bounds, c.put_commands-middle.ensures.value),
    ),
  ),
)

pub write-requires : goal.write-requires
write-requires c =
    omega (arith, total _ _ c.args.table.now.small c.args.base _ c.requires.out_in_bounds, c.put_commands-middle.ensures.value, c.put_commands-end.ensures.value)

pub returns : goal.returns
unfolding encode_in
returns c =
    let n = c.args.table.now.n in
    let t = c.args.table.now.numbers.now in
    let o = c.args.out.now in
    let aim = target n t c.args.table.now.small c.args.base in
    let read = target_read n t c.args.table.now.small c.args.base _ c.subtracted.ensures c.requires.base_bound c.ranges.base in
    let scale : Wrote o 0 (encode_scale 1 aim) 13 c.put_scale.new.out =
    (omega (arith, length_scale 1 aim), c.put_scale.ensures ∙ ap (λ x. written o 0 (encode_scale 1 x)) read) in
    let diagonals = and_then o 0 _ (encode_multipliers (diagonals_in n t)) scale (c.put_commands-middle.ensures.value, c.put_commands-middle.ensures.out_after) in
    let linears = and_then o 0 _ (encode_multipliers (linears_in n t)) diagonals (c.put_commands-end.ensures.value, c.put_commands-end.ensures.out_after) in
    c.write.ensures
    ∙ ap (λ x. put_at 1 x c.put_commands-end.result 0x3F) linears.1
    ∙ put_at_next o 0 _ c.put_commands-end.result 1 0x3F linears.0
    ∙ ap (written o 0) (rw (one_byte 0x3F (omega arith)) (encode_parts 1 aim (diagonals_in n t) (linears_in n t)))
