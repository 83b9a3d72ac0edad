-- `plan::rows::fed_sum` meets its contract. The choices past the entries of a row are in none.
use Prim.Native.Nat.{min}
use mathlib.Core.Path.{◌≡◌, ◌∙◌, ap}
use Rattle.std.proofs.Common.{arith, rules}
use Rattle.std.proofs.lemmas.Int.{ints, to_z-of_z}
use Rattle.register.specs.Limits.{row_entries}
use Rattle.register.specs.Register.{row_entry}
use Rattle.register.proofs.Entries.{entry_past}
use Rattle.plan.specs.Fits.{fed_sum}
use Rattle.plan.proofs.Fits.{fed_sum-zero, fed_sum-next, fed_sum_min}
use Rattle.plan.proofs.rows.fed_sum.Goals as goal

pub loop-j-init : goal.loop-j-init
loop-j-init c = record { so_far = search (rules, fed_sum-zero); above = omega (arith, ints); below = omega (arith, ints) }

pub loop-j-preserved : goal.loop-j-preserved
loop-j-preserved c = record {
  so_far = grind (arith, ints, to_z-of_z, fed_sum-next);
  above = omega (arith, ints);
  below = omega (arith, ints);
}

pub returns : goal.returns
returns c =
    let r = c.args.register.now in
    let entry = row_entry r c.args.row in
    let last : c.loop-j.j ≡ min r.choices row_entries = omega arith in
    c.loop-j.invariant.so_far ∙ ap (λ n. fed_sum n entry c.args.plan) last ∙ fed_sum_min r.choices row_entries entry c.args.plan (entry_past r.row_entries c.args.row)
