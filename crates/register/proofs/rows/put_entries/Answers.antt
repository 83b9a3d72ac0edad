use Prim.Native.Nat.{ℕ, ◌+◌}
use native.Mathlib.Numerals.{add-one}
use mathlib.Core.Path.{refl, sym, ◌∙◌, ap}
use mathlib.Core.List.{[], ◌∷◌}
use lib.IntN.{ℤ}
use lib.ListN.{set}
use lib.Seq.{sets}
use mir.Syntax.{w8}
use mir.Facts.{to_z-of_z}
use Rattle.integers.specs.Lists.{join_below}
use Rattle.integers.proofs.Blocks.{length_ones, sets_more}
use Rattle.wire.specs.Number.{int_at}
use Rattle.register.proofs.rows.put_entries.Goals as goal

pub loop-j-init : goal.loop-j-init
unfolding join_below
loop-j-init c = refl

pub loop-j-preserved : goal.loop-j-preserved
unfolding join_below
loop-j-preserved c =
    let entry : ℕ → ℤ = λ i. int_at w8 c.args.bytes.now (c.args.at + i) in
    let j = c.loop-j.j in
    let place = c.args.place in
    rw (to_z-of_z (record { sfits = c.read.type_inv }), c.read.ensures, c.loop-j.invariant, add-one)
    (ap (λ n. set (sets c.args.entries.now place (join_below j (λ i. entry i ∷ []))) (place + n) (entry j)) (sym (length_ones entry j)) ∙ sym (sets_more (join_below j (λ i. entry i ∷ [])) c.args.entries.now place (entry j)))
