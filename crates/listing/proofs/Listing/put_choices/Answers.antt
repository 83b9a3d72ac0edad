use native.Mathlib.Omega.{arith}
use mathlib.Core.Path.{◌∙◌, ap}
use mathlib.Core.List.{◌++◌}
use Rattle.listing.specs.Listing.{choice_lines}
use Rattle.listing.proofs.Bits.{choice_bits}
use Rattle.listing.proofs.Joined.{begins, turn, room, ends}
use Rattle.listing.proofs.Listing.put_choices.Goals as goal

pub loop-i-init : goal.loop-i-init
loop-i-init c = begins _ _ _

pub put_line-requires : goal.put_line-requires
unfolding choice_lines
put_line-requires c =
    let t = c.from-tank in
    let m = c.from-minute in
    rw (choice_bits c.loop-i.i _ _ t.result m.result (omega arith) t.ensures t.type_inv m.ensures m.type_inv) (room _ _ _ c.loop-i.invariant (omega arith) c.requires.room)

pub loop-i-preserved : goal.loop-i-preserved
loop-i-preserved c =
    let t = c.from-tank in
    let m = c.from-minute in
    turn _ _ _ c.loop-i.invariant (omega arith) (c.put_line.ensures ∙ ap (λ l. c.loop-i.self ++ l) (choice_bits c.loop-i.i _ _ t.result m.result (omega arith) t.ensures t.type_inv m.ensures m.type_inv))

pub returns : goal.returns
unfolding choice_lines
returns c = ends _ _ _ c.loop-i.invariant (omega arith)
