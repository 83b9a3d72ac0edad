use native.Mathlib.Omega.{arith}
use mathlib.Core.Path.{◌∙◌, ap}
use mathlib.Core.List.{◌++◌}
use lib.IntN.{pos}
use mir.Val.{bool_byte}
use Rattle.sets.specs.Sets.{is_member}
use Rattle.listing.specs.Listing.{supplier_lines}
use Rattle.listing.proofs.Bits.{supplier_bits}
use Rattle.listing.proofs.Joined.{begins, turn, room, ends}
use Rattle.listing.proofs.Listing.put_supplier_choices.Goals as goal

pub loop-i-init : goal.loop-i-init
loop-i-init c = begins _ _ _

pub put_line-requires : goal.put_line-requires
unfolding supplier_lines
put_line-requires c =
    let f = c.from in
    rw (supplier_bits c.loop-i.i (is_member c.loop-i.i c.args.plan) f.result (omega arith) (f.ensures ∙ ap (λ b. pos (bool_byte b)) c.has-fed.ensures) f.type_inv) (room _ _ _ c.loop-i.invariant (omega arith) c.requires.room)

pub loop-i-preserved : goal.loop-i-preserved
loop-i-preserved c =
    let f = c.from in
    turn _ _ _ c.loop-i.invariant (omega arith) (c.put_line.ensures ∙ ap (λ l. c.loop-i.self ++ l) (supplier_bits c.loop-i.i (is_member c.loop-i.i c.args.plan) f.result (omega arith) (f.ensures ∙ ap (λ b. pos (bool_byte b)) c.has-fed.ensures) f.type_inv))

pub returns : goal.returns
unfolding supplier_lines
returns c = ends _ _ _ c.loop-i.invariant (omega arith)
