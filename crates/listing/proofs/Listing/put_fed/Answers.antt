use native.Mathlib.Omega.{arith}
use mathlib.Core.Path.{◌≡◌, ◌∙◌, ap, sym}
use mathlib.Core.Bool.{true, false}
use mathlib.Core.List.{◌++◌}
use Rattle.std.proofs.lemmas.List.{append-nil}
use Rattle.sets.specs.Sets.{is_member}
use Rattle.listing.specs.Listing.{fed_lines}
use Rattle.listing.proofs.Bits.{fed_bits}
use Rattle.listing.proofs.Joined.{begins, turn, room, ends}
use Rattle.listing.proofs.Listing.put_fed.Goals as goal
use Rattle.listing.proofs.Listing.put_fed.Goals.{then-fed, else-fed}

pub loop-i-init : goal.loop-i-init
loop-i-init c = begins _ _ _

pub put_line-requires : goal.put_line-requires
unfolding fed_lines
put_line-requires c =
    let t = c.from-tank in
    let m = c.from-minute in
    let f : is_member c.loop-i.i c.args.plan ≡ true = cc in
    rw (fed_bits (is_member c.loop-i.i c.args.plan) _ _ t.result m.result f t.ensures t.type_inv m.ensures m.type_inv) (room _ _ _ c.loop-i.invariant (omega arith) c.requires.room)

pub loop-i-preserved : goal.loop-i-preserved
loop-i-preserved c =
    turn _ _ _ c.loop-i.invariant (omega arith) (elim c.if-fed.branch [
      | then-fed w ↦
          let t = w.from-tank in
          let m = w.from-minute in
          let f : is_member c.loop-i.i c.args.plan ≡ true = cc in
          w.self-is ∙ w.put_line.ensures ∙ ap (λ l. c.loop-i.self ++ l) (fed_bits (is_member c.loop-i.i c.args.plan) _ _ t.result m.result f t.ensures t.type_inv m.ensures m.type_inv)
      | else-fed w ↦
          let f : is_member c.loop-i.i c.args.plan ≡ false = cc in
          w.self-is ∙ rw f (sym (append-nil c.loop-i.self))
    ])

pub returns : goal.returns
unfolding fed_lines
returns c = ends _ _ _ c.loop-i.invariant (omega arith)
