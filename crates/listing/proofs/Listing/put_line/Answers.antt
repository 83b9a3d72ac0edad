use native.Mathlib.Omega.{arith}
use Prim.Native.Nat.{◌+◌, ◌≤◌}
use mathlib.Core.Path.{◌≡◌, ◌∙◌, ap, ap₂, sym}
use mathlib.Core.List.{◌++◌}
use lib.ListN.{take, length}
use Rattle.std.proofs.lemmas.List.{length-take-le}
use Rattle.text.specs.Text.{line}
use Rattle.wire.proofs.Written.{length-written}
use Rattle.listing.specs.Answer.{listing_room}
use Rattle.listing.specs.Held.{held}
use Rattle.listing.proofs.Room.{written_after, held_after}
use Rattle.listing.proofs.Listing.put_line.Goals as goal

pub invariant_of-self : goal.invariant_of-self
invariant_of-self c =
    let i = c.self.inside in
    let w = c.put_line-self-inside.ensures in
    let more = line c.args.letter c.args.numbers.now in
    let fit : i.count + length more ≤ length i.bytes = omega (arith, ap length c.self.view_is, length-take-le i.count i.bytes) in
    let long : length c.put_line-self-inside.new.out ≡ listing_room = omega (arith, ap length w.out_after, length-written i.bytes i.count more) in
    let short : c.put_line-self-inside.result ≤ listing_room = omega (arith, w.value) in
    (short, (long, ap held (ap₂ take w.value w.out_after) ∙ held_after i.bytes i.count more fit c.self.invariant.1.1 ∙ sym w.out_after))

pub returns : goal.returns
returns c =
    let i = c.self.inside in
    let w = c.put_line-self-inside.ensures in
    ap₂ take w.value w.out_after
    ∙ written_after i.bytes i.count (line c.args.letter c.args.numbers.now) (omega (arith, ap length c.self.view_is, length-take-le i.count i.bytes))
    ∙ ap (λ l. l ++ line c.args.letter c.args.numbers.now) c.self.view_is
