-- By the answer's number: the bytes are there, or the line of the refusal is put there.
use native.Mathlib.Omega.{arith}
use mathlib.Core.Path.{◌≡◌, ◌∙◌, ap}
use lib.ListN.{length}
use mir.Syntax.{w8}
use mir.Val.{Fits}
use borrow.Author.Rules.{rules}
use borrow.Author.Tests.{ne_eqb}
use Rattle.listing.specs.Listing.{refusal_line}
use Rattle.listing.proofs.Lengths.{refusal_short, longest_fits}
use Rattle.console.proofs.Made.{no_line, the_line}
use Rattle.console.proofs.parts.made_of.Goals as goal

short : goal.put_refusal-requires-clause-room
short c =
    let a = c.args.answer in
    let n : Fits w8 a.number = search rules in
    omega (arith, ap length c.empty-listing.ensures, longest_fits, refusal_short a.number a.position (omega arith) c.requires.position_bound)

pub returns-then-answer-eq0-clause-text_after : goal.returns-then-answer-eq0-clause-text_after
returns-then-answer-eq0-clause-text_after c = rw (no_line c.args.answer c.if-answer-eq0.true)

pub put_refusal-requires-clause-room : goal.put_refusal-requires-clause-room
put_refusal-requires-clause-room = short

pub write_to-requires : goal.write_to-requires
write_to-requires c = let a = c.args.answer in
    let n : Fits w8 a.number = search rules in
    let put : c.put_refusal.new.self ≡ refusal_line a.number a.position = c.put_refusal.ensures ∙ rw c.empty-listing.ensures in
    omega (arith, ap length put, c.requires.room, longest_fits, refusal_short a.number a.position (omega arith) c.requires.position_bound)

pub returns-clause-value : goal.returns-clause-value
returns-clause-value c =
    let a = c.args.answer in
    let put : c.put_refusal.new.self ≡ refusal_line a.number a.position = c.put_refusal.ensures ∙ rw c.empty-listing.ensures in
    rw (ne_eqb a.number 0 c.if-answer-eq0.false, the_line a c.if-answer-eq0.false, c.write_to.ensures.value, put)

pub returns-clause-text_after : goal.returns-clause-text_after
returns-clause-text_after c =
    let a = c.args.answer in
    let put : c.put_refusal.new.self ≡ refusal_line a.number a.position = c.put_refusal.ensures ∙ rw c.empty-listing.ensures in
    rw (the_line a c.if-answer-eq0.false, c.write_to.ensures.buffer_after, c.write_to.ensures.value, put)
