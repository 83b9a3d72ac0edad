-- What was read stands at the front of the buffer, and is all of it or all that there is.
use borrow.Author.Rules.{rules}
use Rattle.console.proofs.Filled.{read_after}
use Rattle.console.proofs.streams.read_full.Goals as goal

pub loop-done-preserved : goal.loop-done-preserved
loop-done-preserved g c =
    let l = c.loop-done in
    let read = c.in_ok-n.ensures in
    (search rules, read_after _ _ _ l.done c.in_ok-n.n _ l.buffer c.read.new.buf l.invariant.0 read.bound.0 l.invariant.1 read.bytes.0)
