-- By whether the buffer is short. The count is that of the bytes.
use Prim.Native.Nat.{◌≤◌, ◌<◌}
use mathlib.Core.Path.{◌≡◌, sym, ◌∙◌, ap}
use lib.ListN.{length}
use Rattle.std.specs.Prelude.{Err}
use Rattle.wire.specs.Writer.{refused_answer, written_answer, writer_answer}
use Rattle.wire.proofs.Writer.{bytes_short, bytes_fit}
use Rattle.scheme.specs.Encoding.{encode_scheme}
use Rattle.scheme.proofs.Encoding.{length-encode}
use Rattle.builder.proofs.writing.write_scheme.Goals as goal

pub returns-then-out-count-clause-answer : goal.returns-then-out-count-clause-answer
returns-then-out-count-clause-answer c = let s = c.args.scheme.now in λ n.
    let short : length c.args.out.now < length (encode_scheme n s) = rw (length-encode n s) c.if-out-count.true in
    let answer : writer_answer (Err c.nowhere.result) ≡ refused_answer 11 0 0 = rw c.nowhere.ensures in
    answer ∙ (bytes_short (encode_scheme n s) c.args.out.now short).0

pub returns-then-out-count-clause-buffer : goal.returns-then-out-count-clause-buffer
returns-then-out-count-clause-buffer c = let s = c.args.scheme.now in λ n.
    let short : length c.args.out.now < length (encode_scheme n s) = rw (length-encode n s) c.if-out-count.true in
    (bytes_short (encode_scheme n s) c.args.out.now short).1

pub returns-clause-answer : goal.returns-clause-answer
returns-clause-answer c = let s = c.args.scheme.now in λ n.
    let counted = length-encode n s in
    let fits : length (encode_scheme n s) ≤ length c.args.out.now = rw counted c.if-out-count.false in
    ap written_answer (sym counted) ∙ (bytes_fit (encode_scheme n s) c.args.out.now fits).0
