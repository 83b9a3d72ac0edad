-- By whether the buffer is short. The count is that of the bytes.
use Prim.Native.Nat.{◌≤◌, ◌<◌}
use native.Mathlib.Omega.{arith}
use mathlib.Core.Path.{◌≡◌, sym, ◌∙◌, ap}
use lib.ListN.{length}
use Rattle.std.specs.Prelude.{Err}
use Rattle.wire.specs.Writer.{refused_answer, written_answer, writer_answer}
use Rattle.wire.proofs.Writer.{bytes_short, bytes_fit}
use Rattle.costliest.specs.Costliest.{costliest_bytes}
use Rattle.costliest.proofs.Lengths.{length_costliest}
use Rattle.costliest.proofs.Stores.{register_put}
use Rattle.costliest.proofs.writing.write_register.Goals as goal

pub returns-then-out-count-clause-answer : goal.returns-then-out-count-clause-answer
returns-then-out-count-clause-answer c =
    let s = c.args.shape in
    let short : length c.args.out.now < length (costliest_bytes s.terms s.degree) = omega (arith, length_costliest s.terms s.degree, c.if-out-count.true) in
    let answer : writer_answer (Err c.nowhere.result) ≡ refused_answer 11 0 0 = rw c.nowhere.ensures in
    answer ∙ (bytes_short (costliest_bytes s.terms s.degree) c.args.out.now short).0

pub returns-then-out-count-clause-buffer : goal.returns-then-out-count-clause-buffer
returns-then-out-count-clause-buffer c =
    let s = c.args.shape in
    let short : length c.args.out.now < length (costliest_bytes s.terms s.degree) = omega (arith, length_costliest s.terms s.degree, c.if-out-count.true) in
    (bytes_short (costliest_bytes s.terms s.degree) c.args.out.now short).1

pub returns-clause-answer : goal.returns-clause-answer
returns-clause-answer c =
    let s = c.args.shape in
    let fits : length (costliest_bytes s.terms s.degree) ≤ length c.args.out.now = omega (arith, length_costliest s.terms s.degree, c.if-out-count.false) in
    ap written_answer (sym (length_costliest s.terms s.degree)) ∙ (bytes_fit (costliest_bytes s.terms s.degree) c.args.out.now fits).0

pub returns-clause-buffer : goal.returns-clause-buffer
returns-clause-buffer c =
    let s = c.args.shape in
    let fits : length (costliest_bytes s.terms s.degree) ≤ length c.args.out.now = omega (arith, length_costliest s.terms s.degree, c.if-out-count.false) in
    register_put s.terms s.degree c.args.out.now c.put_base.ensures c.put_choices.ensures c.put_terms.ensures c.write.ensures
    ∙ (bytes_fit (costliest_bytes s.terms s.degree) c.args.out.now fits).1
