use Rattle.std.proofs.Common.{length, take, sym, ap, ◌∙◌, inl, inr, arith}
use Rattle.std.proofs.lemmas.Bool.{eqb-true, eqb-false}
use Rattle.std.proofs.lemmas.List.{append-nil}
use Rattle.std.specs.Prelude.{Some}
use Rattle.vectors.specs.Said.{at_most}
use Rattle.vectors.proofs.Pairs.{no_bytes, one_left, no_pairs, some_pairs, too_many, have_room, more_bytes, no_byte, no_bytes_left}
use Rattle.vectors.proofs.bytes.decode.Goals as goal

pub returns-then-eq-clause-value : goal.returns-then-eq-clause-value
returns-then-eq-clause-value c = sym (no_bytes c.args.field.now _ (rw c.as_slice.ensures at c.if-eq.ensures))

pub returns-in_default-clause-value : goal.returns-in_default-clause-value
returns-in_default-clause-value c =
    let odd = c.in_default.len_at_least in
    let left = c.as_chunks.ensures.back_len in
    sym (ap (at_most (length c.args.buffer.now)) (one_left c.args.field.now (rw c.as_slice.ensures at c.if-eq.ensures) (omega arith)))

pub returns-then-is_empty-clause-value : goal.returns-then-is_empty-clause-value
returns-then-is_empty-clause-value c =
    let field = c.args.field.now in
    let other = rw c.as_slice.ensures at c.if-eq.ensures in
    let even = c.in_default-empty.len_below in
    let left = c.as_chunks.ensures.back_len in
    let half = c.as_chunks.ensures.front_len in
    sym (elim c.then-is_empty.either [
      | inl none ↦
          let zero = eqb-true _ _ (sym c.is_empty.ensures ∙ none) in
          ap (at_most (length c.args.buffer.now)) (no_pairs field other (omega arith))
      | inr (some, short) ↦
          ap (at_most (length c.args.buffer.now)) (some_pairs field c.as_chunks.result.0.now other c.as_chunks.ensures.front (omega arith) (omega arith))
          ∙ too_many _ c.as_chunks.result.0.now short
    ])

pub returns-in_err-buffer-clause-value : goal.returns-in_err-buffer-clause-value
returns-in_err-buffer-clause-value c =
    let some = eqb-false _ _ (sym c.if-is_empty.ensures) in
    let other = rw c.as_slice.ensures at c.if-eq.ensures in
    let even = c.in_default-empty.len_below in
    let left = c.as_chunks.ensures.back_len in
    let half = c.as_chunks.ensures.front_len in
    let pairs = c.as_chunks.result.0.now in
    rw c.from_residual.ensures (sym (
    ap (at_most (length c.args.buffer.now)) (some_pairs c.args.field.now pairs other c.as_chunks.ensures.front (omega arith) (omega arith))
    ∙ have_room (length c.args.buffer.now) pairs c.if-buffer-pairs.false
    ∙ sym c.loop-i.invariant
    ∙ no_byte c.loop-i.buffer c.loop-i.i pairs c.loop-i-test.true c.in_err-buffer.ensures))

pub loop-i-preserved : goal.loop-i-preserved
loop-i-preserved c =
    let room = c.if-buffer-pairs.false in
    let same = c.loop-i.auto.buffer in
    let inside = c.loop-i-test.true in
    more_bytes c.loop-i.buffer c.loop-i.i c.as_chunks.result.0.now inside (omega arith) _ c.in_ok-buffer.ensures ∙ c.loop-i.invariant

pub returns-clause-value : goal.returns-clause-value
returns-clause-value c =
    let some = eqb-false _ _ (sym c.if-is_empty.ensures) in
    let other = rw c.as_slice.ensures at c.if-eq.ensures in
    let even = c.in_default-empty.len_below in
    let left = c.as_chunks.ensures.back_len in
    let half = c.as_chunks.ensures.front_len in
    let pairs = c.as_chunks.result.0.now in
    let done = c.loop-i-test.false in
    let last = c.loop-i.auto.i-end in
    sym (
    ap (at_most (length c.args.buffer.now)) (some_pairs c.args.field.now pairs other c.as_chunks.ensures.front (omega arith) (omega arith))
    ∙ have_room (length c.args.buffer.now) pairs c.if-buffer-pairs.false
    ∙ sym c.loop-i.invariant
    ∙ no_bytes_left c.loop-i.buffer c.loop-i.i pairs done
    ∙ ap Some (append-nil (take c.loop-i.i c.loop-i.buffer))
    ∙ ap (λ k. Some (take k c.loop-i.buffer)) (omega arith))
