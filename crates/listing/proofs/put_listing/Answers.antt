use native.Mathlib.Omega.{arith}
use Prim.Native.Nat.{◌≤◌, ◌<◌}
use mathlib.Core.Path.{◌∙◌, ap}
use lib.ListN.{length}
use Rattle.wire.specs.declared.refusals.Fault.{Fault}
use Rattle.wire.specs.Results.{number_of}
use Rattle.wire.specs.Writer.{refused_answer, written_answer}
use Rattle.listing.specs.Readers.{lines_for}
use Rattle.listing.proofs.Answers.{no_room, copied, short_table, long_table}
use Rattle.listing.proofs.put_listing.Goals as goal

pub returns-then-table-lt-NUMBERS : goal.returns-then-table-lt-NUMBERS
returns-then-table-lt-NUMBERS c =
    let a = c.args in
    let w = short_table (lines_for a.reader) a.job.now a.table.now a.buffer.now (omega arith) in
    record { value = ap (λ (f : Fault). refused_answer (number_of f.refusal) f.part f.position) c.nowhere.ensures ∙ w.0; table_after = w.1.0; buffer_after = w.1.1 }

pub returns-then-buffer-len : goal.returns-then-buffer-len
returns-then-buffer-len c =
    let a = c.args in
    let bytes = c.listing_of-listing.result in
    let short : length a.buffer.now < length bytes = omega arith in
    let w = long_table (lines_for a.reader) a.job.now a.table.now a.buffer.now (omega arith) bytes c.listing_of-listing.ensures.value _ _ _ c.listing_of-listing.ensures.table_after (no_room bytes a.buffer.now short) in
    record { value = ap (λ (f : Fault). refused_answer (number_of f.refusal) f.part f.position) c.nowhere-then-buffer-len.ensures ∙ w.0; table_after = w.1.0; buffer_after = w.1.1 }

pub returns : goal.returns
returns c =
    let a = c.args in
    let bytes = c.listing_of-listing.result in
    let fit : length bytes ≤ length a.buffer.now = omega arith in
    let w = long_table (lines_for a.reader) a.job.now a.table.now a.buffer.now (omega arith) bytes c.listing_of-listing.ensures.value _ _ _ c.listing_of-listing.ensures.table_after (copied bytes a.buffer.now fit) in
    let e = c.write_to.ensures in
    record { value = ap written_answer e.value ∙ w.0; table_after = w.1.0; buffer_after = e.buffer_after ∙ rw e.value w.1.1 }
