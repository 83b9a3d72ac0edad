-- The text has room for every listing.
use native.Mathlib.Omega.{arith}
use lib.IntN.{pos}
use lib.ListN.{length-replicate}
use Rattle.forms.specs.Table.{table_numbers}
use Rattle.listing.specs.Listing.{plan_lines}
use Rattle.console.proofs.Front.{listed_front}
use Rattle.console.proofs.lines_of.Goals as goal

pub returns : goal.returns
returns c =
    let counted = c.feedcheck_job-counted.ensures in
    let e = c.feedcheck_listing-answer.ensures in
    let h =
    listed_front plan_lines c.args.job.now c.feedcheck_job-counted.new.table c.args.text.now c.feedcheck_listing-answer.result _
    (omega (arith, c.feedcheck_job-counted.auto.table, length-replicate table_numbers (pos 0))) c.requires e.value e.buffer_after e.listing_within
    in
    record { value = h.0; tally_after = rw counted.value (rw c.fresh.ensures); text_after = h.1.0; within = h.1.1 }
