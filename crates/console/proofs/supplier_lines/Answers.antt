-- The text has room for every listing.
use native.Mathlib.Omega.{arith}
use lib.IntN.{pos}
use lib.ListN.{replicate, length-replicate}
use Rattle.forms.specs.Table.{table_numbers}
use Rattle.listing.specs.Listing.{supplier_lines}
use Rattle.console.proofs.Front.{listed_front}
use Rattle.console.proofs.supplier_lines.Goals as goal

pub returns : goal.returns
returns c =
    let e = c.feedcheck_supplier_listing-answer.ensures in
    let h =
    listed_front supplier_lines c.args.job.now (replicate table_numbers (pos 0)) c.args.text.now c.feedcheck_supplier_listing-answer.result _
    (omega (arith, length-replicate table_numbers (pos 0))) c.requires e.value e.buffer_after e.listing_within
    in
    record { value = h.0; text_after = h.1.0; within = h.1.1 }
