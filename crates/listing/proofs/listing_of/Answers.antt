use native.Mathlib.Omega.{arith}
use mathlib.Core.Path.{◌∙◌, ap}
use lib.ListN.{length}
use Rattle.listing.specs.Readers.{lines_for}
use Rattle.listing.proofs.Outcome.{read_within, accepted_listed, refused_position, refused_listed, listing_short}
use Rattle.listing.proofs.listing_of.Goals as goal

pub put_accepted-requires-clause-choices_le_max_choices : goal.put_accepted-requires-clause-choices_le_max_choices
put_accepted-requires-clause-choices_le_max_choices c = (read_within _ c.in-Ok.read c.in-Ok.ensures.value).choices.few

pub put_accepted-requires-clause-room : goal.put_accepted-requires-clause-room
put_accepted-requires-clause-room c =
    omega (arith, ap length c.empty-listing.ensures, ap length (accepted_listed _ c.in-Ok.read c.in-Ok.ensures.value (lines_for c.args.reader)), listing_short c.args.reader c.args.job.now)

pub put_refusal-requires-clause-position_bound : goal.put_refusal-requires-clause-position_bound
put_refusal-requires-clause-position_bound c = refused_position _ _ _ _ c.in-Err.ensures.value

pub put_refusal-requires-clause-room : goal.put_refusal-requires-clause-room
put_refusal-requires-clause-room c =
    rw c.number.ensures (omega (arith, ap length c.empty-listing.ensures, ap length (refused_listed _ _ _ _ c.in-Err.ensures.value (lines_for c.args.reader)), listing_short c.args.reader c.args.job.now))

pub returns-in-Ok-clause-value : goal.returns-in-Ok-clause-value
returns-in-Ok-clause-value c = c.put_accepted.ensures ∙ rw c.empty-listing.ensures (accepted_listed _ c.in-Ok.read c.in-Ok.ensures.value (lines_for c.args.reader))

pub returns-in-Err-clause-value : goal.returns-in-Err-clause-value
returns-in-Err-clause-value c = c.put_refusal.ensures ∙ rw (c.empty-listing.ensures, c.number.ensures) (refused_listed _ _ _ _ c.in-Err.ensures.value (lines_for c.args.reader))
