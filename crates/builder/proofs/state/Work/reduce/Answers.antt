use Rattle.std.proofs.Common.{rules}
use mathlib.Core.Path.{◌≡◌, ◌∙◌}
use Rattle.builder.specs.Builder.{full}
use Rattle.builder.specs.Work.{list_step}
use Rattle.builder.proofs.Reducing.{reducing_starts, reduces_end, reduces_full, reduces_less, reduces_on}
use Rattle.builder.proofs.state.Work.reduce.Goals as goal

pub loop-members-init : goal.loop-members-init
loop-members-init c = reducing_starts _ _ c.requires

pub pair_up-requires : goal.pair_up-requires
pair_up-requires c = let g = c.loop-members.invariant in rw g.choices_kept g.inside

pub returns-in_err-pair_up-clause-same : goal.returns-in_err-pair_up-clause-same
returns-in_err-pair_up-clause-same c =
    let g = c.loop-members.invariant in
    let answer : list_step c.pair_up.new.self c.pair_up.new.members c.from_residual.result ≡ full = search rules in
    answer ∙ reduces_full g c.loop-members-test.true (rw g.choices_kept at (c.in_err-pair_up.ensures.same))

pub loop-members-smaller : goal.loop-members-smaller
loop-members-smaller c =
    let g = c.loop-members.invariant in
    reduces_less g c.loop-members-test.true c.pair_up.new.self c.pair_up.new.members (rw g.choices_kept at (c.in_ok-pair_up.ensures.same))

pub loop-members-preserved : goal.loop-members-preserved
loop-members-preserved c =
    let g = c.loop-members.invariant in
    reduces_on g c.loop-members-test.true c.pair_up.new.self c.pair_up.new.members (rw g.choices_kept at (c.in_ok-pair_up.ensures.same)) (c.in_ok-pair_up.ensures.choices ∙ g.choices_kept)

pub returns-clause-same : goal.returns-clause-same
returns-clause-same c = reduces_end c.loop-members.invariant c.loop-members-test.false

pub returns-clause-choices : goal.returns-clause-choices
returns-clause-choices c = c.loop-members.invariant.choices_kept
