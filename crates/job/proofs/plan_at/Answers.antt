-- Where a plan's reading ends, within the job.
use mathlib.Core.Path.{◌≡◌}
use native.Mathlib.Omega.{arith}
use lib.ListN.{drop}
use Rattle.wire.specs.Outcome.{added_by}
use Rattle.wire.specs.Results.{reading_of}
use Rattle.plan.specs.Format.{plan_part, plan_in_job}
use Rattle.job.proofs.Positions.{part_within}
use Rattle.job.proofs.Answers.{of_rest, reader_within}
use Rattle.job.proofs.plan_at.Goals as goal

pub in_job-requires : goal.in_job-requires
unfolding plan_in_job
in_job-requires c =
    let s = c.args.job.now in
    let reads : reading_of c.read_plan.result ≡ added_by (λ plan. plan) (plan_in_job c.args.register (drop c.args.from s)) =
    of_rest s c.args.from (λ l. added_by (λ plan. plan) (plan_in_job c.args.register l)) c.read_plan.ensures in
    omega (arith, reader_within (λ plan. plan) s c.args.from _ c.read_plan.result reads c.requires.inside (part_within (plan_part c.args.register) (drop c.args.from s)))
