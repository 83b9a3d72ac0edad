-- Where a certificate's reading ends, within the job.
use mathlib.Core.Path.{◌≡◌}
use native.Mathlib.Omega.{arith}
use lib.ListN.{drop}
use Rattle.wire.specs.Outcome.{added_by}
use Rattle.wire.specs.Results.{reading_of}
use Rattle.register.specs.Register.{coefficient}
use Rattle.bound.specs.Bound.{bound}
use Rattle.bound.specs.Format.{certificate_in_job}
use Rattle.job.proofs.Positions.{certificate_within}
use Rattle.job.proofs.Answers.{of_rest, reader_within}
use Rattle.job.proofs.certificate_at.Goals as goal

pub in_job-requires : goal.in_job-requires
in_job-requires c =
    let s = c.args.job.now in
    let q = c.args.quadratization.now in
    let reads : reading_of c.check_certificate.result ≡ added_by bound (certificate_in_job (coefficient q.register) q.register q.scheme (drop c.args.from s)) =
    of_rest s c.args.from (λ l. added_by bound (certificate_in_job (coefficient q.register) q.register q.scheme l)) c.check_certificate.ensures.value in
    omega (arith, reader_within bound s c.args.from _ c.check_certificate.result reads c.requires.inside (certificate_within (coefficient q.register) q.register q.scheme (drop c.args.from s)))
