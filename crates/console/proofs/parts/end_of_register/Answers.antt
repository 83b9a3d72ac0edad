-- A part ends within its bytes.
use native.Mathlib.Omega.{arith}
use mathlib.Core.Path.{ap}
use Rattle.register.specs.Format.{register_part, register_in_job}
use Rattle.job.specs.Rest.{end_of}
use Rattle.job.proofs.Answers.{end_is_position}
use Rattle.job.proofs.Positions.{part_within}
use Rattle.console.proofs.parts.end_of_register.Goals as goal

pub returns-in-Ok-clause-within : goal.returns-in-Ok-clause-within
unfolding register_in_job
returns-in-Ok-clause-within c =
    let s = c.args.parts.now in
    omega (arith, ap end_of c.in-Ok.is, end_is_position (λ r. r) (register_in_job s) c.read_register.result c.read_register.ensures, part_within register_part s)
