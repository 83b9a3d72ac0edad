-- An opened register is valid, and a part ends within its bytes.
use native.Mathlib.Omega.{arith}
use mathlib.Core.Path.{ap}
use Rattle.register.proofs.Opened.{opened_by}
use Rattle.scheme.specs.Format.{scheme_part, scheme_in_job}
use Rattle.job.specs.Rest.{end_of}
use Rattle.job.proofs.Answers.{end_is_position}
use Rattle.job.proofs.Positions.{part_within}
use Rattle.console.proofs.parts.end_of_scheme.Goals as goal

pub has_range-requires : goal.has_range-requires
has_range-requires c = (opened_by c.args.register.now c.in-Ok.register c.in-Ok.ensures).valid.within.terms.few

pub read_scheme-requires : goal.read_scheme-requires
read_scheme-requires c = (opened_by c.args.register.now c.in-Ok.register c.in-Ok.ensures).valid

pub returns-in-Ok-read_scheme-clause-within : goal.returns-in-Ok-read_scheme-clause-within
unfolding scheme_in_job
returns-in-Ok-read_scheme-clause-within c =
    let reg = c.in-Ok.register in
    let s = c.args.rest.now in
    omega (arith, ap end_of c.in-Ok-read_scheme.is, end_is_position (λ sch. sch) (scheme_in_job reg s) c.read_scheme.result c.read_scheme.ensures, part_within (scheme_part reg) s)
