-- The fourth test of a range fails: the one goal that the function's tactic leaves open.
use borrow.Author.Rules.{rules}
use Rattle.wire.specs.Checks.{refusal}
use Rattle.register.specs.Format.{range_checks}
use Rattle.register.proofs.checks.range_refusal.Goals as goal

pub returns-in_err-refuse_if-4 : goal.returns-in_err-refuse_if-4
unfolding refusal range_checks
returns-in_err-refuse_if-4 c = search rules
