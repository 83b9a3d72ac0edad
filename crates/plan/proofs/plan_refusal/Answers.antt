-- `plan::plan_refusal` meets its contract. The common checks first, then its own.
use mathlib.Core.Path.{refl}
use mathlib.Core.List.{[]}
use Rattle.std.proofs.Common.{rules}
use Rattle.wire.specs.Checks.{refusal, command_checks}
use Rattle.wire.proofs.Checks.{command_room, command_here}
use Rattle.plan.specs.Format.{plan_checks}
use Rattle.plan.proofs.Command.{refusal_is}
use Rattle.plan.proofs.plan_refusal.Goals as goal

pub returns-in_err-check_command : goal.returns-in_err-check_command
unfolding refusal command_checks
returns-in_err-check_command c =
    let size = c.command_size.ensures c.args.register.now in
    rw refusal_is (search rules)

pub plan_said-plan-requires-clause-room : goal.plan_said-plan-requires-clause-room
plan_said-plan-requires-clause-room c reg = rw (c.command_size.ensures reg) at (command_room _ _ _ [] _ c.in_ok-check_command.ensures refl)

pub plan_said-plan-requires-clause-plan : goal.plan_said-plan-requires-clause-plan
plan_said-plan-requires-clause-plan c = rw c.is_plan.ensures at (command_here _ _ _ [] _ c.in_ok-check_command.ensures refl)

pub returns-in_err-refuse_if : goal.returns-in_err-refuse_if
unfolding refusal command_checks plan_checks
returns-in_err-refuse_if c =
    let size = c.command_size.ensures c.args.register.now in
    rw refusal_is (search rules)

pub returns : goal.returns
unfolding refusal command_checks plan_checks
returns c =
    let size = c.command_size.ensures c.args.register.now in
    rw refusal_is (search rules)
