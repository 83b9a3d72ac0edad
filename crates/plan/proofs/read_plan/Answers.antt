-- `plan::read_plan` meets its contract. By what the plan's command leads to.
use mathlib.Core.Path.{sym, ap}
use Rattle.std.proofs.Common.{rules}
use Rattle.wire.specs.Outcome.{added_by}
use Rattle.plan.proofs.Command.{plan_missing, plan_refused_by, plan_byte, plan_room, plan_ends}
use Rattle.plan.proofs.read_plan.Goals as goal

pub returns-then-is_empty : goal.returns-then-is_empty
returns-then-is_empty c = ap (added_by (λ plan. plan)) (sym (plan_missing _ _ (search rules)))

pub returns-in-Err : goal.returns-in-Err
returns-in-Err c = ap (added_by (λ plan. plan)) (sym (plan_refused_by c.args.register c.args.bytes.now c.in-Err.refusal (search rules) (search rules)))

pub plan_said-requires-clause-room : goal.plan_said-requires-clause-room
plan_said-requires-clause-room c = plan_room c.args.register c.args.bytes.now (search rules)

pub plan_said-requires-clause-plan : goal.plan_said-requires-clause-plan
plan_said-requires-clause-plan c = plan_byte c.args.register c.args.bytes.now (search rules)

pub returns-in-Ok : goal.returns-in-Ok
returns-in-Ok c =
    rw (c.plan_said.ensures, c.command_size.ensures c.args.register)
    (ap (added_by (λ plan. plan)) (sym (plan_ends c.args.register c.args.bytes.now (search rules) (search rules))))
