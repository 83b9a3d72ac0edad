-- `plan::command_size` meets its contract. By the command's byte.
use mathlib.Core.Path.{sym}
use native.Mathlib.Omega.{arith}
use Rattle.plan.proofs.Command.{narrow_size, wide_size, other_size}
use Rattle.plan.proofs.command_size.Goals as goal

pub returns-in-64 : goal.returns-in-64
returns-in-64 c reg = sym (narrow_size reg _ c.in-64.is)

pub returns-in-65 : goal.returns-in-65
returns-in-65 c reg = sym (wide_size reg _ c.in-65.is)

pub returns-in_default : goal.returns-in_default
returns-in_default c reg = sym (other_size reg _ (λ e. omega arith) (λ e. omega arith))
