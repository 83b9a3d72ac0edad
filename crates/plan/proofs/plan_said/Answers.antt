-- `plan::plan_said` meets its contract. The room is that of the command that stands there.
use native.Mathlib.Omega.{arith}
use Rattle.register.specs.Register as R
use Rattle.plan.proofs.Command.{narrow_size, wide_size, narrow_byte}
use Rattle.plan.proofs.plan_said.Goals as goal

pub read-requires : goal.read-requires
read-requires c = omega (arith, c.requires.room R.fresh, wide_size R.fresh _ c.if-bytes-eq65.true)

pub read-requires-else-bytes-eq65 : goal.read-requires-else-bytes-eq65
read-requires-else-bytes-eq65 c = omega (arith, c.requires.room R.fresh, narrow_size R.fresh _ (narrow_byte _ c.requires.plan c.if-bytes-eq65.false))
