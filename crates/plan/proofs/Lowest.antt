-- Where a plan is refused and with which number: the numbers of a command's checks do not fall.
use Prim.Native.Nat.{ℕ}
use mathlib.Core.Path.{◌≡◌}
use mathlib.Core.Logic.{◌↔◌}
use mathlib.Core.List.{List}
use Rattle.integers.specs.Lists.{All}
use Rattle.integers.proofs.Lists.{◌▹◌}
use Rattle.wire.specs.Number.{Bytes}
use Rattle.wire.specs.Part.{refused}
use Rattle.wire.specs.Refused.{RefusedAt, RefusedByItself}
use Rattle.wire.proofs.Lowest.{Rising, Rises, rows_rising, refused_iff, refused_by_itself_iff}
use Rattle.register.specs.declared.Register.{Register}
use Rattle.plan.specs.Format.{plan_checks, plan_rows, plan_part, plan_in_job, plan_by_itself}

module _ (reg : Register) where
  plan_rises : All Rises (plan_rows reg)
  unfolding plan_checks
  plan_rises = (λ r xs. tt) ▹ (λ r xs. tt) ▹ tt

  plan_rising : Rising (plan_part reg)
  plan_rising = rows_rising 0 (plan_rows reg) plan_rises

  module _ (s : List ℕ) (b : Bytes s) (n at : ℕ) where
    pub plan_refused : (plan_in_job reg s ≡ refused n at) ↔ RefusedAt (plan_part reg) s n at
    unfolding plan_in_job
    plan_refused = refused_iff (plan_part reg) s plan_rising n at b

    pub plan_refused_by_itself : (plan_by_itself reg s ≡ refused n at) ↔ RefusedByItself (plan_part reg) s n at
    unfolding plan_by_itself plan_in_job
    plan_refused_by_itself = refused_by_itself_iff (plan_part reg) s plan_rising n at b
