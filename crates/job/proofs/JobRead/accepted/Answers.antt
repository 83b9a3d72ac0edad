-- Cost and bound are far within 64 bits, and so is their difference.
use Prim.Native.Nat.{ℕ, ◌≤◌, ◌<◌, ◌^◌}
use mathlib.Core.Path.{◌≡◌}
use native.Mathlib.Omega.{arith}
use lib.IntN.{ℤ, nat_abs, ◌-ℤ◌}
use mir.Syntax.{w64}
use mir.Val.{SFits, to_z, of_z, hbits}
use Rattle.integers.proofs.Machine.{fits_signed, read_signed}
use Rattle.integers.proofs.Order.{nat_abs_sub}
use Rattle.register.specs.declared.Register.{Register}
use Rattle.register.specs.Valid.{Within}
use Rattle.certificate.specs.Limits.{max_target}
use Rattle.plan.specs.Plan.{cost}
use Rattle.plan.specs.Chosen.{chosen}
use Rattle.plan.proofs.Bounds.{chosen_small}
use Rattle.job.specs.declared.JobRead.{JobRead}
use Rattle.job.specs.Answer.{accepted_read}
use Rattle.job.proofs.JobRead.accepted.Goals as goal

module _ (reg : Register) (plan : ℕ) (bound z : ℤ) (w : Within reg) (l : nat_abs bound ≤ max_target) (e : z ≡ cost (chosen reg plan) reg plan) where
  small : nat_abs z ≤ 1_256_000_000
  small = rw e (omega (arith, chosen_small reg plan w))

  cost_read : to_z w64 (of_z w64 z) ≡ z
  cost_read = read_signed w64 z (omega (arith, small))

  bound_read : to_z w64 (of_z w64 bound) ≡ bound
  bound_read = read_signed w64 bound (omega (arith, l))

  gap_small : nat_abs (z -ℤ bound) < 2 ^ hbits w64
  gap_small = omega (arith, nat_abs_sub z bound, small, l)

  gap_fits : SFits w64 (to_z w64 (of_z w64 z) -ℤ to_z w64 (of_z w64 bound))
  gap_fits = rw (cost_read, bound_read) (fits_signed w64 (z -ℤ bound) gap_small)

  gap_read : to_z w64 (of_z w64 (to_z w64 (of_z w64 z) -ℤ to_z w64 (of_z w64 bound))) ≡ z -ℤ bound
  gap_read = rw (cost_read, bound_read) (read_signed w64 (z -ℤ bound) gap_small)

  answers : ◌≡◌ {A = JobRead} (record {
    register = reg;
    plan = plan;
    bound = to_z w64 (of_z w64 bound);
    cost = to_z w64 (of_z w64 z);
    gap = to_z w64 (of_z w64 (to_z w64 (of_z w64 z) -ℤ to_z w64 (of_z w64 bound)));
  }) (accepted_read reg plan bound)
  answers = rw (gap_read, cost_read, bound_read, e)

pub overflow_sub-result : goal.overflow_sub-result
overflow_sub-result c = gap_fits c.args.register c.args.plan c.args.bound c.cost_of-cost.result c.requires.within c.requires.bound_bound c.cost_of-cost.ensures

pub returns : goal.returns
returns c = answers c.args.register c.args.plan c.args.bound c.cost_of-cost.result c.requires.within c.requires.bound_bound c.cost_of-cost.ensures
