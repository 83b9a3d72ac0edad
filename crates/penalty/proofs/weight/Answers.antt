-- The factor is at most 1,000, so the product fits.
use mathlib.Core.Path.{◌≡◌, ap}
use Prim.Native.Nat.{ℕ, ◌≤◌}
use native.Mathlib.Nat.{mul-le-mul}
use native.Mathlib.Omega.{arith}
use lib.IntN.{pos, ◌*ℤ◌}
use Rattle.register.specs.declared.Register.{Register}
use Rattle.register.specs.Register.{coefficient}
use Rattle.register.specs.Valid.{Within}
use Rattle.scheme.specs.declared.Scheme.{Scheme}
use Rattle.scheme.proofs.Truncated.{valid_register}
use Rattle.penalty.specs.Weights.{usage, max_usage, weight}
use Rattle.penalty.proofs.Weights.{usage_small}
use Rattle.penalty.proofs.weight.Goals as goal

-- a usage as the code has it
low : (r : Register) (s : Scheme) (k x : ℕ) → Within r → pos x ≡ usage (coefficient r) r s k → x ≤ max_usage
low r s k x within e = rw (← e) at (usage_small r s k within)

pub overflow_mul-result : goal.overflow_mul-result
overflow_mul-result c =
    let q = c.args.quadratization.now in
    let f = q.scheme_valid.within.factor in
    rw c.from.ensures (omega (arith, mul-le-mul f.within (low q.register q.scheme c.args.k _ (valid_register q.register_valid).within c.usage.ensures)))

pub returns : goal.returns
unfolding weight
returns c = rw c.from.ensures (ap (λ u. pos c.args.quadratization.now.scheme.factor *ℤ u) c.usage.ensures)
