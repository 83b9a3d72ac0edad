use mathlib.Core.Path.{◌≡◌, sym, ◌∙◌, ap₂}
use Prim.Native.Nat.{ℕ, suc, ◌+◌, ◌≤◌, ◌<◌}
use native.Mathlib.Omega.{arith}
use native.Mathlib.Numerals.{add-one}
use lib.IntN.{ℤ, pos, ◌+ℤ◌}
use Rattle.integers.specs.Sum.{sum_below}
use Rattle.integers.proofs.Sum.{sum_below-zero, sum_below-suc}
use Rattle.register.specs.declared.Register.{Register}
use Rattle.register.specs.Register.{coefficient}
use Rattle.register.specs.Valid.{Within}
use Rattle.scheme.specs.declared.Scheme.{Scheme}
use Rattle.scheme.proofs.Truncated.{valid_register}
use Rattle.penalty.specs.Weights.{contribution, usage, max_usage}
use Rattle.penalty.proofs.Weights.{contributions_small}
use Rattle.penalty.proofs.usage.Goals as goal

-- what the first t terms contribute
abbrev sum_to : Register → Scheme → ℕ → ℕ → ℤ
sum_to r s k t = sum_below t (contribution (coefficient r) r.choices s k)

module _ (r : Register) (s : Scheme) (k t total x : ℕ) (e : pos total ≡ sum_to r s k t) (d : pos x ≡ contribution (coefficient r) r.choices s k t) where
  -- one turn of the loop
  turn : pos (total + x) ≡ sum_to r s k (suc t)
  turn = ap₂ ◌+ℤ◌ e d ∙ sym (sum_below-suc t (contribution (coefficient r) r.choices s k))

  low : Within r → t < r.terms → total + x ≤ max_usage
  low within l = rw (← turn) at (contributions_small r s k within (suc t) l)

pub loop-t-init : goal.loop-t-init
loop-t-init c = sym (sum_below-zero _)

pub overflow_add-total : goal.overflow_add-total
overflow_add-total c =
    let q = c.args.quadratization.now in
    omega (arith, low q.register q.scheme c.args.k c.loop-t.t _ _ c.loop-t.invariant c.contribution-total.ensures (valid_register q.register_valid).within (omega arith))

pub loop-t-preserved : goal.loop-t-preserved
loop-t-preserved c =
    let q = c.args.quadratization.now in
    rw add-one (turn q.register q.scheme c.args.k c.loop-t.t _ _ c.loop-t.invariant c.contribution-total.ensures)

pub returns : goal.returns
unfolding usage
returns c = let e : c.loop-t.t ≡ c.args.quadratization.now.register.terms = omega arith in rw e at c.loop-t.invariant
