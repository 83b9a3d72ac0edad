-- With another factor each term uses the same products, so the usage of each product is the same: a factor bears on the weights alone,
-- which are as many times those with factor 1.
use mathlib.Core.Path.{◌≡◌, refl, sym, ◌∙◌, ap, fun_ext}
use Prim.Native.Nat.{ℕ, ◌+◌, ◌-◌, ◌≤◌}
use lib.IntN.{ℤ, pos, ◌+ℤ◌, ◌*ℤ◌}
use Rattle.integers.specs.Sum.{sum_below}
use Rattle.integers.proofs.Ring.{one_*ℤ}
use Rattle.integers.proofs.Sum.{sum_below_cong}
use Rattle.forms.specs.Form.{value}
use Rattle.register.specs.declared.Register.{Register}
use Rattle.scheme.specs.declared.Scheme.{Scheme}
use Rattle.scheme.specs.Scheme.{with_factor}
use Rattle.scheme.specs.Function.{g}
use Rattle.scheme.proofs.OtherFactor.{upward_with_factor}
use Rattle.penalty.specs.Weights.{reaches, uses, usage, weight}
use Rattle.penalty.specs.Penalty.{bracket_of, h}
use Rattle.penalty.proofs.Penalty.{paid, steps, value-h}

module _ (s : Scheme) (f : ℕ) where
  reaches_with_factor : (n k : ℕ) → reaches n (with_factor s f) k ≡ reaches n s k
  unfolding reaches
  reaches_with_factor n k = upward_with_factor s f n _ _

  uses_with_factor : (n k t : ℕ) → uses n (with_factor s f) k t ≡ uses n s k t
  unfolding uses
  uses_with_factor n k t = rw (reaches_with_factor n k) refl

  usage_with_factor : (c : ℕ → ℤ) (r : Register) (k : ℕ) → usage c r (with_factor s f) k ≡ usage c r s k
  unfolding usage
  usage_with_factor c r k = ap (sum_below r.terms) (fun_ext (λ t. rw (uses_with_factor r.choices k t) refl))

-- a weight is as many times the one with factor 1
pub weight_with_factor : (s : Scheme) (f : ℕ) (c : ℕ → ℤ) (r : Register) (k : ℕ) → weight c r (with_factor s f) k ≡ pos f *ℤ weight c r (with_factor s 1) k
unfolding weight
weight_with_factor s f c r k =
    ap (λ u. pos f *ℤ u)
    (usage_with_factor s f c r k ∙ sym (usage_with_factor s 1 c r k) ∙ sym (one_*ℤ (usage c r (with_factor s 1) k)))
