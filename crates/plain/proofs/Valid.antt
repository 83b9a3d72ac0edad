-- Our own certificate is valid, for every valid register and scheme and for coefficients within their limits, and its bound is its target.
use Prim.Native.Nat.{ℕ, suc, ◌+◌, ◌/◌, ◌≤◌, ◌<◌}
use mathlib.Core.Path.{◌≡◌, ap}
use native.Mathlib.Omega.{arith}
use lib.IntN.{ℤ, pos, negsuc, nat_abs, neg_ℤ, ◌-ℤ◌}
use Rattle.integers.specs.Lists.{join_below}
use Rattle.integers.specs.CeilDiv.{ceil_div}
use Rattle.integers.proofs.Lists.{All-append, All-join}
use Rattle.integers.proofs.Order.{nat_abs_sub}
use Rattle.register.specs.declared.Register.{Register}
use Rattle.register.specs.Limits.{max_coefficient}
use Rattle.register.specs.Valid as Reg
use Rattle.plan.specs.Chosen.{chosen}
use Rattle.plan.proofs.Coefficients.{chosen_low}
use Rattle.scheme.specs.declared.Scheme.{Scheme}
use Rattle.scheme.specs.Scheme.{max_variables, variables}
use Rattle.scheme.specs.Valid as S
use Rattle.bound.specs.Bound.{bound}
use Rattle.certificate.specs.Within.{Allowed, Within}
use Rattle.bound.specs.Valid.{Valid}
use Rattle.residual.proofs.Bounds.{Small, small}
use Rattle.plain.specs.Plain.{half_row_sum, linear_left, unless_zero, cancelling, subtracted_constant, plain}
use Rattle.plain.proofs.Rows.{plain-carries}
use Rattle.plain.proofs.Commands.{plain_count, allowed_31, allowed_cancelling}
use Rattle.plain.proofs.Sizes.{half_row_sum_small, linear_left_small, subtracted_constant_small}

-- T/1 rounded up is T
ceil_div_1 : (t : ℤ) → ceil_div t 1 ≡ t
unfolding ceil_div
ceil_div_1 (pos t) = let e : (t + 0) / 1 ≡ t = omega arith in ap pos e
ceil_div_1 (negsuc t) = let e : suc t / 1 ≡ suc t = omega arith in ap (λ x. neg_ℤ (pos x)) e

pub plain_bound : (c : ℕ → ℤ) (r : Register) (s : Scheme) → bound (plain c r s) ≡ (plain c r s).target
unfolding bound plain
plain_bound c r s = ceil_div_1 (r.base -ℤ subtracted_constant c r s)

module _ (c : ℕ → ℤ) (r : Register) (s : Scheme) (low : Small c r) (few : variables r.choices s ≤ max_variables) where
  abbrev n : ℕ
  n = r.choices

  abbrev N : ℕ
  N = variables n s

  pub plain_within : Within r s (plain c r s)
  unfolding plain
  plain_within = record {
    scale_above = omega arith;
    scale_within = omega arith;
    target_within = omega (arith, nat_abs_sub r.base (subtracted_constant c r s), subtracted_constant_small c r s low few, low.base);
    multipliers_within = omega (arith, plain_count c r s);
    multipliers =
        All-append (Allowed r s) (join_below N (λ i. unless_zero 0x31 i (half_row_sum c r s i))) (join_below N (λ i. cancelling i (linear_left c r s i)))
        (All-join (Allowed r s) N _ (λ i h. allowed_31 r s i (half_row_sum c r s i) h (omega (arith, half_row_sum_small c r s low few i))))
        (All-join (Allowed r s) N _ (λ i h. allowed_cancelling r s i (linear_left c r s i) h (omega (arith, linear_left_small c r s low few i))));
    squares_within = omega arith;
    squares = tt;
  }

  pub plain_valid_small : Valid c r s (plain c r s)
  plain_valid_small = record { within = plain_within; carried = plain-carries c r s }

-- the coefficients c are within their limits
abbrev pub Low : (ℕ → ℤ) → Register → Type 0
Low c r = (t : ℕ) → t < r.terms → nat_abs (c t) ≤ max_coefficient

-- those that a plan chooses are
pub low_chosen : (r : Register) → Reg.Valid r → (plan : ℕ) → Low (chosen r plan) r
low_chosen r register plan = chosen_low r register.within plan

-- the certificate of our own is valid
pub plain_valid : (c : ℕ → ℤ) (r : Register) (s : Scheme) → Low c r → Reg.Valid r → S.Valid r s → Valid c r s (plain c r s)
plain_valid c r s low register scheme =
    let k = small r register.within in
    plain_valid_small c r s (record { base = k.base; terms = k.terms; coefficients = low; rows = k.rows }) scheme.within.variables_within
