-- How large the numbers of the tables of g and h become, for a register and a scheme within the limits.
use mathlib.Core.Path.{◌≡◌}
use mathlib.Core.Bool.{Bool, true, false}
use Prim.Native.Nat.{ℕ, zero, suc, ◌+◌, ◌*◌, ◌≤◌, ◌<◌}
use native.Mathlib.Nat.{mul-le-mul, le_refl}
use native.Mathlib.Omega.{arith}
use lib.IntN.{ℤ, pos, nat_abs, ◌*ℤ◌}
use Rattle.integers.specs.Integer.{bit}
use Rattle.integers.specs.Lists.{join_below}
use Rattle.integers.specs.Quadratic.{quadratic}
use Rattle.integers.proofs.Order.{nat_abs-+, nat_abs-*-≤}
use Rattle.integers.proofs.Sum.{nat_abs-sum}
use Rattle.forms.specs.Form.{times, value, entry}
use Rattle.forms.specs.Table.{table_numbers}
use Rattle.forms.proofs.Form.{entry-append, entry-times, entry_join, form_law}
use Rattle.forms.proofs.Store.{norm1, norm1_join, norm1_times, entry_small}
use Rattle.register.specs.declared.Register.{Register}
use Rattle.register.specs.Limits.{max_coefficient}
use Rattle.register.specs.Register.{coefficient}
use Rattle.register.specs.Valid.{Within}
use Rattle.scheme.specs.declared.Scheme.{Scheme}
use Rattle.scheme.specs.Scheme.{max_variables, left, right, side}
use Rattle.scheme.specs.Filling.{Filling, factor}
use Rattle.scheme.specs.Function.{g, max_g}
use Rattle.scheme.specs.Valid.{Factor, Valid}
use Rattle.penalty.specs.Weights.{weight, max_product_weight}
use Rattle.penalty.specs.Penalty.{bracket, bracket_of, penalty_of, h}
use Rattle.penalty.specs.Limits.{max_h_entry, max_h_sum}
use Rattle.scheme.proofs.Table.{norm1_g}
use Rattle.penalty.proofs.Weights.{weight_small}
use Rattle.penalty.proofs.Penalty.{below_h}
use Rattle.penalty.proofs.Apart.{Apart, apart-[], apart_∷, entry_apart}

pub norm1_bracket : (k l r : ℕ) → norm1 (bracket k l r) ≤ 16
unfolding bracket norm1
norm1_bracket k l r = omega arith

module _ (r : Register) (s : Scheme) (within : Within r) where
  -- the first penalties
  pub penalties_norm : Factor s.factor → (n : ℕ) → norm1 (join_below n (penalty_of (coefficient r) r s)) ≤ 16 * max_product_weight * n
  penalties_norm f n =
      norm1_join n (16 * max_product_weight) (penalty_of (coefficient r) r s)
      (λ i l. small (r.choices + i))
    where
      small : (k : ℕ) → norm1 (times (weight (coefficient r) r s k) (bracket_of r.choices s k)) ≤ 16 * max_product_weight
      small k =
          rw norm1_times
          (omega (arith, mul-le-mul (weight_small r s k within f) (norm1_bracket k (left r.choices s k) (right r.choices s k))))

  pub g_norm : norm1 (g (coefficient r) r s) ≤ max_g
  g_norm = omega (arith, norm1_g (coefficient r) r s max_coefficient (λ t l. (within.terms.each t l).coefficient_within), within.base, within.terms.few)

-- a weight as the code has it
pub weight_read_small : (r : Register) (s : Scheme) (k x : ℕ) → Within r → Factor s.factor → pos x ≡ weight (coefficient r) r s k → x ≤ max_product_weight
weight_read_small r s k x within f e = rw (← e) at (weight_small r s k within f)

-- a table of side N + 1 is at most 4,225 numbers
pub side_square : (r : Register) (s : Scheme) → Valid r s → side r.choices s * side r.choices s ≤ table_numbers
side_square r s valid =
    let short : side r.choices s ≤ suc max_variables = omega (arith, valid.within.variables_within) in
    mul-le-mul short short

-- ---- a sum of entries at a filling

quadratic_small : (n b : ℕ) (a : ℕ → ℕ → ℤ) (y : ℕ → ℤ) → ((i j : ℕ) → nat_abs (a i j) ≤ b) → ((i : ℕ) → nat_abs (y i) ≤ 1) → nat_abs (quadratic n a y) ≤ b * n * n
unfolding quadratic
quadratic_small n b a y h l = nat_abs-sum n (b * n) _ (λ i u. nat_abs-sum n b _ (λ j v. small i j))
  where
    small : (i j : ℕ) → nat_abs (a i j *ℤ y i *ℤ y j) ≤ b
    small i j = omega (arith, nat_abs-*-≤ (a i j *ℤ y i) (y j) b 1 (omega (arith, nat_abs-*-≤ (a i j) (y i) b 1 (h i j) (l i))) (l j))

-- ---- the numbers of the table of h, and its sum at a filling

-- the four monomials of a bracket stand at different places
entry_bracket : (k l r : ℕ) → l < r → r < k → (i j : ℕ) → nat_abs (entry (bracket k l r) i j) ≤ 3
unfolding bracket
entry_bracket k l r a b = entry_apart 3 (bracket k l r) four
  where
    below : l * r ≤ l * k
    below = mul-le-mul (le_refl l) (omega arith)

    above : l * k ≤ r * k
    above = mul-le-mul (omega arith) (le_refl k)

    four : Apart 3 (bracket k l r)
    four =
        apart_∷ _ _ (omega arith) (λ e. omega arith) (λ e. omega arith, (λ e. omega arith, (λ e. omega arith, tt)))
        (apart_∷ _ _ (omega arith) (λ e. omega arith) (λ e. omega (arith, above), (λ e. omega (arith, below), tt))
        (apart_∷ _ _ (omega arith) (λ e. omega arith) (λ e. omega (arith, below, above), tt)
        (apart_∷ _ _ (omega arith) (λ e. omega arith) tt (apart-[] 3))))

module _ (r : Register) (s : Scheme) (within : Within r) (valid : Valid r s) where
  -- a penalty adds at most 3 times its weight
  penalties_entry : (i j : ℕ) → nat_abs (entry (join_below s.products (penalty_of (coefficient r) r s)) i j) ≤ max_product_weight * 3 * s.products
  penalties_entry i j = rw entry_join (nat_abs-sum s.products (max_product_weight * 3) _ one)
    where
      one : (x : ℕ) → x < s.products → nat_abs (entry (penalty_of (coefficient r) r s x) i j) ≤ max_product_weight * 3
      one x l =
          let k = r.choices + x in
          let p = valid.within.products k (omega arith) (omega arith) in
          rw entry-times
          (nat_abs-*-≤ (weight (coefficient r) r s k) (entry (bracket_of r.choices s k) i j) max_product_weight 3 (weight_small r s k within valid.within.factor)
          (entry_bracket k (left r.choices s k) (right r.choices s k) p.ordered p.falls i j))

  pub entry_h : (i j : ℕ) → nat_abs (entry (h (coefficient r) r s) i j) ≤ max_h_entry
  unfolding h
  entry_h i j =
      rw entry-append
      (omega (
        arith,
        nat_abs-+ (entry (g (coefficient r) r s) i j) (entry (join_below s.products (penalty_of (coefficient r) r s)) i j),
        entry_small (g (coefficient r) r s) i j,
        g_norm r s within,
        penalties_entry i j,
        valid.within.products_within,
      ))

  -- twice the value
  pub twice_h : (z : Filling) → nat_abs (pos 2 *ℤ value (factor z) (h (coefficient r) r s)) ≤ max_h_sum
  twice_h z =
      rw (← form_law (below_h (coefficient r) r s valid) (factor z))
      (omega (arith, quadratic_small (side r.choices s) max_h_entry (entry (h (coefficient r) r s)) (factor z) entry_h bits, side_square r s valid))
    where
      bits : (p : ℕ) → nat_abs (factor z p) ≤ 1
      bits zero = omega arith
      bits (suc i) = go (z i)
        where
          go : (b : Bool) → nat_abs (bit b) ≤ 1
          go true = omega arith
          go false = omega arith
