-- The certificate of our own (the paper's own term; also its plain certificate): it makes every row of R hold by row sums.
-- c t is the coefficient of term t.
use Rattle.std.specs.Prelude.{ℕ, suc, ◌+◌, ◌/◌, List, [], ◌∷◌, ◌++◌, cond, ℤ, pos, negsuc, nat_abs, ◌-ℤ◌, eqb}
use Rattle.integers.specs.Integer.{neg_part}
use Rattle.integers.specs.Lists.{join_below}
use Rattle.integers.specs.Sum.{sum_below}
use Rattle.integers.specs.Quadratic.{off_diagonal}
use Rattle.forms.specs.Form.{place, coefficient_of}
use Rattle.register.specs.declared.Register.{Register}
use Rattle.scheme.specs.declared.Scheme.{Scheme}
use Rattle.scheme.specs.Scheme.{variables}
use Rattle.scheme.specs.Function.{g}
use Rattle.certificate.specs.Certificate.{Multiplier, Certificate}

-- the multiplier of `31` for i: ⌈½ Σ_{j≠i} |g's coefficient of z_i z_j|⌉
unfoldable pub half_row_sum : (ℕ → ℤ) → Register → Scheme → ℕ → ℕ
half_row_sum c reg sch i =
    let products : ℕ → ℕ → ℤ = λ j k. coefficient_of (g c reg sch) (place j) (place k) in
    (nat_abs (off_diagonal (variables reg.choices sch) products i) + 1) / 2

-- what is left of the linear coefficient of i after it
unfoldable pub linear_left : (ℕ → ℤ) → Register → Scheme → ℕ → ℤ
linear_left c reg sch i = coefficient_of (g c reg sch) 0 (place i) -ℤ pos (half_row_sum c reg sch i)

-- a command, if its multiplier is not 0
unfoldable pub unless_zero : ℕ → ℕ → ℕ → List Multiplier
unless_zero kind i m = cond (eqb m 0) [] (record { kind = kind; names = i ∷ []; m = pos m } ∷ [])

-- `38` or `39` cancelling what is left, if not 0
unfoldable pub cancelling : ℕ → ℤ → List Multiplier
cancelling i (pos m) = unless_zero 0x38 i m
cancelling i (negsuc m) = unless_zero 0x39 i (suc m)

-- the sum of the multipliers of `39`: the constant that they subtract
unfoldable pub subtracted_constant : (ℕ → ℤ) → Register → Scheme → ℤ
subtracted_constant c reg sch = sum_below (variables reg.choices sch) (λ i. pos (neg_part (linear_left c reg sch i)))

-- first all `31`, then all `38` and `39`, both in the order of the variables; T is what they leave of the base cost
unfoldable pub plain : (ℕ → ℤ) → Register → Scheme → Certificate
plain c reg sch = let N = variables reg.choices sch in record {
  scale = 1;
  target = reg.base -ℤ subtracted_constant c reg sch;
  multipliers = join_below N (λ i. unless_zero 0x31 i (half_row_sum c reg sch i)) ++ join_below N (λ i. cancelling i (linear_left c reg sch i));
  squares = [];
}
