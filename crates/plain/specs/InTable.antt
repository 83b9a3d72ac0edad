-- The numbers and commands of our own certificate, read from a table for n variables, of side n + 1, that holds g.
use Rattle.std.specs.Prelude.{ℕ, suc, ◌+◌, ◌*◌, ◌/◌, ◌≤◌, List, ◌++◌, ℤ, pos, nat_abs, ◌-ℤ◌, get_or}
use Rattle.integers.specs.Integer.{neg_part}
use Rattle.integers.specs.Lists.{join_below}
use Rattle.integers.specs.Sum.{sum_below}
use Rattle.integers.specs.Quadratic.{off_diagonal}
use Rattle.forms.specs.Form.{place}
use Rattle.forms.specs.Store.{Bounded}
use Rattle.scheme.specs.Scheme.{max_variables}
use Rattle.scheme.specs.Function.{max_g}
use Rattle.certificate.specs.Certificate.{Multiplier}
use Rattle.plain.specs.Plain.{unless_zero, cancelling}
use Rattle.plain.specs.Encoding.{encode_with}

-- at most 64 variables, and numbers as small as those of g
pub record Small (n : ℕ) (t : List ℤ) : Type 0 where
  pub few : n ≤ max_variables
  pub low : Bounded (suc n) max_g t

abbrev pub entry_in : ℕ → List ℤ → ℕ → ℕ → ℤ
entry_in n t i j = get_or t (i * suc n + j) (pos 0)

-- the coefficients of products of variables
abbrev pub products_in : ℕ → List ℤ → ℕ → ℕ → ℤ
products_in n t i j = entry_in n t (place i) (place j)

-- the multiplier of `31`
unfoldable pub half_in : ℕ → List ℤ → ℕ → ℕ
half_in n t i = (nat_abs (off_diagonal n (products_in n t) i) + 1) / 2

-- what is left of the linear coefficient
unfoldable pub left_in : ℕ → List ℤ → ℕ → ℤ
left_in n t i = entry_in n t 0 (place i) -ℤ pos (half_in n t i)

-- the sum of the multipliers of `39`
unfoldable pub subtracted_in : ℕ → List ℤ → ℤ
subtracted_in n t = sum_below n (λ i. pos (neg_part (left_in n t i)))

-- `31` of variable i, and `38` or `39`

abbrev pub diagonal_in : ℕ → List ℤ → ℕ → List Multiplier
diagonal_in n t i = unless_zero 0x31 i (half_in n t i)

abbrev pub linear_in : ℕ → List ℤ → ℕ → List Multiplier
linear_in n t i = cancelling i (left_in n t i)

-- all `31`, and then all `38` and `39`

abbrev pub diagonals_in : ℕ → List ℤ → List Multiplier
diagonals_in n t = join_below n (diagonal_in n t)

abbrev pub linears_in : ℕ → List ℤ → List Multiplier
linears_in n t = join_below n (linear_in n t)

abbrev pub commands_in : ℕ → List ℤ → List Multiplier
commands_in n t = diagonals_in n t ++ linears_in n t

-- the bytes of the certificate
unfoldable pub encode_in : ℕ → ℤ → List ℤ → List ℕ
encode_in n base t = encode_with 1 (base -ℤ subtracted_in n t) (commands_in n t)
