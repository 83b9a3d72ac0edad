-- Our own certificate depends on the coefficients through g alone. For the register that the code makes for a plan, whose low coefficients
-- are those that the plan chooses, it is that for the register itself with the chosen coefficients.
use Prim.Native.Nat.{ℕ, ◌<◌}
use mathlib.Core.Path.{◌≡◌, refl, ◌∙◌, ap}
use mathlib.Core.Bool.{false}
use mathlib.Core.List.{List}
use lib.IntN.{ℤ}
use Rattle.register.specs.declared.Register.{Register}
use Rattle.register.specs.Register.{coefficient, has_range}
use Rattle.register.specs.Valid.{Within}
use Rattle.plan.specs.Chosen.{chosen, under}
use Rattle.plan.proofs.Coefficients.{chosen_known, under_coefficient}
use Rattle.scheme.specs.declared.Scheme.{Scheme}
use Rattle.scheme.specs.Function.{g}
use Rattle.scheme.proofs.Function.{g_same}
use Rattle.plain.specs.Plain.{half_row_sum, linear_left, subtracted_constant, plain}
use Rattle.plain.specs.Encoding.{encode_with, encode_plain}
use Rattle.plain.specs.Answer.{own_bytes}

-- ---- coefficients that are the same

module _ (c d : ℕ → ℤ) (reg : Register) (sch : Scheme) (h : (t : ℕ) → t < reg.terms → c t ≡ d t) where
  pub plain_same : plain c reg sch ≡ plain d reg sch
  unfolding plain subtracted_constant linear_left half_row_sum
  plain_same = rw (g_same c d reg sch h)

  pub encode_plain_same : encode_plain c reg sch ≡ encode_plain d reg sch
  unfolding encode_plain
  encode_plain_same = ap (λ k. encode_with k.scale k.target k.multipliers) plain_same

-- ---- a register with other coefficients: it does not look at them

module _ (c : ℕ → ℤ) (reg : Register) (cs : List ℤ) (sch : Scheme) where
  abbrev other : Register
  other = record reg { coefficients = cs }

  pub plain_apart : plain c other sch ≡ plain c reg sch
  unfolding plain subtracted_constant linear_left half_row_sum g
  plain_apart = refl

  pub encode_plain_apart : encode_plain c other sch ≡ encode_plain c reg sch
  unfolding encode_plain
  encode_plain_apart = ap (λ k. encode_with k.scale k.target k.multipliers) plain_apart

-- ---- with the coefficients that a plan chooses

module _ (reg : Register) (w : Within reg) (sch : Scheme) (plan : ℕ) where
  -- the register that the code makes
  pub plain_under : encode_plain (coefficient (under reg plan)) (under reg plan) sch ≡ own_bytes reg sch plan
  plain_under =
      let made = under reg plan in
      encode_plain_apart (coefficient made) reg made.coefficients sch
      ∙ encode_plain_same (coefficient made) (chosen reg plan) reg sch (λ t l. under_coefficient reg w plan t)

  -- where no term has a range it is that of the register's own coefficients
  pub plain_known : has_range reg ≡ false → own_bytes reg sch plan ≡ encode_plain (coefficient reg) reg sch
  plain_known none = encode_plain_same (chosen reg plan) (coefficient reg) reg sch (λ t l. chosen_known reg w plan none t)
