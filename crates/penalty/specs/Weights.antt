-- Which products a term uses, and the usage and the weight of a product. c t is the coefficient of term t.
use Rattle.std.specs.Prelude.{ℕ, ◌*◌, Bool, false, cond, ◌||◌, ℤ, pos, ◌*ℤ◌, eqb}
use Rattle.integers.specs.Integer.{abs}
use Rattle.integers.specs.Sum.{sum_below}
use Rattle.register.specs.declared.Register.{Register}
use Rattle.register.specs.Limits.{max_terms, max_coefficient}
use Rattle.scheme.specs.declared.Scheme.{Scheme}
use Rattle.scheme.specs.Scheme.{max_factor, split_left, split_right}
use Rattle.scheme.specs.Variables.{upward}

-- variable v is product k, or k is an operand of v, or of an operand of v, and so on down
unfoldable pub reaches : ℕ → Scheme → ℕ → ℕ → Bool
reaches n s k = upward n s (λ i. false) (λ v a b. eqb v k || (a || b))

-- term t uses product k: one of the two variables of its split reaches k
unfoldable pub uses : ℕ → Scheme → ℕ → ℕ → Bool
uses n s k t = reaches n s k (split_left s t) || reaches n s k (split_right s t)

-- what term t adds to the usage of product k
abbrev pub contribution : (ℕ → ℤ) → ℕ → Scheme → ℕ → ℕ → ℤ
contribution c n s k t = cond (uses n s k t) (abs (c t)) (pos 0)

-- Σ |c t| over the terms t that use product k
unfoldable pub usage : (ℕ → ℤ) → Register → Scheme → ℕ → ℤ
usage c r s k = sum_below r.terms (contribution c r.choices s k)

-- no usage is larger
abbrev pub max_usage : ℕ
max_usage = max_terms * max_coefficient

-- P_k: the scheme's factor times the usage of product k
unfoldable pub weight : (ℕ → ℤ) → Register → Scheme → ℕ → ℤ
weight c r s k = pos s.factor *ℤ usage c r s k

-- no weight is larger
abbrev pub max_product_weight : ℕ
max_product_weight = max_factor * max_usage
