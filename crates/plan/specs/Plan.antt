-- Plans and their cost.
use Rattle.std.specs.Prelude.{ℕ, ◌^◌, ◌<◌, cond, ℤ, pos, ◌+ℤ◌}
use Rattle.integers.specs.Sum.{sum_below}
use Rattle.sets.specs.Sets.{is_subset}
use Rattle.register.specs.declared.Register.{Register}
use Rattle.register.specs.Register.{mask}

-- any set of the n choices, the empty one too: bit i is set when choice i is fed
pub record Plan (n : ℕ) : Type 0 where
  pub fed : ℕ
  pub inside : fed < 2 ^ n

-- what term t adds, with coefficient c: c where its named choices are all fed
abbrev pub term_cost : ℤ → Register → ℕ → ℕ → ℤ
term_cost c r plan t = cond (is_subset (mask r t) plan) c (pos 0)

-- the cost of a plan: the base cost and what each term adds; c t is the coefficient of term t
unfoldable pub cost : (ℕ → ℤ) → Register → ℕ → ℤ
cost c r plan = r.base +ℤ sum_below r.terms (λ t. term_cost (c t) r plan t)
