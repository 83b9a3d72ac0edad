-- The coefficients of a register's terms within their ranges: those that a plan chooses, and all that there are.
use Rattle.std.specs.Prelude.{ℕ, ◌<◌, cond, List, [], ◌∷◌, ℤ, ◌≤ℤ◌}
use Rattle.integers.specs.Lists.{join_below}
use Rattle.sets.specs.Sets.{is_subset}
use Rattle.register.specs.declared.Register.{Register}
use Rattle.register.specs.Limits.{max_terms}
use Rattle.register.specs.Register.{mask, coefficient, high, has_range}
use Rattle.plan.specs.Plan.{cost}
use Rattle.plan.specs.Fits.{Fits}

-- the coefficient of term t that a plan chooses: the high one where it feeds all choices of the term, else the low one. Without a range
-- the two are one
abbrev pub chosen : Register → ℕ → ℕ → ℤ
chosen r plan t = cond (is_subset (mask r t) plan) (high r t) (coefficient r t)

-- c t is within the range of term t, for each term
abbrev pub WithinRanges : Register → (ℕ → ℤ) → Type 0
WithinRanges r c = (t : ℕ) → t < r.terms → (coefficient r t ≤ℤ c t) × (c t ≤ℤ high r t)

-- with any coefficients within the ranges the plan costs at most any other plan that fits
abbrev pub CheapestWithinRanges : Register → (plan : ℕ) → Type 0
CheapestWithinRanges r plan = (c : ℕ → ℤ) → WithinRanges r c → (other : ℕ) → Fits r other → cost c r plan ≤ℤ cost c r other

-- ---- what the code makes: the same register with the chosen coefficients as its low ones. Where no term has a range, it is as it was

abbrev pub chosen_list : Register → ℕ → List ℤ
chosen_list r plan = join_below max_terms (λ t. chosen r plan t ∷ [])

abbrev pub under : Register → ℕ → Register
under r plan = record r { coefficients = cond (has_range r) (chosen_list r plan) r.coefficients }
