-- The sum at a partial plan (the paper's own term), in which some choices are decided, each to be fed or not. They are decided from the
-- highest number down: where d are undecided, these are the choices below d, and `fed` are those decided fed, all of them from d up.
use Rattle.std.specs.Prelude.{ℕ, ◌+◌, ◌-◌, ◌^◌, cond, ℤ, pos, negsuc, ◌+ℤ◌}
use Rattle.integers.specs.Sum.{sum_below}
use Rattle.sets.specs.Sets.{is_subset}
use Rattle.register.specs.declared.Register.{Register}
use Rattle.register.specs.Register.{mask}

-- the choices that are not decided unfed: those fed, and those undecided
abbrev pub possible : (d fed : ℕ) → ℕ
possible d fed = fed + (2 ^ d - 1)

-- a coefficient that is negative, else 0
abbrev pub negative : ℤ → ℤ
negative (pos c) = pos 0
negative (negsuc c) = negsuc c

-- what a term adds, with coefficient c and mask m: c where its choices are all decided fed; c, if negative, where not all are
-- and none is decided unfed, so that one is undecided (by members: `TermSaid` in soundness/specs/Search)
abbrev pub term_sum : ℤ → ℕ → (fed possible : ℕ) → ℤ
term_sum c m fed possible = cond (is_subset m fed) c (cond (is_subset m possible) (negative c) (pos 0))

-- base cost, plus coefficients of terms wholly decided fed, plus negative coefficients of terms with an undecided choice and
-- none decided unfed; c t is the coefficient of term t
unfoldable pub sum : (ℕ → ℤ) → Register → (d fed : ℕ) → ℤ
sum c r d fed = r.base +ℤ sum_below r.terms (λ t. term_sum (c t) (mask r t) fed (possible d fed))
