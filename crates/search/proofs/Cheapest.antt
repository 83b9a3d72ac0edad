-- The search of a register finds the least cost of the plans that fit and the smallest number among equals; how many visits it makes.
use mathlib.Core.Path.{◌≡◌}
use mathlib.Core.Logic.{◌↔◌}
use Prim.Native.Nat.{ℕ, suc, ◌^◌, ◌≤◌, ◌<◌}
use native.Mathlib.Omega.{arith}
use mathlib.Core.Bool.{true, false}
use lib.IntN.{ℤ}
use Rattle.register.specs.declared.Register.{Register}
use Rattle.plan.specs.Plan.{cost}
use Rattle.plan.specs.Fits.{fits}
use Rattle.search.specs.Sum.{sum}
use Rattle.search.specs.Walk.{start}
use Rattle.search.specs.Answer.{search}
use Rattle.search.proofs.Bound.{sum_bound, sum_full}
use Rattle.search.proofs.Least.{Least, NoneFits, search_met, search_least, search_none}
use Rattle.search.proofs.Walks.{walk_visits, unmet_visits}

module _ (c : ℕ → ℤ) (r : Register) where
  -- where a full plan that fits is met, it is the best of all that fit
  pub found_least : (search c r).met ≡ true → Least (fits r) (cost c r) (2 ^ r.choices) (search c r)
  unfolding search
  found_least = search_least (sum c r) (fits r) (cost c r) (λ d q x l. sum_bound d q x l c r) (sum_full c r) r.choices

  pub found_met : (plan : ℕ) → plan < 2 ^ r.choices → fits r plan ≡ true → (search c r).met ≡ true
  unfolding search
  found_met = search_met (sum c r) (fits r) (cost c r) (λ d q x l. sum_bound d q x l c r) (sum_full c r) r.choices

  -- none is met just where no plan fits
  pub found_none : ((search c r).met ≡ false) ↔ NoneFits (fits r) (2 ^ r.choices)
  unfolding search
  found_none = search_none (sum c r) (fits r) (cost c r) (λ d q x l. sum_bound d q x l c r) (sum_full c r) r.choices

  -- and then nothing is left: the most visits
  pub none_visits : (search c r).met ≡ false → suc (search c r).visits ≡ 2 ^ suc r.choices
  unfolding search
  none_visits e = omega (arith, unmet_visits (sum c r) (fits r) r.choices 0 start e)

  -- at least one visit, and at most 2 to the power (n + 1), less 1
  pub found_visits : (1 ≤ (search c r).visits) × (suc (search c r).visits ≤ 2 ^ suc r.choices)
  unfolding search
  found_visits = let v = walk_visits (sum c r) (fits r) r.choices 0 start in (omega arith, omega arith)
