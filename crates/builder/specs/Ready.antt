-- What the builder's state keeps: a scheme within its limits, and the sets of its variables, where there are n choices.
use Rattle.std.specs.Prelude.{ℕ, ◌≤◌, List}
use Rattle.register.specs.Limits.{max_choices}
use Rattle.scheme.specs.declared.Scheme.{Scheme}
use Rattle.scheme.specs.Scheme.{max_products, max_variables, variables, Lengths}
use Rattle.scheme.specs.Sets.{SetsBelow}

pub record Ready (n : ℕ) (s : Scheme) (sets : List ℕ) : Type 0 where
  pub few : n ≤ max_choices
  pub within : s.products ≤ max_products
  pub variables_within : variables n s ≤ max_variables
  pub lengths : Lengths s
  pub sets_are : SetsBelow n s (variables n s) sets
