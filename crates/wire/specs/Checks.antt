-- The checks of a command: each a refusal's number and a test that leads to it.
use Rattle.std.specs.Prelude.{ℕ, ◌≤◌, ◌≡◌, ◌⊎◌, Bool, true, cond, not, List, [], ◌∷◌, ltb}
use Rattle.integers.specs.Lists.{All}

pub record Check : Type 0 where
  pub number : ℕ
  pub fails : Bool

abbrev pub check : ℕ → Bool → Check
check number fails = record { number = number; fails = fails }

-- the number of the first check that fails, 0 where none does. A command's checks stand in rising order of their numbers,
-- so this is the lowest
unfoldable pub refusal : List Check → ℕ
refusal [] = 0
refusal (c ∷ cs) = cond c.fails c.number (refusal cs)

-- the checks of a command: the byte is not a command here (1), the bytes left are fewer than its own (2), and its own checks
unfoldable pub command_checks : Bool → ℕ → ℕ → List Check → List Check
command_checks here left size own = check 1 (not here) ∷ check 2 (ltb left size) ∷ own

-- a check with this number fails
abbrev pub Fails : ℕ → List Check → Type 0
Fails n [] = ⊥
Fails n (c ∷ cs) = ((c.fails ≡ true) × (c.number ≡ n)) ⊎ Fails n cs

-- the checks that fail have this number or a higher one
abbrev pub NoLower : ℕ → List Check → Type 0
NoLower n cs = All (λ c. c.fails ≡ true → n ≤ c.number) cs
