-- Fillings (0-1 assignments of the variables; the paper's own term) and the filling that a plan induces.
use Rattle.std.specs.Prelude.{ℕ, Bool, ℤ, pos}
use Rattle.integers.specs.Integer.{bit}
use Rattle.forms.specs.Form.{places}
use Rattle.sets.specs.Sets.{is_subset}
use Rattle.scheme.specs.declared.Scheme.{Scheme}
use Rattle.scheme.specs.Variables.{E}

-- a filling z gives 0 (false) or 1 (true) to each variable
abbrev pub Filling : Type 0
Filling = ℕ → Bool

-- the factors of the places: 1, z_0, z_1, ..
abbrev pub factor : Filling → ℕ → ℤ
factor z = places (pos 1) (λ i. bit (z i))

-- the filling that a plan induces: a variable is 1 when the choices of its set are all fed
abbrev pub induced : ℕ → Scheme → ℕ → Filling
induced n s plan v = is_subset (E n s v) plan
