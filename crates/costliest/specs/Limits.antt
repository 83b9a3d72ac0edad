-- The limits of a costliest register.
use Rattle.std.specs.Prelude.{ℕ}
use Rattle.register.specs.Limits.{narrow_choices}

-- the least number of choices that a term may be asked to name
abbrev pub min_degree : ℕ
min_degree = 3

-- the most that a term may be asked to name, and that all terms together may: the choices that `12` can name, 32
abbrev pub max_named : ℕ
max_named = narrow_choices
