-- The plan that a filling carries (the paper's own term).
use Rattle.std.specs.Prelude.{ℕ}
use Rattle.sets.specs.Sets.{set_of}
use Rattle.scheme.specs.Filling.{Filling}

-- of n choices, those that are 1 in z
unfoldable pub carried : ℕ → Filling → ℕ
carried n z = set_of n z
