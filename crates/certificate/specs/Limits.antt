-- The certificate's limits and ranges.
use Rattle.std.specs.Prelude.{ℕ, suc}
use Rattle.scheme.specs.Scheme.{max_variables}

-- the ranges of scale and target

abbrev pub max_scale : ℕ
max_scale = 1_000_000

abbrev pub max_target : ℕ
max_target = 4_000_000_000_000_000

-- at most 1,024 multiplier commands, each multiplier within ±10¹² or 0–10¹²

abbrev pub max_multipliers : ℕ
max_multipliers = 1_024

abbrev pub max_multiplier : ℕ
max_multiplier = 1_000_000_000_000

-- of a row form within ±10⁹

abbrev pub max_row_multiplier : ℕ
max_row_multiplier = 1_000_000_000

-- at most 64 squares; the range of a weight; an entry for the constant and one for each variable, and their range

abbrev pub max_squares : ℕ
max_squares = 64

abbrev pub max_weight : ℕ
max_weight = 1_000_000

abbrev pub square_entries : ℕ
square_entries = suc max_variables

abbrev pub max_entry : ℕ
max_entry = 10_000
