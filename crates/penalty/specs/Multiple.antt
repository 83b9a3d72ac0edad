-- How often the code adds g.
use Rattle.std.specs.Prelude.{ℕ}

-- a factor times which g is added is at most this. No limit of the paper's: any number at least a certificate's largest scale
-- would serve, as long as a table has room for g times it (`max_before_forms`)
abbrev pub max_multiple : ℕ
max_multiple = 100_000_000
