-- How large the numbers of the table of h are, with any factor.
use Rattle.std.specs.Prelude.{ℕ}

-- no number of the table is larger in absolute value
abbrev pub max_h_entry : ℕ
max_h_entry = 25_000_000_000_000

-- nor the table's sum at a filling, which is twice the value there. Both are below 2⁶³
abbrev pub max_h_sum : ℕ
max_h_sum = 110_000_000_000_000_000
