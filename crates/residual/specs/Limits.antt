-- How large the numbers of the tables become, by the limits of a certificate.
use Rattle.std.specs.Prelude.{ℕ, ◌+◌, ◌*◌, max}
use Rattle.register.specs.Limits.{max_row_total, max_base, max_terms, max_coefficient}
use Rattle.certificate.specs.Limits.{max_scale, max_target, max_multipliers, max_multiplier, max_row_multiplier, max_squares, max_weight, max_entry}

-- w·v_i of a square, the factor of row i
abbrev pub max_row_factor : ℕ
max_row_factor = max_weight * max_entry

-- w·v_i·v_j
abbrev pub max_square_at : ℕ
max_square_at = max_row_factor * max_entry

-- what a multiplier command adds to a number, or subtracts from it: of `31` to `39` at most 2m, of `3B` at most m times the highest total
-- of a row, which is more than twice any entry (`rule_low` in proofs/Peaks)
abbrev pub max_by_command : ℕ
max_by_command = max (2 * max_multiplier) (max_row_multiplier * max_row_total)

-- a number of the table of g: at (0, 0) twice the base cost, and elsewhere, since g has no squares, at most the sum of all |coefficients|
abbrev pub max_g_entry : ℕ
max_g_entry = max (2 * max_base) (max_terms * max_coefficient)

-- a number of B: s times one of g, twice T, and what the multiplier commands add
abbrev pub max_b : ℕ
max_b = max_scale * max_g_entry + 2 * max_target + max_multipliers * max_by_command

-- a number of R, or of B with some of the squares subtracted
abbrev pub max_r : ℕ
max_r = max_b + max_squares * max_square_at
