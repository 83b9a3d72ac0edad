-- Part 1 of the paper's example: its bytes and its record. For other examples: terms without ranges.
use mathlib.Core.Bool.{false}
use mathlib.Core.List.{List, [], ◌∷◌}
use Prim.Native.Nat.{ℕ}
use lib.IntN.{ℤ, pos, negsuc}
use lib.ListN.{replicate}
use Rattle.register.specs.declared.Register.{Register}
use Rattle.register.specs.Limits.{max_terms, usual_day}
use Rattle.register.specs.Register.{set_terms}

abbrev pub register_bytes : List ℕ
register_bytes =
    0x10 ∷ 0x0A ∷ 0 ∷ 0 ∷ 0
    ∷ 0x11 ∷ 4 ∷ 0 ∷ 0xE0 ∷ 1 ∷ 0x11 ∷ 4 ∷ 0 ∷ 0xD0 ∷ 2 ∷ 0x11 ∷ 7 ∷ 0 ∷ 0xE0 ∷ 1
    ∷ 0x12 ∷ 1 ∷ 0 ∷ 0 ∷ 0 ∷ 0xFA ∷ 0xFF ∷ 0xFF ∷ 0xFF
    ∷ 0x12 ∷ 2 ∷ 0 ∷ 0 ∷ 0 ∷ 0xFC ∷ 0xFF ∷ 0xFF ∷ 0xFF
    ∷ 0x12 ∷ 7 ∷ 0 ∷ 0 ∷ 0 ∷ 5 ∷ 0 ∷ 0 ∷ 0
    ∷ 0x1F ∷ []

abbrev pub example_register : Register
example_register = record {
  base = pos 10;
  day_length = usual_day;
  choices = 3;
  terms = 3;
  tanks = 4 ∷ 4 ∷ 7 ∷ replicate 45 0;
  minutes = 480 ∷ 720 ∷ 480 ∷ replicate 45 0;
  masks = 1 ∷ 2 ∷ 7 ∷ replicate 253 0;
  coefficients = negsuc 5 ∷ negsuc 3 ∷ pos 5 ∷ replicate 253 (pos 0);
  highs = negsuc 5 ∷ negsuc 3 ∷ pos 5 ∷ replicate 253 (pos 0);
  ranged = replicate 256 false;
  windows = 0;
  window_tanks = replicate 64 0;
  window_froms = replicate 64 0;
  window_tos = replicate 64 0;
  rows = 0;
  row_totals = replicate 8 (pos 0);
  row_entries = replicate 256 (pos 0);
}

-- a register with other terms, none of which has a range
abbrev pub known_terms : Register → ℕ → List ℕ → List ℤ → Register
known_terms r m masks coefficients = set_terms r m masks coefficients coefficients (replicate max_terms false)
