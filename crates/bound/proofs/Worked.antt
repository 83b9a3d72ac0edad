-- Rows of the paper's worked set: W8, and W9, the example.
use Prim.Native.Nat.{ℕ}
use mathlib.Core.Path.{◌≡◌, refl}
use mathlib.Core.Bool.{true, false}
use mathlib.Core.List.{[], ◌∷◌, flat_map, map}
use lib.IntN.{ℤ, pos, negsuc}
use Rattle.integers.specs.CeilDiv.{ceil_div}
use Rattle.integers.specs.Integer.{abs}
use Rattle.integers.specs.Lists.{all_below, join_below}
use Rattle.integers.specs.Sum.{sum_below, sum_over, except}
use Rattle.integers.specs.Quadratic.{off_diagonal}
use Rattle.forms.specs.Form.{times, entry}
use Rattle.register.specs.Register.{coefficient}
use Rattle.scheme.specs.Function.{term, g}
use Rattle.register.proofs.Example.{example_register}
use Rattle.scheme.proofs.Example.{example_scheme}
use Rattle.certificate.specs.Certificate.{Certificate}
use Rattle.certificate.specs.Rules.{by_key, rule_of}
use Rattle.residual.specs.Residual.{null_part, subtracted_part, null_forms, subtracted_forms, reformulated, shifted, R}
use Rattle.bound.specs.Bound.{row_holds, carries, bound}
use Rattle.certificate.proofs.Commands.{command}

-- W8: three quotients rounded up

abbrev pub ratio : ℤ → ℕ → Certificate
ratio t s = record { scale = s; target = t; multipliers = []; squares = [] }

pub w8 : map bound (ratio (negsuc 6) 2 ∷ ratio (pos 7) 2 ∷ ratio (negsuc 0) 3 ∷ []) ≡ negsuc 2 ∷ pos 4 ∷ pos 0 ∷ []
unfolding bound ceil_div
w8 = refl

-- the example's certificate, with target t

abbrev pub example_certificate : ℤ → Certificate
example_certificate t = record {
  scale = 1;
  target = t;
  multipliers = command 0x39 0 6 ∷ command 0x39 1 4 ∷ command 0x38 4 5 ∷ [];
  squares = [];
}

-- it carries T = 0, and not T = 1
pub w9 : map (λ t. carries (coefficient example_register) example_register example_scheme (example_certificate t)) (pos 0 ∷ pos 1 ∷ []) ≡ true ∷ false ∷ []
unfolding carries all_below row_holds R shifted reformulated null_forms subtracted_forms null_part subtracted_part rule_of by_key flat_map times entry g join_below term sum_below sum_over off_diagonal except abs
w9 = refl
