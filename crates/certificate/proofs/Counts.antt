-- The counts of a certificate's commands, each by itself: multipliers of whatever kind, and squares.
use Prim.Native.Nat.{◌≤◌}
use mathlib.Core.Logic.{◌↔◌}
use lib.IntN.{nat_abs}
use lib.ListN.{length}
use Rattle.integers.specs.Lists.{All}
use Rattle.register.specs.declared.Register.{Register}
use Rattle.scheme.specs.declared.Scheme.{Scheme}
use Rattle.certificate.specs.Limits.{max_scale, max_target, max_multipliers, max_squares}
use Rattle.certificate.specs.Certificate.{Certificate}
use Rattle.certificate.specs.Within.{Allowed, SquareAllowed, Within}

-- commands each of which is allowed are within the limits just where there are not too many of either
pub counts_apart : (r : Register) (s : Scheme) (k : Certificate) → 1 ≤ k.scale → k.scale ≤ max_scale → nat_abs k.target ≤ max_target →
    All (Allowed r s) k.multipliers → All (SquareAllowed r.choices s) k.squares →
    Within r s k ↔ ((length k.multipliers ≤ max_multipliers) × (length k.squares ≤ max_squares))
counts_apart r s k above within target ts qs = (
  (λ w. (w.multipliers_within, w.squares_within)),
  (λ h. record {
    scale_above = above;
    scale_within = within;
    target_within = target;
    multipliers_within = h.0;
    multipliers = ts;
    squares_within = h.1;
    squares = qs;
  }),
)
