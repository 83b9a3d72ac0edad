-- The penalty form h. c t is the coefficient of term t.
use Rattle.std.specs.Prelude.{ℕ, ◌+◌, [], ◌∷◌, ◌++◌, ℤ, pos, negsuc}
use Rattle.integers.specs.Lists.{join_below}
use Rattle.forms.specs.Form.{Form, mono, place, times}
use Rattle.register.specs.declared.Register.{Register}
use Rattle.scheme.specs.declared.Scheme.{Scheme}
use Rattle.scheme.specs.Scheme.{left, right}
use Rattle.scheme.specs.Function.{g}
use Rattle.penalty.specs.Weights.{weight}

-- 3z_k − 2z_k z_l − 2z_k z_r + z_l z_r
unfoldable pub bracket : ℕ → ℕ → ℕ → Form
bracket k l r =
    mono 0 (place k) (pos 3)
    ∷ mono (place k) (place l) (negsuc 1)
    ∷ mono (place k) (place r) (negsuc 1)
    ∷ mono (place l) (place r) (pos 1)
    ∷ []

-- the bracket of product k
abbrev pub bracket_of : ℕ → Scheme → ℕ → Form
bracket_of n s k = bracket k (left n s k) (right n s k)

-- P_k times the bracket, for product k = n + i. The scheme's factor is in P_k, and nowhere else in h
abbrev pub penalty_of : (ℕ → ℤ) → Register → Scheme → ℕ → Form
penalty_of c r s i = let k = r.choices + i in times (weight c r s k) (bracket_of r.choices s k)

-- h: g and the penalties of all products
unfoldable pub h : (ℕ → ℤ) → Register → Scheme → Form
h c r s = g c r s ++ join_below s.products (penalty_of c r s)
