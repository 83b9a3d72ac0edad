-- The function g of a register and a scheme, as a form; c t is the coefficient of term t.
use Rattle.std.specs.Prelude.{ℕ, ◌+◌, ◌*◌, cond, [], ◌∷◌, eqb, ℤ}
use Rattle.integers.specs.Lists.{join_below}
use Rattle.forms.specs.Form.{Form, mono, place}
use Rattle.register.specs.declared.Register.{Register}
use Rattle.register.specs.Limits.{max_base, max_terms, max_coefficient}
use Rattle.scheme.specs.declared.Scheme.{Scheme}
use Rattle.scheme.specs.Scheme.{split_left, split_right}

-- c · z_l · z_r; a split (l, l) gives the linear c · z_l and no square
unfoldable pub term : ℕ → ℕ → ℤ → Form
term l r c = cond (eqb l r) (mono 0 (place l) c ∷ []) (mono (place l) (place r) c ∷ [])

-- term t
abbrev pub term_of : (ℕ → ℤ) → Scheme → ℕ → Form
term_of c s t = term (split_left s t) (split_right s t) (c t)

-- g: the base cost and each term in the variables of its split
unfoldable pub g : (ℕ → ℤ) → Register → Scheme → Form
g c r s = mono 0 0 r.base ∷ join_below r.terms (term_of c s)

-- a number of the table of g is at most twice |base cost| and the sum of all |coefficients|
abbrev pub max_g : ℕ
max_g = 2 * (max_base + max_terms * max_coefficient)
