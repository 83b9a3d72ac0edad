-- The tables depend on the coefficients through g alone; and of a register's fields they look at its coefficients only through the function
-- that is given for them.
use Prim.Native.Nat.{ℕ, ◌<◌}
use mathlib.Core.Path.{◌≡◌, ap}
use mathlib.Core.List.{[], ◌∷◌, ◌++◌}
use lib.IntN.{ℤ, pos, neg_ℤ, ◌-ℤ◌}
use Rattle.integers.specs.Sum.{sum_over}
use Rattle.forms.specs.Form.{Form, mono, times, entry}
use Rattle.register.specs.declared.Register.{Register}
use Rattle.scheme.specs.declared.Scheme.{Scheme}
use Rattle.scheme.proofs.Function.{g_same}
use Rattle.certificate.specs.Rules.{minus1}
use Rattle.certificate.specs.Certificate.{Certificate}
use Rattle.residual.specs.Residual.{null_forms, subtracted_forms, reformulated, shifted, square_at, R}

-- R with a form in place of g
abbrev r_with : Form → Register → Scheme → Certificate → ℕ → ℕ → ℤ
r_with f reg sch k i j =
    entry ((times (pos k.scale) f ++ null_forms reg sch k.multipliers) ++ (times minus1 (subtracted_forms reg sch k.multipliers) ++ (mono 0 0 (neg_ℤ k.target) ∷ []))) i j
    -ℤ sum_over k.squares (λ q. square_at q i j)

-- coefficients that are the same give the same R
pub R_same : (c d : ℕ → ℤ) (reg : Register) (sch : Scheme) → ((t : ℕ) → t < reg.terms → c t ≡ d t) → (k : Certificate) → R c reg sch k ≡ R d reg sch k
unfolding R shifted reformulated
R_same c d reg sch h k = ap (λ f. r_with f reg sch k) (g_same c d reg sch h)
