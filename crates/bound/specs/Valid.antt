-- The paper's conditions on a certificate of a register and a scheme: those on its commands, and that R carries T. Written without
-- the check (`proofs/Conditions` has that the check tests just this). c t is the coefficient of term t.
use Rattle.std.specs.Prelude.{ℕ, ℤ}
use Rattle.integers.specs.Quadratic.{DiagonallyDominant}
use Rattle.register.specs.declared.Register.{Register}
use Rattle.scheme.specs.declared.Scheme.{Scheme}
use Rattle.scheme.specs.Scheme.{side}
use Rattle.certificate.specs.Certificate.{Certificate}
use Rattle.certificate.specs.Within.{Within}
use Rattle.residual.specs.Residual.{R}

-- R carries T: it is diagonally dominant
abbrev pub Carries : (ℕ → ℤ) → Register → Scheme → Certificate → Type 0
Carries c reg s k = DiagonallyDominant (side reg.choices s) (R c reg s k)

-- within the limits, and R carries T
pub record Valid (c : ℕ → ℤ) (reg : Register) (s : Scheme) (k : Certificate) : Type 0 where
  pub within : Within reg s k
  pub carried : Carries c reg s k
