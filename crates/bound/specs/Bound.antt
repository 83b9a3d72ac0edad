-- What it means that R carries T, and the bound. c t is the coefficient of term t.
use Rattle.std.specs.Prelude.{ℕ, Bool, ℤ}
use Rattle.std.specs.Int.Signed.{le_z}
use Rattle.integers.specs.Lists.{all_below}
use Rattle.integers.specs.Quadratic.{off_diagonal}
use Rattle.integers.specs.CeilDiv.{ceil_div}
use Rattle.register.specs.declared.Register.{Register}
use Rattle.scheme.specs.declared.Scheme.{Scheme}
use Rattle.scheme.specs.Scheme.{side}
use Rattle.certificate.specs.Certificate.{Certificate}
use Rattle.residual.specs.Residual.{R}

-- row i of a table of side n is dominated by its diagonal entry
unfoldable pub row_holds : ℕ → (ℕ → ℕ → ℤ) → ℕ → Bool
row_holds n t i = le_z (off_diagonal n t i) (t i i)

-- R carries T (the paper's own term) when every row holds: R is diagonally dominant
unfoldable pub carries : (ℕ → ℤ) → Register → Scheme → Certificate → Bool
carries c reg sch cert = let n = side reg.choices sch in all_below n (row_holds n (R c reg sch cert))

-- the least whole number not below T/s
unfoldable pub bound : Certificate → ℤ
bound cert = ceil_div cert.target cert.scale
