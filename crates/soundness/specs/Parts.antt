-- One part: it meets the paper's conditions with the parts before it, and the bytes are an encoding of it. Which plan chooses the
-- coefficients. And the table of the third part.
use Rattle.std.specs.Prelude.{ℕ, ◌^◌, ◌<◌, ◌≡◌, true, false, List, ℤ}
use Rattle.forms.specs.Table.{with_table}
use Rattle.register.specs.declared.Register.{Register}
use Rattle.register.specs.Register.{has_range}
use Rattle.register.specs.Valid as R
use Rattle.register.specs.Encoding as RE
use Rattle.scheme.specs.declared.Scheme.{Scheme}
use Rattle.scheme.specs.Scheme.{side}
use Rattle.scheme.specs.Valid as S
use Rattle.scheme.specs.Encoding as SE
use Rattle.certificate.specs.Certificate.{Certificate}
use Rattle.bound.specs.Valid as C
use Rattle.certificate.specs.Encoding.{Encodes}
use Rattle.residual.specs.Residual.{R}
use Rattle.plan.specs.Fits.{Fits}
use Rattle.plan.specs.Valid as P
use Rattle.plan.specs.Encoding as PE

-- part 1
pub record Part1 (register : List ℕ) (reg : Register) : Type 0 where
  pub conditions : R.Valid reg
  pub bytes : RE.Encodes reg register

-- part 2
pub record Part2 (reg : Register) (scheme : List ℕ) (sch : Scheme) : Type 0 where
  pub conditions : S.Valid reg sch
  pub bytes : SE.Encodes reg sch scheme

-- part 3, with its commands in any order; c t is the coefficient of term t
pub record Part3 (c : ℕ → ℤ) (reg : Register) (sch : Scheme) (certificate : List ℕ) (cert : Certificate) : Type 0 where
  pub conditions : C.Valid c reg sch cert
  pub bytes : Encodes cert certificate

-- part 4: each choice that is fed is one of the register's, and the plan fits the register's rows
pub record Part4 (reg : Register) (plan : List ℕ) (fed : ℕ) : Type 0 where
  pub conditions : P.Valid reg fed
  pub bytes : PE.Encodes reg fed plan

-- the plan that chooses the coefficients, for the calls that are lent part 4 with parts 1 and 2: of a register with a range it is part 4;
-- of another nothing is asked of the bytes, and the plan that feeds nothing stands for them
pub record Choosing (reg : Register) (plan : List ℕ) (fed : ℕ) : Type 0 where
  pub part_4 : has_range reg ≡ true → Part4 reg plan fed
  pub none : has_range reg ≡ false → fed ≡ 0

-- parts 1 and 2, and this plan
pub record WithPlan (register scheme plan : List ℕ) : Type 0 where
  pub reg : Register
  pub sch : Scheme
  pub fed : ℕ
  pub part_1 : Part1 register reg
  pub part_2 : Part2 reg scheme sch
  pub choosing : Choosing reg plan fed

-- no plan of the register's choices fits its rows
abbrev pub NoneFit : Register → Type 0
NoneFit reg = (plan : ℕ) → plan < 2 ^ reg.choices → Fits reg plan → ⊥

-- R of a certificate at the front of a lent table
abbrev pub with_r : (ℕ → ℤ) → Register → Scheme → Certificate → List ℤ → List ℤ
with_r c reg sch cert = with_table (side reg.choices sch) (R c reg sch cert)
