-- What is demanded of the check, over bytes.
use Rattle.std.specs.Prelude.{ℕ, ◌≡◌, true, List, ℤ, pos, ◌≤ℤ◌}
use Rattle.wire.specs.Number.{Bytes}
use Rattle.register.specs.declared.Register.{Register}
use Rattle.register.specs.Register.{has_range}
use Rattle.register.specs.Encoding as RE
use Rattle.register.specs.Valid as R
use Rattle.plan.specs.Plan.{cost}
use Rattle.plan.specs.Fits.{Fits}
use Rattle.plan.specs.Chosen.{chosen, CheapestWithinRanges}
use Rattle.plan.specs.Encoding as PE
use Rattle.plan.specs.Valid as P
use Rattle.plan.specs.Answer.{cost_answer}
use Rattle.scheme.specs.declared.Scheme.{Scheme}
use Rattle.scheme.specs.Encoding as SE
use Rattle.scheme.specs.Valid as S
use Rattle.bound.specs.declared.CheckAnswer.{CheckAnswer}
use Rattle.certificate.specs.Certificate.{Certificate}
use Rattle.residual.specs.Residual.{second_order}
use Rattle.bound.specs.Bound.{bound}
use Rattle.certificate.specs.Encoding.{Encodes}
use Rattle.bound.specs.Valid.{Valid}

-- what an answer says that is no refusal: the bytes are those of a register, a scheme, a certificate and, where a term has a range, a plan
-- that meet the paper's conditions, and these have the bound, with the coefficients that the plan chooses. Where no term has a range, every
-- plan chooses the same, and nothing is asked of the bytes
pub record Shown (register scheme certificate plan : List ℕ) (a : CheckAnswer) : Type 0 where
  pub reg : Register
  pub sch : Scheme
  pub cert : Certificate
  pub chooses : ℕ
  pub register_is : Bytes register → RE.Encodes reg register
  pub scheme_is : Bytes scheme → SE.Encodes reg sch scheme
  pub certificate_is : Bytes certificate → Encodes cert certificate
  pub plan_is : has_range reg ≡ true → Bytes plan → PE.Encodes reg chooses plan
  pub register_valid : R.Valid reg
  pub scheme_valid : S.Valid reg sch
  pub plan_valid : has_range reg ≡ true → P.Valid reg chooses
  pub certificate_valid : Valid (chosen reg chooses) reg sch cert
  pub bound_is : a.bound ≡ bound cert
  -- no plan that fits is cheaper than the bound, with the chosen coefficients, nor any that the cost call reads with these bytes
  pub costs : (other : ℕ) → Fits reg other → a.bound ≤ℤ cost (chosen reg chooses) reg other
  pub answered_costs : (other : List ℕ) → (cost_answer register other).number ≡ 0 → a.bound ≤ℤ (cost_answer register other).cost
  -- where the cost of the plan that chooses is the bound, it is the cheapest that fits, with any coefficients within the ranges
  pub cheapest : a.bound ≡ cost (chosen reg chooses) reg chooses → CheapestWithinRanges reg chooses
  -- the second-order part is positive semidefinite
  pub second_order_part : (x : ℕ → ℤ) → pos 0 ≤ℤ second_order (chosen reg chooses) reg sch cert x
