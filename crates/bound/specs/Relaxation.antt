-- What a certificate proves of the relaxed problem of a supplier's solver, where the fraction of variable i is y i / D. The function is s·g
-- with its null forms and row forms. Homogenized it is at least T·D², so at the fractions it is at least T, and divided by s at least T/s,
-- not rounded up. This is not said of g by itself: at fractions null forms and row forms need not be 0. c t is the coefficient of term t.
use Rattle.std.specs.Prelude.{ℕ, ◌≡◌, ℤ, pos, ◌*ℤ◌, ◌≤ℤ◌}
use Rattle.integers.specs.Integer.{bit}
use Rattle.integers.specs.CeilDiv.{IsCeilDiv}
use Rattle.forms.specs.Form.{homogenized}
use Rattle.register.specs.declared.Register.{Register}
use Rattle.plan.specs.Plan.{cost}
use Rattle.plan.specs.Fits.{Fits}
use Rattle.scheme.specs.declared.Scheme.{Scheme}
use Rattle.scheme.specs.Filling.{induced}
use Rattle.scheme.specs.Function.{g}
use Rattle.certificate.specs.Certificate.{Certificate}
use Rattle.residual.specs.Residual.{reformulated}
use Rattle.residual.specs.Relaxed.{Relaxed}

-- the filling that a plan induces, as whole numbers: 1 for a variable whose choices are all fed, else 0
abbrev pub plan_point : Register → Scheme → ℕ → ℕ → ℤ
plan_point reg sch plan i = bit (induced reg.choices sch plan i)

module _ (c : ℕ → ℤ) (reg : Register) (sch : Scheme) (cert : Certificate) where
  -- at every point of the relaxed problem the function is at least T·D²
  abbrev pub AtPoints : Type 0
  AtPoints = (D : ℕ) (y : ℕ → ℤ) → Relaxed reg.choices sch D y → (cert.target *ℤ pos D *ℤ pos D) ≤ℤ homogenized (reformulated c reg sch cert) D y

  -- a plan is a point, with D = 1. There g is the plan's cost, and the function is s times g where the plan fits the rows: null forms and
  -- row forms are 0 there. Where it does not fit, a row form need not be
  pub record AtPlan (plan : ℕ) : Type 0 where
    pub point : Relaxed reg.choices sch 1 (plan_point reg sch plan)
    pub cost_is : homogenized (g c reg sch) 1 (plan_point reg sch plan) ≡ cost c reg plan
    pub function_is : Fits reg plan → homogenized (reformulated c reg sch cert) 1 (plan_point reg sch plan) ≡ pos cert.scale *ℤ homogenized (g c reg sch) 1 (plan_point reg sch plan)

  -- what the function is at least at every point, and what it is at each plan; and b is T/s rounded up, so s is not 0
  pub record BoundsRelaxed (b : ℤ) : Type 0 where
    pub at_points : AtPoints
    pub at_plans : (plan : ℕ) → AtPlan plan
    pub rounded_up : IsCeilDiv cert.target cert.scale b
