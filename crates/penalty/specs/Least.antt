-- What demand 3 says of the penalty form.
use Rattle.std.specs.Prelude.{◌≡◌, ℕ, ℤ, ◌≤ℤ◌}
use Rattle.register.specs.declared.Register.{Register}
use Rattle.plan.specs.Plan.{Plan, cost}
use Rattle.scheme.specs.Filling.{Filling}
use Rattle.penalty.specs.Carried.{carried}

-- m is the least value of f where P holds: it is reached there, and nothing there is below it
pub record LeastWhere {A : Type 0} (P : A → Type 0) (f : A → ℤ) (m : ℤ) : Type 0 where
  pub witness : A
  pub holds : P witness
  pub reached : f witness ≡ m
  pub lowest : (a : A) → P a → m ≤ℤ f a

-- nothing is asked
abbrev pub Every : {A : Type 0} → A → Type 0
Every a = Unit {0}

-- m is the least value of f
abbrev pub Least : {A : Type 0} → (A → ℤ) → ℤ → Type 0
Least f m = LeastWhere Every f m

-- m is the least value of f over the fillings that carry a plan with P, any condition on plans
abbrev pub LeastFilling : (ℕ → Type 0) → Register → (Filling → ℤ) → ℤ → Type 0
LeastFilling P r f m = LeastWhere (λ (z : Filling). P (carried r.choices z)) f m

-- m is the least cost over the plans with P
abbrev pub LeastPlan : (ℕ → Type 0) → (ℕ → ℤ) → Register → ℤ → Type 0
LeastPlan P c r m = LeastWhere (λ (p : Plan r.choices). P p.fed) (λ (p : Plan r.choices). cost c r p.fed) m

-- f over those fillings and the cost over those plans have the same least value, and where f takes it at such a filling, so does
-- the cost of the plan carried
pub record SameLeastWhere (P : ℕ → Type 0) (c : ℕ → ℤ) (r : Register) (f : Filling → ℤ) : Type 0 where
  pub least : ℤ
  pub over_fillings : LeastFilling P r f least
  pub over_plans : LeastPlan P c r least
  pub minimisers : (z : Filling) → P (carried r.choices z) → f z ≡ least → cost c r (carried r.choices z) ≡ least

-- over all fillings and all plans
abbrev pub SameLeast : (ℕ → ℤ) → Register → (Filling → ℤ) → Type 0
SameLeast c r f = SameLeastWhere Every c r f
