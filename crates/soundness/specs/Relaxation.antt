-- The bound in the relaxation, beside demand 3, of any check and any job call: what their certificates prove of the relaxed problem of a
-- supplier's solver (`BoundsRelaxed`), over bytes. That no plan that fits costs less than the bound, as demand 3 says, is a case of it
-- (`plans`).
use Rattle.std.specs.Prelude.{ℕ, ◌*◌, ◌≤◌, ◌≡◌, ◌↔◌, false, List, ℤ, pos, ◌*ℤ◌, ◌≤ℤ◌}
use Rattle.wire.specs.Number.{Bytes}
use Rattle.forms.specs.Form.{Form, places, value, homogenized}
use Rattle.register.specs.declared.Register.{Register}
use Rattle.register.specs.Register.{coefficient, has_range}
use Rattle.plan.specs.Plan.{cost}
use Rattle.plan.specs.Fits.{Fits}
use Rattle.plan.specs.Chosen.{chosen}
use Rattle.scheme.specs.declared.Scheme.{Scheme}
use Rattle.certificate.specs.Certificate.{Certificate}
use Rattle.residual.specs.Relaxed.{Relaxed}
use Rattle.bound.specs.Relaxation.{BoundsRelaxed}
use Rattle.job.specs.declared.Tally.{Tally}
use Rattle.job.specs.Outcome.{Parts, coefficients}
use Rattle.job.specs.Valid as J
use Rattle.soundness.specs.Calls.{CheckCall, JobCall}
use Rattle.soundness.specs.Parts.{Part1, Part2, Part3, Choosing}
use Rattle.soundness.specs.Demand3.{register_of, scheme_of, Accepted}

-- parts 1 to 3 are the bytes of the register and the scheme that their readers answer and of a certificate, and of no other three that meet
-- the conditions, where a register has the coefficients c; and this certificate proves the bound b
pub record ProvesRelaxed (c : Register → ℕ → ℤ) (register scheme certificate : List ℕ) (b : ℤ) : Type 0 where
  pub cert : Certificate
  pub part_3 : Bytes certificate → Part3 (c (register_of register)) (register_of register) (scheme_of register scheme) certificate cert
  pub no_other : (reg : Register) (sch : Scheme) (k : Certificate) → Part1 register reg → Part2 reg scheme sch → Part3 (c reg) reg sch certificate k →
      (reg ≡ register_of register) × (sch ≡ scheme_of register scheme) × (k ≡ cert)
  pub bounds : BoundsRelaxed (c (register_of register)) (register_of register) (scheme_of register scheme) cert b

-- of parts 1 to 3, and of a register with a range part 4, each by itself, b being the bound that is answered
pub record CheckedRelaxed (register scheme certificate plan : List ℕ) (b : ℤ) : Type 0 where
  pub accepted : Accepted register scheme
  pub part_1 : Bytes register → Part1 register (register_of register)
  pub part_2 : Bytes scheme → Part2 (register_of register) scheme (scheme_of register scheme)
  -- this plan chooses, and no other
  pub fed : ℕ
  pub choosing : Bytes plan → Choosing (register_of register) plan fed
  pub no_other_plan : (reg : Register) (p : ℕ) → Part1 register reg → Choosing reg plan p → p ≡ fed
  -- conditions and function are of the coefficients that it chooses; where the register has no range, of the low ones, as before there were any
  pub proves : ProvesRelaxed (λ reg. chosen reg fed) register scheme certificate b
  pub known : has_range (register_of register) ≡ false → ProvesRelaxed coefficient register scheme certificate b

-- of a job
pub record JobRelaxed (job : List ℕ) (b : ℤ) : Type 0 where
  -- it is the bytes of these four parts, and of no others that meet the conditions
  pub parts : Parts
  pub conditions : J.Valid parts
  pub bytes : Bytes job → J.Encodes parts job
  pub no_other : Bytes job → (others : Parts) → J.Valid others → J.Encodes others job → others ≡ parts
  -- the function is of the coefficients that its plan chooses; without a range of the low ones
  pub bounds : BoundsRelaxed (coefficients parts) parts.register parts.scheme parts.certificate b
  pub bounds_known : has_range parts.register ≡ false → BoundsRelaxed (coefficient parts.register) parts.register parts.scheme parts.certificate b

-- fractions expanded by e, each then over e·D: they are a point just where they were one, and every form has e² times its value
pub record Expanded (n : ℕ) (s : Scheme) (D : ℕ) (y : ℕ → ℤ) (e : ℕ) : Type 0 where
  pub point : Relaxed n s D y ↔ Relaxed n s (e * D) (λ i. pos e *ℤ y i)
  pub values : (f : Form) → homogenized f (e * D) (λ i. pos e *ℤ y i) ≡ pos e *ℤ pos e *ℤ homogenized f D y

-- for all bytes that the check accepts, and for all jobs that the job call accepts, whoever wrote them
pub record Relaxation (check_call : CheckCall) (job_call : JobCall) : Type 0 where
  pub of_check : (register scheme certificate plan : List ℕ) (table : List ℤ) → (check_call register scheme certificate plan table).0.number ≡ 0 →
      CheckedRelaxed register scheme certificate plan (check_call register scheme certificate plan table).0.bound
  pub of_job : (job : List ℕ) (table : List ℤ) (supplier : ℕ) (tally : Tally) → (job_call job table supplier tally).0.number ≡ 0 →
      JobRelaxed job (job_call job table supplier tally).0.bound

-- of no call in particular
pub record RelaxationLaws : Type 0 where
  -- a form homogenized is the value of its list of monomials with D at place 0
  pub as_value : (f : Form) (D : ℕ) (y : ℕ → ℤ) → homogenized f D y ≡ value (places (pos D) y) f
  -- it does not matter which common denominator is taken
  pub expanded : (n : ℕ) (s : Scheme) (D : ℕ) (y : ℕ → ℤ) (e : ℕ) → 1 ≤ e → Expanded n s D y e
  -- one fraction for every variable is a point, most often of no plan
  pub equal : (n : ℕ) (s : Scheme) (D a : ℕ) → 1 ≤ D → a ≤ D → Relaxed n s D (λ i. pos a)
  -- the bound on the cost of plans is a case of the bound in the relaxation, that of D = 1
  pub plans : (c : ℕ → ℤ) (reg : Register) (sch : Scheme) (cert : Certificate) (b : ℤ) → BoundsRelaxed c reg sch cert b →
      (plan : ℕ) → Fits reg plan → b ≤ℤ cost c reg plan
