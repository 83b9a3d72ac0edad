-- With another factor of the scheme the check answers as before, and leaves the same table.
use mathlib.Core.Path.{◌≡◌, refl, ap}
use mathlib.Core.Bool.{cond}
use mathlib.Core.List.{List}
use Prim.Native.Nat.{ℕ}
use lib.Dec.{ltb}
use lib.ListN.{length}
use lib.IntN.{ℤ}
use Rattle.wire.specs.Part.{by_itself}
use Rattle.wire.specs.Outcome.{Outcome, refuses, accepts, given, and_then, answer_by}
use Rattle.forms.specs.Table.{table_numbers}
use Rattle.register.specs.declared.Register.{Register}
use Rattle.plan.specs.Chosen.{chosen}
use Rattle.scheme.specs.declared.Scheme.{Scheme}
use Rattle.scheme.specs.Scheme.{with_factor}
use Rattle.scheme.specs.Answer.{open_parts}
use Rattle.certificate.specs.Certificate.{Certificate}
use Rattle.certificate.specs.Format.{commands_in_job}
use Rattle.certificate.proofs.OtherFactor.{commands_with_factor, certificate_with_factor}
use Rattle.residual.proofs.OtherFactor.{R_with_factor}
use Rattle.bound.specs.Valid.{Valid}
use Rattle.bound.specs.Format.{certificate_in_job, certificate_by_itself}
use Rattle.bound.specs.Opening.{open_plan, open_chosen}
use Rattle.bound.specs.Check.{with_residual, refused_answer, accepted_answer, check_answer, check_table}
use Rattle.bound.proofs.Same.{certificate_alike, residual_alike}

module _ (c : ℕ → ℤ) (reg : Register) (s : Scheme) (f : ℕ) where
  pub certificate_in_job_with_factor : (x : List ℕ) → certificate_in_job c reg (with_factor s f) x ≡ certificate_in_job c reg s x
  certificate_in_job_with_factor = certificate_alike c c reg reg s (with_factor s f) refl (commands_with_factor reg s f) (R_with_factor reg s f c)

  by_itself_with_factor : (x : List ℕ) → certificate_by_itself c reg (with_factor s f) x ≡ certificate_by_itself c reg s x
  unfolding certificate_by_itself
  by_itself_with_factor x = ap (by_itself x) (certificate_in_job_with_factor x)

  pub residual_with_factor : (x : List ℕ) (lent : List ℤ) →
      with_residual c reg (with_factor s f) (commands_in_job reg (with_factor s f) x) lent ≡ with_residual c reg s (commands_in_job reg s x) lent
  residual_with_factor = residual_alike c c reg reg s (with_factor s f) refl (commands_with_factor reg s f) (R_with_factor reg s f c)

  pub carried_with_factor : (k : Certificate) → Valid c reg s k → Valid c reg (with_factor s f) k
  carried_with_factor k v = record { within = certificate_with_factor reg s f k v.within; carried = rw (R_with_factor reg s f c k) v.carried }

-- ---- the calls: where part 2 is read as a scheme, and in other bytes as the same with another factor

module _ (register t u : List ℕ) (reg : Register) (s : Scheme) (f : ℕ) (one : open_parts register t ≡ accepts (reg, s)) (other : open_parts register u ≡ accepts (reg, with_factor s f)) (plan : List ℕ) where
  -- what looks at the scheme of the parts but not at its factor is the same
  pub opened_with_factor : {A : Type 0} (h : Outcome (Register × Scheme × ℕ) → A) → ((p : ℕ) → h (accepts (reg, with_factor s f, p)) ≡ h (accepts (reg, s, p))) →
      h (open_chosen register u plan) ≡ h (open_chosen register t plan)
  opened_with_factor {A} h same = rw (one, other) (by_plan (open_plan reg plan))
    where
      by_plan : (x : Outcome ℕ) → h (and_then x λ p. accepts (reg, with_factor s f, p)) ≡ h (and_then x λ p. accepts (reg, s, p))
      by_plan (refuses number part at) = refl
      by_plan (accepts p) = same p

  pub answer_with_factor : (certificate : List ℕ) (lent : List ℤ) → check_answer register u certificate plan lent ≡ check_answer register t certificate plan lent
  unfolding check_answer
  answer_with_factor certificate lent =
      opened_with_factor
      (λ x. cond (ltb (length lent) table_numbers) (refused_answer 11 0 0) (answer_by refused_answer accepted_answer (and_then x λ (r, sch, p). given 3 (certificate_by_itself (chosen r p) r sch certificate))))
      (λ p. rw (by_itself_with_factor (chosen reg p) reg s f certificate) refl)

  pub table_with_factor : (certificate : List ℕ) (lent : List ℤ) → check_table register u certificate plan lent ≡ check_table register t certificate plan lent
  unfolding check_table
  table_with_factor certificate lent =
      opened_with_factor
      (λ x. cond (ltb (length lent) table_numbers) lent (answer_by (λ number part at. lent) (λ (r, sch, p). with_residual (chosen r p) r sch (commands_in_job r sch certificate) lent) x))
      (λ p. ap (cond (ltb (length lent) table_numbers) lent) (residual_with_factor (chosen reg p) reg s f certificate lent))
