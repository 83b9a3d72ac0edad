-- With another factor of the scheme a certificate has the same R.
use mathlib.Core.Path.{◌≡◌, refl, ap, fun_ext}
use Prim.Native.Nat.{ℕ}
use lib.IntN.{ℤ}
use Rattle.forms.specs.Form.{entry}
use Rattle.register.specs.declared.Register.{Register}
use Rattle.scheme.specs.declared.Scheme.{Scheme}
use Rattle.scheme.specs.Scheme.{with_factor}
use Rattle.scheme.proofs.OtherFactor.{g_with_factor}
use Rattle.certificate.specs.Certificate.{Certificate}
use Rattle.certificate.proofs.OtherFactor.{rule_with_factor}
use Rattle.residual.specs.Residual.{null_part, subtracted_part, null_forms, subtracted_forms, reformulated, shifted, B, R, second_order}

module _ (reg : Register) (s : Scheme) (f : ℕ) where
  null_with_factor : null_part reg (with_factor s f) ≡ null_part reg s
  unfolding null_part
  null_with_factor = fun_ext (λ t. rw (rule_with_factor reg s f) refl)

  subtracted_with_factor : subtracted_part reg (with_factor s f) ≡ subtracted_part reg s
  unfolding subtracted_part
  subtracted_with_factor = fun_ext (λ t. rw (rule_with_factor reg s f) refl)

  module _ (c : ℕ → ℤ) (k : Certificate) where
    reformulated_with_factor : reformulated c reg (with_factor s f) k ≡ reformulated c reg s k
    unfolding reformulated null_forms
    reformulated_with_factor = rw (g_with_factor s f c reg, null_with_factor) refl

    shifted_with_factor : shifted c reg (with_factor s f) k ≡ shifted c reg s k
    unfolding shifted subtracted_forms
    shifted_with_factor = rw (reformulated_with_factor, subtracted_with_factor) refl

    pub R_with_factor : R c reg (with_factor s f) k ≡ R c reg s k
    unfolding R
    R_with_factor = fun_ext (λ i. fun_ext (λ j. rw shifted_with_factor refl))
