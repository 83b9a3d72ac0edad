-- The null forms of `31` to `34` are 0 at every plan, whether it fits the rows or not: they look at no row, and of the register without its
-- rows every plan fits.
use Prim.Native.Nat.{ℕ}
use mathlib.Core.Path.{◌≡◌, refl, sym, ◌∙◌, ap, subst}
use mathlib.Core.Bool.{cond}
use mathlib.Core.List.{[]}
use lib.IntN.{ℤ, pos, ◌+ℤ◌, ◌*ℤ◌, +ℤ_idr}
use Rattle.integers.proofs.Sum.{sum_over_0}
use Rattle.forms.specs.Form.{value, times, homogenized}
use Rattle.forms.proofs.Form.{value_flat_map}
use Rattle.forms.proofs.Homogenized.{homogenized_value}
use Rattle.register.specs.declared.Register.{Register}
use Rattle.plan.proofs.Fits.{every_fits}
use Rattle.scheme.specs.declared.Scheme.{Scheme}
use Rattle.scheme.specs.Filling.{factor, induced}
use Rattle.scheme.specs.Function.{g}
use Rattle.scheme.specs.Valid as S
use Rattle.certificate.specs.Certificate.{Multiplier, Certificate}
use Rattle.certificate.specs.Within.{Allowed, Within}
use Rattle.residual.specs.Residual.{null_part, null_forms, reformulated}
use Rattle.residual.proofs.Rules.{null_0}
use Rattle.bound.specs.Relaxation.{plan_point}
use Rattle.soundness.specs.Windows.{without_rows}
use Rattle.soundness.specs.BeforeRowMultipliers.{NoRowMultiplier, AllowedBeforeRows, rule_of_before_rows, NullEveryPlan}
use Rattle.soundness.proofs.BeforeRowMultipliers.{NoRow, with_each, same_condition, same_rule}
use Rattle.soundness.proofs.Multipliers.{function_is}

module _ (reg : Register) (sch : Scheme) (scheme : S.Valid reg sch) where
  abbrev filling : ℕ → ℕ → ℤ
  filling plan = factor (induced reg.choices sch plan)

  module _ (t : Multiplier) (d : NoRow t) where
    allowed_without : Allowed reg sch t → Allowed (without_rows reg) sch t
    unfolding AllowedBeforeRows
    allowed_without ok = subst (λ X. X) (sym (same_condition (without_rows reg) sch t d)) (subst (λ X. X) (same_condition reg sch t d) ok)

    part_without : null_part (without_rows reg) sch t ≡ null_part reg sch t
    unfolding null_part rule_of_before_rows
    part_without = ap (λ ρ. cond ρ.null (times t.m ρ.form) []) (same_rule (without_rows reg) sch t d ∙ sym (same_rule reg sch t d))

    null_at : Allowed reg sch t → (plan : ℕ) → value (filling plan) (null_part reg sch t) ≡ pos 0
    null_at ok plan = subst (λ f. value (filling plan) f ≡ pos 0) part_without (null_0 (without_rows reg) sch scheme.within.products t (allowed_without ok) plan (every_fits (without_rows reg) refl plan))

  module _ (c : ℕ → ℤ) (cert : Certificate) (within : Within reg sch cert) (none : NoRowMultiplier cert) (plan : ℕ) where
    all_null : value (filling plan) (null_forms reg sch cert.multipliers) ≡ pos 0
    unfolding null_forms
    all_null =
        value_flat_map (filling plan) (null_part reg sch) cert.multipliers
        ∙ sum_over_0 cert.multipliers _ (with_each (Allowed reg sch) NoRow _ (λ t ok d. null_at t d ok plan) cert.multipliers within.multipliers none)

    at_every_plan : homogenized (reformulated c reg sch cert) 1 (plan_point reg sch plan) ≡ pos cert.scale *ℤ homogenized (g c reg sch) 1 (plan_point reg sch plan)
    at_every_plan =
        homogenized_value (reformulated c reg sch cert) 1 (plan_point reg sch plan)
        ∙ function_is c reg sch (filling plan) cert
        ∙ ap (λ x. pos cert.scale *ℤ value (filling plan) (g c reg sch) +ℤ x) all_null
        ∙ +ℤ_idr (pos cert.scale *ℤ value (filling plan) (g c reg sch))
        ∙ ap (λ x. pos cert.scale *ℤ x) (sym (homogenized_value (g c reg sch) 1 (plan_point reg sch plan)))

pub null_every_plan : NullEveryPlan
null_every_plan = record {
  command = λ reg sch scheme t ok d plan. null_at reg sch scheme t d ok plan;
  function_is = λ c reg sch cert scheme within none plan. at_every_plan reg sch scheme c cert within none plan;
}
