-- What the check of a certificate comes to with the register that the code makes for a plan, whose coefficients are those that the plan
-- chooses: what it comes to with the register itself and these coefficients.
use Prim.Native.Nat.{ℕ, ◌-◌, ◌<◌}
use mathlib.Core.Path.{◌≡◌, refl, ◌∙◌, ap, ap₂}
use mathlib.Core.Bool.{cond}
use mathlib.Core.List.{List}
use lib.IntN.{ℤ}
use Rattle.integers.specs.Lists.{all_below}
use Rattle.wire.specs.Part.{Reading, refused, accepted}
use Rattle.wire.specs.Rows.{Progress}
use Rattle.forms.specs.Table.{with_table}
use Rattle.register.specs.declared.Register.{Register}
use Rattle.register.specs.Register.{coefficient}
use Rattle.register.specs.Valid.{Within}
use Rattle.plan.specs.Chosen.{chosen, under}
use Rattle.plan.proofs.Coefficients.{under_coefficient}
use Rattle.scheme.specs.declared.Scheme.{Scheme}
use Rattle.scheme.specs.Scheme.{side}
use Rattle.scheme.specs.Function.{g}
use Rattle.certificate.specs.Certificate.{Certificate}
use Rattle.certificate.specs.Rules.{rule_of}
use Rattle.certificate.specs.Format.{commands_in_job}
use Rattle.residual.specs.Residual.{null_part, subtracted_part, null_forms, subtracted_forms, reformulated, shifted, R}
use Rattle.residual.proofs.Same.{R_same}
use Rattle.bound.specs.Bound.{row_holds, carries}
use Rattle.bound.specs.Format.{dominance_checked, certificate_in_job}
use Rattle.bound.specs.Check.{with_residual}

-- ---- two registers and two schemes with which the commands are read alike, with coefficients with which R is the same

module _ (c d : ℕ → ℤ) (reg other : Register) (sch changed : Scheme) (sides : side other.choices changed ≡ side reg.choices sch) (commands : (s : List ℕ) → commands_in_job other changed s ≡ commands_in_job reg sch s) (residual : (k : Certificate) → R c other changed k ≡ R d reg sch k) where
  carries_alike : (k : Certificate) → carries c other changed k ≡ carries d reg sch k
  unfolding carries
  carries_alike k = ap₂ (λ n t. all_below n (row_holds n t)) sides (residual k)

  dominance_alike : (x : Reading (Progress Certificate)) → dominance_checked c other changed x ≡ dominance_checked d reg sch x
  unfolding dominance_checked
  dominance_alike (refused n at) = refl
  dominance_alike (accepted p end) = ap (λ b. cond b (accepted p end) (refused 9 (end - 1))) (carries_alike p.parsed)

  pub certificate_alike : (s : List ℕ) → certificate_in_job c other changed s ≡ certificate_in_job d reg sch s
  unfolding certificate_in_job
  certificate_alike s = dominance_alike (commands_in_job other changed s) ∙ ap (dominance_checked d reg sch) (commands s)

  reading_alike : (x : Reading (Progress Certificate)) (lent : List ℤ) → with_residual c other changed x lent ≡ with_residual d reg sch x lent
  reading_alike (refused n at) lent = refl
  reading_alike (accepted p end) lent = ap₂ (λ n t. with_table n t lent) sides (residual p.parsed)

  pub residual_alike : (s : List ℕ) (lent : List ℤ) → with_residual c other changed (commands_in_job other changed s) lent ≡ with_residual d reg sch (commands_in_job reg sch s) lent
  residual_alike s lent = reading_alike (commands_in_job other changed s) lent ∙ ap (λ x. with_residual d reg sch x lent) (commands s)

-- ---- coefficients that are the same

module _ (c d : ℕ → ℤ) (reg : Register) (sch : Scheme) (h : (t : ℕ) → t < reg.terms → c t ≡ d t) where
  pub certificate_same : (s : List ℕ) → certificate_in_job c reg sch s ≡ certificate_in_job d reg sch s
  certificate_same = certificate_alike c d reg reg sch sch refl (λ s. refl) (R_same c d reg sch h)

  pub residual_same : (x : Reading (Progress Certificate)) (lent : List ℤ) → with_residual c reg sch x lent ≡ with_residual d reg sch x lent
  residual_same = reading_alike c d reg reg sch sch refl (λ s. refl) (R_same c d reg sch h)

-- ---- the register that the code makes for a plan

module _ (reg : Register) (w : Within reg) (sch : Scheme) (plan : ℕ) where
  abbrev made : Register
  made = under reg plan

  -- its commands are read as those of the register, and its R is that of the chosen coefficients

  commands_under : (s : List ℕ) → commands_in_job made sch s ≡ commands_in_job reg sch s
  unfolding commands_in_job rule_of
  commands_under s = refl

  R_under : (k : Certificate) → R (coefficient made) made sch k ≡ R (chosen reg plan) reg sch k
  unfolding R shifted reformulated g null_forms subtracted_forms null_part subtracted_part rule_of
  R_under k = R_same (coefficient made) (chosen reg plan) reg sch (λ t l. under_coefficient reg w plan t) k

  pub certificate_under : (s : List ℕ) → certificate_in_job (coefficient made) made sch s ≡ certificate_in_job (chosen reg plan) reg sch s
  certificate_under = certificate_alike (coefficient made) (chosen reg plan) reg made sch sch refl commands_under R_under

  pub residual_under : (s : List ℕ) (lent : List ℤ) →
      with_residual (coefficient made) made sch (commands_in_job made sch s) lent ≡ with_residual (chosen reg plan) reg sch (commands_in_job reg sch s) lent
  residual_under = residual_alike (coefficient made) (chosen reg plan) reg made sch sch refl commands_under R_under
