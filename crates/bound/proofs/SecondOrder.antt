-- The second-order part of the reformulated function is that of B, and where R carries T it is never negative.
use Prim.Native.Nat.{ℕ}
use mathlib.Core.Path.{◌≡◌, refl, sym, ◌∙◌, ap, ap₂}
use mathlib.Core.List.{List, [], ◌∷◌}
use mathlib.Core.Bool.{not}
use native.Mathlib.Omega.{arith}
use lib.Dec.{T}
use lib.Signed.{◌≤ℤ◌}
use lib.IntN.{ℤ, pos, neg_ℤ, ◌+ℤ◌, ◌*ℤ◌, +ℤ_idr, *ℤ-zero}
use Rattle.integers.specs.Lists.{All}
use Rattle.integers.specs.Quadratic.{Semidefinite}
use Rattle.integers.proofs.Lists.{cond_cases, ◌▹◌}
use Rattle.integers.proofs.Sum.{sum_over_0}
use Rattle.integers.proofs.Quadratic.{semidefinite_cong}
use Rattle.forms.specs.Form.{Form, place, times, entry}
use Rattle.forms.proofs.Form.{entry-[], entry-∷, entry-append, entry-times, entry_flat_map, absent, without_p, semidefinite_tail}
use Rattle.register.specs.declared.Register.{Register}
use Rattle.scheme.specs.declared.Scheme.{Scheme}
use Rattle.scheme.specs.Scheme.{variables}
use Rattle.certificate.specs.Certificate.{Multiplier, Certificate}
use Rattle.certificate.specs.Rules.{Rule, rules, rule_of}
use Rattle.residual.specs.Residual.{second_order, subtracted_part, subtracted_forms, reformulated, shifted}
use Rattle.bound.specs.Valid.{Carries}
use Rattle.residual.proofs.Rules.{rule_all}
use Rattle.residual.proofs.Semidefinite.{semidefinite}

-- ---- off row and column 0 the subtracted forms and the constant count for nothing

-- every monomial has place 0
abbrev Linear : Form → Type 0
Linear f = All (λ m. m.p ≡ 0) f

linear_0 : (f : Form) → Linear f → (i j : ℕ) → entry f (place i) (place j) ≡ pos 0
linear_0 [] h i j = entry-[] (place i) (place j)
linear_0 (m ∷ f) h i j =
    entry-∷ m f (place i) (place j)
    ∙ ap₂ (λ u x. m.c *ℤ u +ℤ x) (without_p m.p m.q (place i) (place j) (λ e. omega (arith, h.0)) (λ e. omega (arith, h.0))) (linear_0 f h.1 i j)
    ∙ rw (*ℤ-zero m.c)

multiple_0 : (m : ℤ) (f : Form) (i j : ℕ) → entry f i j ≡ pos 0 → entry (times m f) i j ≡ pos 0
multiple_0 m f i j e = entry-times m f i j ∙ ap (λ x. m *ℤ x) e ∙ *ℤ-zero m

abbrev SubtractedLinear : Rule → Type 0
SubtractedLinear ρ = T (not ρ.null) → Linear ρ.form

rules_linear : (r : Register) (s : Scheme) (i j k l : ℕ) → All (λ e. SubtractedLinear e.1) (rules r s i j k l)
rules_linear r s i j k l =
    (λ t. absurd t)
    ▹ (λ t. absurd t)
    ▹ (λ t. absurd t)
    ▹ (λ t. absurd t)
    ▹ (λ t. refl ▹ refl ▹ tt)
    ▹ (λ t. refl ▹ refl ▹ tt)
    ▹ (λ t. refl ▹ refl ▹ refl ▹ refl ▹ tt)
    ▹ (λ t. refl ▹ tt)
    ▹ (λ t. refl ▹ refl ▹ tt)
    ▹ (λ t. absurd t)
    ▹ tt

rule_linear : (r : Register) (s : Scheme) (t : Multiplier) → SubtractedLinear (rule_of r s t)
rule_linear r s = rule_all SubtractedLinear r s (λ t. absurd t) (rules_linear r s)

subtracted_0 : (r : Register) (s : Scheme) (i j : ℕ) (t : Multiplier) → entry (subtracted_part r s t) (place i) (place j) ≡ pos 0
unfolding subtracted_part
subtracted_0 r s i j t =
    cond_cases (λ f. entry f (place i) (place j) ≡ pos 0) (rule_of r s t).null [] (times t.m (rule_of r s t).form)
    (λ _. entry-[] (place i) (place j))
    (λ u. multiple_0 t.m (rule_of r s t).form (place i) (place j) (linear_0 _ (rule_linear r s t u) i j))

subtracted_forms_0 : (r : Register) (s : Scheme) (ts : List Multiplier) (i j : ℕ) → entry (subtracted_forms r s ts) (place i) (place j) ≡ pos 0
unfolding subtracted_forms
subtracted_forms_0 r s ts i j = entry_flat_map (subtracted_part r s) ts (place i) (place j) ∙ sum_over_0 ts _ (go ts)
  where
    go : (ts : List Multiplier) → All (λ t. entry (subtracted_part r s t) (place i) (place j) ≡ pos 0) ts
    go [] = tt
    go (t ∷ ts) = (subtracted_0 r s i j t, go ts)

-- ---- the theorems

module _ (c : ℕ → ℤ) (r : Register) (s : Scheme) (k : Certificate) where
  abbrev n : ℕ
  n = r.choices

  -- the second-order part of the reformulated function is B without row and column 0
  pub second_order_part : (i j : ℕ) → entry (reformulated c r s k) (place i) (place j) ≡ entry (shifted c r s k) (place i) (place j)
  unfolding shifted
  second_order_part i j = sym (
      entry-append (reformulated c r s k) _ (place i) (place j)
      ∙ ap (λ x. entry (reformulated c r s k) (place i) (place j) +ℤ x)
      (entry-append (times _ (subtracted_forms r s k.multipliers)) _ (place i) (place j)
      ∙ ap₂ ◌+ℤ◌
      (multiple_0 _ (subtracted_forms r s k.multipliers) (place i) (place j) (subtracted_forms_0 r s k.multipliers i j))
      (absent 0 0 (place i) (place j) (neg_ℤ k.target) (without_p 0 0 (place i) (place j) (λ e. omega arith) (λ e. omega arith))))
      ∙ +ℤ_idr (entry (reformulated c r s k) (place i) (place j))
      )

  module _ (carried : Carries c r s k) where
    -- where R carries T, the second-order part is never negative, whatever integers are put in
    pub second_order_lem : (x : ℕ → ℤ) → pos 0 ≤ℤ second_order c r s k x
    unfolding second_order
    second_order_lem = semidefinite_tail (variables n s) (entry (shifted c r s k)) (semidefinite c r s k carried)

    -- so is the reformulated function's own table without row and column 0
    pub second_order_reformulated : Semidefinite (variables n s) (λ i j. entry (reformulated c r s k) (place i) (place j))
    unfolding second_order
    second_order_reformulated = semidefinite_cong (variables n s) _ _ (λ i j _ _. sym (second_order_part i j)) second_order_lem
