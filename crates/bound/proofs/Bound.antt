-- What a valid certificate proves: the bound in the relaxation, and from it the bound on the cost of every plan that fits, which
-- without rows is every plan.
use Prim.Native.Nat.{ℕ, ◌≤◌}
use mathlib.Core.Path.{◌≡◌, ◌∙◌, sym, ap, ap₂, subst}
use mathlib.Core.List.{[], ◌∷◌}
use native.Mathlib.Omega.{arith}
use lib.IntN.{ℤ, pos, neg_ℤ, nat_abs, ◌+ℤ◌, ◌*ℤ◌, +ℤ_idr, *ℤ_comm}
use lib.Signed.{◌≤ℤ◌}
use Rattle.integers.specs.CeilDiv.{IsCeilDiv}
use Rattle.integers.specs.Sum.{sum_over}
use Rattle.integers.proofs.Diff.{diff₁, diff₃, diffs}
use Rattle.integers.proofs.Lists.{All-map}
use Rattle.integers.proofs.Solver.{quote, atoms, ring}
use Rattle.integers.proofs.Sum.{sum_over_0, sum_over_nonneg}
use Rattle.integers.proofs.CeilDiv.{ceil_div_is, nat_abs-ceil_div}
use Rattle.forms.specs.Form.{Form, places, value, times}
use Rattle.forms.proofs.Homogenized.{homogenized_value}
use Rattle.forms.proofs.Form.{Below, below-[], below_∷, below_append, below_flat_map, below_times, form_law, value-append, value_flat_map, value-times}
use Rattle.register.specs.declared.Register.{Register}
use Rattle.plan.specs.Plan.{cost}
use Rattle.plan.specs.Fits.{Fits}
use Rattle.plan.proofs.Fits.{every_fits}
use Rattle.scheme.specs.declared.Scheme.{Scheme}
use Rattle.scheme.specs.Scheme.{side}
use Rattle.scheme.specs.Filling.{factor, induced}
use Rattle.scheme.specs.Function.{g}
use Rattle.scheme.specs.Valid as S
use Rattle.scheme.proofs.Table.{g_below}
use Rattle.penalty.proofs.Penalty.{induced_cost}
use Rattle.certificate.specs.Certificate.{Certificate}
use Rattle.certificate.specs.Limits.{max_target}
use Rattle.certificate.specs.Rules.{minus1}
use Rattle.residual.specs.Residual.{null_part, null_forms, subtracted_forms, reformulated, shifted}
use Rattle.bound.specs.Bound.{bound}
use Rattle.residual.specs.Relaxed.{Relaxed}
use Rattle.bound.specs.Relaxation.{plan_point, AtPoints, AtPlan, BoundsRelaxed}
use Rattle.certificate.specs.Within.{Allowed, Within}
use Rattle.bound.specs.Valid.{Valid}
use Rattle.bound.proofs.Relaxation.{induced_relaxed}
use Rattle.residual.proofs.Semidefinite.{semidefinite}
use Rattle.residual.proofs.Rules.{null_below, subtracted_below, null_0, subtracted_nonneg}

-- the bound is the least whole number that is at least T/s
pub bound_is : (k : Certificate) → 1 ≤ k.scale → IsCeilDiv k.target k.scale (bound k)
unfolding bound
bound_is k positive = ceil_div_is k.scale positive k.target

-- it is no larger than the target
pub bound_small : (k : Certificate) → 1 ≤ k.scale → nat_abs k.target ≤ max_target → nat_abs (bound k) ≤ max_target
unfolding bound
bound_small k l h = omega (arith, nat_abs-ceil_div k.target k.scale l)

module _ (c : ℕ → ℤ) (r : Register) (s : Scheme) (k : Certificate) (scheme : S.Valid r s) where
  abbrev n : ℕ
  n = r.choices

  -- the forms subtracted
  abbrev subtracted : Form
  subtracted = subtracted_forms r s k.multipliers

  abbrev filling : ℕ → ℕ → ℤ
  filling plan = factor (induced n s plan)

  abbrev products : S.Products n s
  products = scheme.within.products

  value-B : (y : ℕ → ℤ) → value y (shifted c r s k)
      ≡ value y (reformulated c r s k) +ℤ (minus1 *ℤ value y subtracted +ℤ neg_ℤ (k.target *ℤ y 0 *ℤ y 0))
  unfolding shifted value sum_over
  value-B y =
      value-append y (reformulated c r s k) _
      ∙ ap (λ x. value y (reformulated c r s k) +ℤ x)
      (value-append y (times minus1 subtracted) _
      ∙ ap₂ ◌+ℤ◌ (value-times y minus1 subtracted) (constant k.target (y 0)))
    where
      constant : (t d : ℤ) → neg_ℤ t *ℤ d *ℤ d +ℤ pos 0 ≡ neg_ℤ (t *ℤ d *ℤ d)
      constant t d = atoms (t ∷ d ∷ []) λ ρ t d. simp (t, d, quote, ρ) (ring _ _ _ tt)

  -- ---- all multipliers

  module _ (within : Within r s k) where
    pub reformulated_below : Below (side n s) (reformulated c r s k)
    unfolding reformulated null_forms
    reformulated_below =
        below_append (below_times (pos k.scale) (g_below c r s scheme)) (below_flat_map (null_below r s products) k.multipliers within.multipliers)

    pub B_below : Below (side n s) (shifted c r s k)
    unfolding shifted subtracted_forms
    B_below =
        below_append reformulated_below
        (below_append (below_times minus1 (below_flat_map (subtracted_below r s products) k.multipliers within.multipliers)) (below_∷ (omega arith) (omega arith) below-[]))

    all_nonneg : (D : ℕ) (y : ℕ → ℤ) → Relaxed n s D y → pos 0 ≤ℤ value (places (pos D) y) subtracted
    unfolding subtracted_forms
    all_nonneg D y relaxed =
        rw value_flat_map
        (sum_over_nonneg k.multipliers _ (All-map (Allowed r s) _ (λ t ok. subtracted_nonneg r s products t ok D y relaxed) k.multipliers within.multipliers))

    -- ---- at the filling that a plan induces

    all_null : (plan : ℕ) → Fits r plan → value (filling plan) (null_forms r s k.multipliers) ≡ pos 0
    unfolding null_forms
    all_null plan fits =
        value_flat_map (filling plan) (null_part r s) k.multipliers
        ∙ sum_over_0 k.multipliers _ (All-map (Allowed r s) _ (λ t ok. null_0 r s products t ok plan fits) k.multipliers within.multipliers)

    reformulated_at : (plan : ℕ) → Fits r plan → value (filling plan) (reformulated c r s k) ≡ pos k.scale *ℤ value (filling plan) (g c r s)
    unfolding reformulated
    reformulated_at plan fits =
        value-append (filling plan) (times (pos k.scale) (g c r s)) _
        ∙ ap₂ ◌+ℤ◌ (value-times (filling plan) (pos k.scale) (g c r s)) (all_null plan fits)
        ∙ +ℤ_idr (pos k.scale *ℤ value (filling plan) (g c r s))

    at_plan : (plan : ℕ) → AtPlan c r s k plan
    at_plan plan =
        let y = plan_point r s plan in
        let g_is = homogenized_value (g c r s) 1 y in
        record {
          point = induced_relaxed n s plan products;
          cost_is = g_is ∙ induced_cost c r s scheme plan;
          function_is = λ fits. homogenized_value (reformulated c r s k) 1 y ∙ reformulated_at plan fits ∙ ap (λ x. pos k.scale *ℤ x) (sym g_is);
        }

  -- ---- the theorems

  module _ (valid : Valid c r s k) where
    -- B is at least 0 everywhere
    B_nonneg : (y : ℕ → ℤ) → pos 0 ≤ℤ value y (shifted c r s k)
    B_nonneg y = halved (value y (shifted c r s k)) (rw (form_law (B_below valid.within) y) at (semidefinite c r s k valid.carried y))
      where
        halved : (v : ℤ) → pos 0 ≤ℤ (pos 2 *ℤ v) → pos 0 ≤ℤ v
        halved = diff₁ _ λ p q. simp diffs (omega arith)

    -- in the relaxation the reformulated function is at least T·D²
    at_points : AtPoints c r s k
    at_points D y relaxed =
        subst (λ f. (k.target *ℤ pos D *ℤ pos D) ≤ℤ f) (sym (homogenized_value (reformulated c r s k) D y))
        (conclude _ _ _ (rw value-B at (B_nonneg (places (pos D) y))) (all_nonneg valid.within D y relaxed))
      where
        conclude : (f q t : ℤ) → pos 0 ≤ℤ (f +ℤ (minus1 *ℤ q +ℤ neg_ℤ t)) → pos 0 ≤ℤ q → t ≤ℤ f
        conclude = diff₃ _ λ p q r s t u. simp diffs (omega arith)

    pub bounds_relaxed : BoundsRelaxed c r s k (bound k)
    bounds_relaxed = record { at_points = at_points; at_plans = at_plan valid.within; rounded_up = bound_is k valid.within.scale_above }

-- ---- its corollary: no plan that fits costs less than the bound

module _ (c : ℕ → ℤ) (r : Register) (s : Scheme) (k : Certificate) where
  pub plan_bounded : (b : ℤ) → BoundsRelaxed c r s k b → (plan : ℕ) → Fits r plan → b ≤ℤ cost c r plan
  plan_bounded b h plan fits =
      let p = h.at_plans plan in
      let at_cost = p.function_is fits ∙ ap (λ x. pos k.scale *ℤ x) p.cost_is ∙ *ℤ_comm (pos k.scale) (cost c r plan) in
      h.rounded_up.least (cost c r plan) (rw (unit k.target, at_cost) at (h.at_points 1 _ p.point))
    where
      unit : (t : ℤ) → t *ℤ pos 1 *ℤ pos 1 ≡ t
      unit t = atoms (t ∷ []) λ ρ t. simp (t, quote, ρ) (ring _ _ _ tt)

  module _ (scheme : S.Valid r s) (valid : Valid c r s k) where
    pub plan_bound : (plan : ℕ) → Fits r plan → bound k ≤ℤ cost c r plan
    plan_bound = plan_bounded (bound k) (bounds_relaxed c r s k scheme valid)

    -- and without rows every plan
    pub every_plan_bound : r.rows ≡ 0 → (plan : ℕ) → bound k ≤ℤ cost c r plan
    every_plan_bound none plan = plan_bound plan (every_fits r none plan)
