-- The rules of the multiplier commands are sound: null forms are 0 at the filling that a plan that fits induces (but for a row's, of
-- every plan: `soundness/proofs/NullEveryPlan`), and the forms subtracted are at least 0 at every point of the relaxation, as their
-- multipliers are. Each names places of the table only.
use Prim.Native.Nat.{ℕ, ◌≤◌, ◌<◌}
use mathlib.Core.Path.{◌≡◌, sym, ◌∙◌, ap}
use mathlib.Core.List.{List, [], ◌∷◌}
use mathlib.Core.Bool.{Bool, ◌&&◌, not}
use native.Mathlib.Omega.{arith}
use lib.IntN.{ℤ, pos, ◌*ℤ◌, *ℤ-zero}
use lib.Signed.{◌≤ℤ◌, ≤ℤ_refl}
use lib.Bits.{or_self}
use lib.Dec.{T, eqb, leb, ltb, eqb→eq, ltb→lt, leb→le}
use Rattle.integers.specs.Integer.{bit}
use Rattle.integers.specs.Lists.{All}
use Rattle.integers.proofs.Lists.{T_and, cond_cases, ◌▹◌}
use Rattle.integers.proofs.Order.{≤ℤ_trans, *ℤ_nonneg, pos_nonneg}
use Rattle.integers.proofs.Ring.{one_*ℤ}
use Rattle.sets.specs.Sets.{is_subset}
use Rattle.sets.proofs.Sets.{proper_union}
use Rattle.forms.specs.Form.{Form, place, places, value, times}
use Rattle.forms.proofs.Form.{Below, below-[], below_times, value-[], value-times}
use Rattle.register.specs.Register.{row_total, row_entry}
use Rattle.register.specs.declared.Register.{Register}
use Rattle.plan.specs.Fits.{Fits}
use Rattle.scheme.specs.declared.Scheme.{Scheme}
use Rattle.scheme.specs.Scheme.{left, right, variables, side}
use Rattle.scheme.specs.Filling.{factor, induced}
use Rattle.scheme.specs.Valid.{Products}
use Rattle.scheme.proofs.Filling.{one_variable, two_variables}
use Rattle.certificate.specs.Certificate.{Multiplier}
use Rattle.certificate.specs.RowForm.{row_form_of}
use Rattle.certificate.specs.Rules.{Rule, null_rule, row_rule, subtracted_rule, no_rule, rules, rule_of, by_key}
use Rattle.certificate.proofs.RowForm.{below_row, row_induced_0}
use Rattle.residual.specs.Residual.{null_part, subtracted_part}
use Rattle.residual.specs.Relaxed.{Relaxed}
use Rattle.certificate.specs.Within.{Allowed}
use Rattle.certificate.proofs.Passes.{RulePasses}
use Rattle.certificate.proofs.Conditions.{tested}
use Rattle.residual.proofs.Forms.{null_difference, nonneg_difference, nonneg_single, nonneg_together}

-- what is proved of each rule
pub record Sound (r : Register) (s : Scheme) (ρ : Rule) : Type 0 where
  pub below : T ρ.there → Below (side r.choices s) ρ.form
  pub null : T ρ.null → T ρ.there → T ρ.fits → (plan : ℕ) → Fits r plan → value (factor (induced r.choices s plan)) ρ.form ≡ pos 0
  pub above : T (not ρ.null) → pos 0 ≤ℤ ρ.least
  pub nonneg : T (not ρ.null) → T ρ.there → (D : ℕ) (y : ℕ → ℤ) → Relaxed r.choices s D y → pos 0 ≤ℤ value (places (pos D) y) ρ.form

-- what holds of each row holds of what is looked up
by_key_all {ℓ} : {A : Type ℓ} (P : A → Type 0) (none : A) (k : ℕ) (es : List (ℕ × A)) → P none → All (λ e. P e.1) es → P (by_key none k es)
unfolding by_key
by_key_all P none k [] h hs = h
by_key_all P none k (e ∷ es) h hs = cond_cases P (eqb k e.0) e.1 (by_key none k es) (λ _. hs.0) (λ _. by_key_all P none k es h hs.1)

pub rule_all : (Q : Rule → Type 0) (r : Register) (s : Scheme) → Q no_rule → ((i j k l : ℕ) → All (λ e. Q e.1) (rules r s i j k l)) → (t : Multiplier) → Q (rule_of r s t)
unfolding rule_of
rule_all Q r s none rows t = by_key_all Q no_rule t.kind _ none (rows _ _ _ _)

-- a product that is there, and its operands
pub record IsProduct (n : ℕ) (s : Scheme) (i : ℕ) : Type 0 where
  pub after : n ≤ i
  pub there : i < variables n s
  pub left_below : left n s i < i
  pub right_below : right n s i < i

pub is_product : (n : ℕ) (s : Scheme) → Products n s → (i : ℕ) → T (leb n i && ltb i (variables n s)) → IsProduct n s i
is_product n s products i h =
    let (l, u) = (T_and (leb n i) (ltb i (variables n s))).0 h in
    let p = products i (leb→le _ _ l) (ltb→lt _ _ u) in
    record {
      after = leb→le _ _ l;
      there = ltb→lt _ _ u;
      left_below = omega (arith, p.ordered, p.falls);
      right_below = p.falls;
    }

module _ (r : Register) (s : Scheme) where
  abbrev n : ℕ
  n = r.choices

  module _ (products : Products n s) where
    null_rule_lem : {there ordered fits : Bool} {form : Form} → (T there → Below (side n s) form) → (T fits → (plan : ℕ) → value (factor (induced n s plan)) form ≡ pos 0) →
        Sound r s (null_rule there ordered fits form)
    null_rule_lem b v = record { below = b; null = λ _ _ f plan _. v f plan; above = λ t. absurd t; nonneg = λ t. absurd t }

    -- of a row: its form is 0 where the plan fits the row
    row_rule_lem : (k i : ℕ) → Sound r s (row_rule (ltb k r.rows && ltb i (variables n s)) (row_form_of r k i))
    row_rule_lem k i = record {
      below = λ h. let (_, l) = both h in below_row n (row_entry r k) (row_total r k) i (omega arith) (omega (arith, ltb→lt i (variables n s) l));
      null = λ _ h _ plan f.
          let (l, _) = both h in
          let y = factor (induced n s plan) in
          once (value y (row_form_of r k i)) (sym (value-times y (pos 1) (row_form_of r k i)) ∙ row_induced_0 n (row_entry r k) (row_total r k) i s plan (pos 1) (f k (ltb→lt k r.rows l)));
      above = λ t. absurd t;
      nonneg = λ t. absurd t;
    }
      where
        both : T (ltb k r.rows && ltb i (variables n s)) → T (ltb k r.rows) × T (ltb i (variables n s))
        both = (T_and (ltb k r.rows) (ltb i (variables n s))).0

        once : (x : ℤ) → pos 1 *ℤ x ≡ pos 0 → x ≡ pos 0
        once x e = sym (one_*ℤ x) ∙ e

    subtracted_rule_lem : {there : Bool} {form : Form} → (T there → Below (side n s) form) → (T there → (D : ℕ) (y : ℕ → ℤ) → Relaxed n s D y → pos 0 ≤ℤ value (places (pos D) y) form) →
        Sound r s (subtracted_rule there form)
    subtracted_rule_lem b v = record { below = b; null = λ t. absurd t; above = λ _. ≤ℤ_refl (pos 0); nonneg = λ _. v }

    -- 1 where the plan feeds all of a set, else 0
    abbrev fed : ℕ → ℕ → ℤ
    fed plan e = bit (is_subset e plan)

    rules_sound : (i j k l : ℕ) → All (λ e. Sound r s e.1) (rules r s i j k l)
    rules_sound i j k l =
        null_rule_lem (λ h. omega (arith, ltb→lt))
        (λ _ plan. null_difference _ (place i) (place i) 0 (place i) (two_variables n s plan i i ∙ ap (fed plan) (or_self _) ∙ sym (one_variable n s plan i)))
        ▹ null_rule_lem (λ h. omega (arith, ltb→lt, simp T_and at h))
        (λ f plan. null_difference _ 0 (place i) (place i) (place j) (one_variable n s plan i ∙ ap (fed plan) (sym (proper_union _ _ f)) ∙ sym (two_variables n s plan i j)))
        ▹ null_rule_lem (λ h. omega (arith, ltb→lt, simp T_and at h))
        (λ f plan. null_difference _ 0 (place i) (place j) (place k) (one_variable n s plan i ∙ ap (fed plan) (eqb→eq _ _ f) ∙ sym (two_variables n s plan j k)))
        ▹ null_rule_lem (λ h. omega (arith, ltb→lt, simp T_and at h))
        (λ f plan. null_difference _ (place i) (place j) (place k) (place l) (two_variables n s plan i j ∙ ap (fed plan) (eqb→eq _ _ f) ∙ sym (two_variables n s plan k l)))
        ▹ subtracted_rule_lem (λ h. let p = is_product n s products i h in omega arith)
        (λ h D y relaxed. let p = is_product n s products i h in nonneg_difference _ (place (left n s i)) (place i) (pos_nonneg D) (relaxed.below_left i p.after p.there))
        ▹ subtracted_rule_lem (λ h. let p = is_product n s products i h in omega arith)
        (λ h D y relaxed. let p = is_product n s products i h in nonneg_difference _ (place (right n s i)) (place i) (pos_nonneg D) (relaxed.below_right i p.after p.there))
        ▹ subtracted_rule_lem (λ h. let p = is_product n s products i h in omega arith)
        (λ h D y relaxed. let p = is_product n s products i h in nonneg_together _ (place i) (place (left n s i)) (place (right n s i)) (pos_nonneg D) (relaxed.above i p.after p.there))
        ▹ subtracted_rule_lem (λ h. omega (arith, ltb→lt))
        (λ h D y relaxed. nonneg_single _ (place i) (pos_nonneg D) (relaxed.low i (ltb→lt _ _ h)))
        ▹ subtracted_rule_lem (λ h. omega (arith, ltb→lt))
        (λ h D y relaxed. nonneg_difference _ 0 (place i) (pos_nonneg D) (relaxed.high i (ltb→lt _ _ h)))
        ▹ row_rule_lem i j
        ▹ tt

    pub rule_sound : (t : Multiplier) → Sound r s (rule_of r s t)
    rule_sound = rule_all (Sound r s) r s (null_rule_lem (λ _. below-[]) (λ f. absurd f)) rules_sound

    -- ---- what a multiplier adds and subtracts

    module _ (t : Multiplier) (ok : Allowed r s t) where
      abbrev rule : Rule
      rule = rule_of r s t

      sound : Sound r s rule
      sound = rule_sound t

      passes : RulePasses rule t.m
      passes = (tested r s t ok).rule

      form_below : Below (side n s) (times t.m rule.form)
      form_below = below_times t.m (sound.below passes.there)

      pub null_below : Below (side n s) (null_part r s t)
      unfolding null_part
      null_below = cond_cases (Below (side n s)) rule.null _ [] (λ _. form_below) (λ _. below-[])

      pub subtracted_below : Below (side n s) (subtracted_part r s t)
      unfolding subtracted_part
      subtracted_below = cond_cases (Below (side n s)) rule.null [] _ (λ _. below-[]) (λ _. form_below)

      -- a null form vanishes at the filling that a plan that fits induces
      pub null_0 : (plan : ℕ) → Fits r plan → value (factor (induced n s plan)) (null_part r s t) ≡ pos 0
      unfolding null_part
      null_0 plan h =
          cond_cases (λ f. value (factor (induced n s plan)) f ≡ pos 0) rule.null (times t.m rule.form) []
          (λ u. value-times (factor (induced n s plan)) t.m rule.form ∙ ap (λ x. t.m *ℤ x) (sound.null u passes.there passes.fits plan h) ∙ *ℤ-zero t.m)
          (λ _. value-[] (factor (induced n s plan)))

      -- a subtracted form is never negative on the relaxation
      pub subtracted_nonneg : (D : ℕ) (y : ℕ → ℤ) → Relaxed n s D y → pos 0 ≤ℤ value (places (pos D) y) (subtracted_part r s t)
      unfolding subtracted_part
      subtracted_nonneg D y relaxed =
          cond_cases (λ f. pos 0 ≤ℤ value (places (pos D) y) f) rule.null [] (times t.m rule.form)
          (λ _. rw value-[] (≤ℤ_refl (pos 0)))
          (λ u. rw value-times (*ℤ_nonneg t.m _ (≤ℤ_trans _ _ _ (sound.above u) passes.m_above) (sound.nonneg u passes.there D y relaxed)))
