-- The least value of h over the fillings is the least cost over the plans; also over the plans with any property.
use mathlib.Core.Path.{◌≡◌, refl, sym, ◌∙◌, subst}
use mathlib.Core.List.{List}
use mathlib.Core.Logic.{◌⊎◌, inl, inr, ◌↔◌}
use Prim.Native.Nat.{ℕ, zero, suc, ◌^◌, ◌≤◌, ◌<◌}
use native.Mathlib.Nat.{le_refl}
use native.Mathlib.Omega.{arith}
use native.Mathlib.Decide.{ℕ_discrete}
use lib.IntN.{ℤ, pos, ◌*ℤ◌}
use lib.Pow.{pow_pos}
use lib.Signed.{◌≤ℤ◌, ◌<ℤ◌, ≤ℤ_refl}
use Rattle.integers.proofs.Order.{≤ℤ_trans, ≤ℤ_antisym, ≤ℤ_or_>, <ℤ→≤ℤ, ≡→≤ℤ}
use Rattle.forms.specs.Form.{value, entry}
use Rattle.forms.specs.Table.{with_table, table_sum, table_value}
use Rattle.forms.proofs.Table.{table_sum_form, table_value_form}
use Rattle.register.specs.declared.Register.{Register}
use Rattle.plan.specs.Plan.{Plan, cost}
use Rattle.scheme.specs.declared.Scheme.{Scheme}
use Rattle.scheme.specs.Scheme.{side}
use Rattle.scheme.specs.Filling.{Filling, factor, induced}
use Rattle.scheme.specs.Valid.{Valid}
use Rattle.penalty.specs.Penalty.{h}
use Rattle.penalty.specs.Carried.{carried}
use Rattle.penalty.specs.Least.{LeastFilling, LeastPlan, SameLeastWhere, SameLeast}
use Rattle.penalty.proofs.Sets.{carried_below, carried_induced}
use Rattle.penalty.proofs.Penalty.{below_h, penalty, induced_value}

-- ---- the least value at the numbers below n that P holds of, from one of them on: at first no other has been looked at

record LeastTo (P : ℕ → Type 0) (f : ℕ → ℤ) (n m : ℕ) : Type 0 where
  at : ℕ
  inside : at < n
  holds : P at
  lowest : (i : ℕ) → i < m → P i → f at ≤ℤ f i

module _ (P : ℕ → Type 0) (P? : (i : ℕ) → Dec (P i)) (f : ℕ → ℤ) (n p : ℕ) (there : p < n) (holds : P p) where
  least_to : (m : ℕ) → m ≤ n → LeastTo P f n m
  least_to zero l = record { at = p; inside = there; holds = holds; lowest = λ i j. absurd (omega arith) }
  least_to (suc m) l = go (least_to m (omega arith)) (P? m)
    where
      to : (x : ℕ) → x < n → P x → (P m → f x ≤ℤ f m) → ((i : ℕ) → i < m → P i → f x ≤ℤ f i) → LeastTo P f n (suc m)
      to x k h a b = record { at = x; inside = k; holds = h; lowest = λ i j. pick i j (ℕ_discrete i m) }
        where
          pick : (i : ℕ) → i < suc m → Dec (i ≡ m) → P i → f x ≤ℤ f i
          pick i j (yes e) = rw e a
          pick i j (no d) = b i (omega arith)

      go : LeastTo P f n m → Dec (P m) → LeastTo P f n (suc m)
      go b (no d) = to b.at b.inside b.holds (λ k. absurd (d k)) b.lowest
      go b (yes h) = choose (≤ℤ_or_> (f b.at) (f m))
        where
          choose : (f b.at ≤ℤ f m) ⊎ (f m <ℤ f b.at) → LeastTo P f n (suc m)
          choose (inl x) = to b.at b.inside b.holds (λ k. x) b.lowest
          choose (inr x) = to m (omega arith) h (λ k. ≤ℤ_refl _) (λ i j k. ≤ℤ_trans _ _ _ (<ℤ→≤ℤ _ _ x) (b.lowest i j k))

-- ---- fillings and plans, where f is at least the cost of the plan carried, and at a plan's own filling its cost

module _ (P : ℕ → Type 0) (c : ℕ → ℤ) (r : Register) (s : Scheme) (f : Filling → ℤ)
    (above : (z : Filling) → cost c r (carried r.choices z) ≤ℤ f z)
    (at_plans : (plan : ℕ) → f (induced r.choices s plan) ≡ cost c r plan) where
  abbrev n : ℕ
  n = r.choices

  abbrev plan_of : Filling → Plan n
  plan_of z = record { fed = carried n z; inside = carried_below n z }

  own_filling : (p : Plan n) → P p.fed → P (carried n (induced n s p.fed))
  own_filling p h = subst P (sym (carried_induced n s p.fed p.inside)) h

  -- a filling at the least cost carries a plan that has it
  pub least_carried : (m : ℤ) → LeastPlan P c r m → (z : Filling) → P (carried n z) → f z ≡ m → cost c r (carried n z) ≡ m
  least_carried m b z h e = ≤ℤ_antisym _ _ (≤ℤ_trans _ _ _ (above z) (≡→≤ℤ _ _ e)) (b.lowest (plan_of z) h)

  -- where no plan has P there is no least value
  pub none_least : ((p : Plan n) → P p.fed → ⊥) → (m : ℤ) → (LeastFilling P r f m → ⊥) × (LeastPlan P c r m → ⊥)
  none_least none m = ((λ b. none (plan_of b.witness) b.holds), (λ b. none b.witness b.holds))

  -- a number is the one least value just where it is the other
  pub least_iff : (m : ℤ) → LeastFilling P r f m ↔ LeastPlan P c r m
  least_iff m = (
    (λ b.
        let below : (p : Plan n) → P p.fed → m ≤ℤ cost c r p.fed = λ p h. ≤ℤ_trans _ _ _ (b.lowest _ (own_filling p h)) (≡→≤ℤ _ _ (at_plans p.fed)) in
        let p = plan_of b.witness in
        record { witness = p; holds = b.holds; reached = ≤ℤ_antisym _ _ (≤ℤ_trans _ _ _ (above _) (≡→≤ℤ _ _ b.reached)) (below p b.holds); lowest = below }),
    (λ b. record {
      witness = induced n s b.witness.fed;
      holds = own_filling b.witness b.holds;
      reached = at_plans _ ∙ b.reached;
      lowest = λ z h. ≤ℤ_trans _ _ _ (b.lowest (plan_of z) h) (above z);
    }),
  )

  -- where P is decided and a plan has it, there is one
  pub same_least_where : ((p : ℕ) → Dec (P p)) → (p : Plan n) → P p.fed → SameLeastWhere P c r f
  same_least_where P? p h =
      let b = least_to P P? (cost c r) (2 ^ n) p.fed p.inside h (2 ^ n) (le_refl _) in
      let plans : LeastPlan P c r (cost c r b.at) = record { witness = record { fed = b.at; inside = b.inside }; holds = b.holds; reached = refl; lowest = λ q. b.lowest q.fed q.inside } in
      record { least = cost c r b.at; over_fillings = (least_iff _).1 plans; over_plans = plans; minimisers = least_carried _ plans }

-- ---- the penalty form

module _ (c : ℕ → ℤ) (r : Register) (s : Scheme) (valid : Valid r s) where
  -- of any f that is the value of h
  module _ (f : Filling → ℤ) (is_h : (z : Filling) → f z ≡ value (factor z) (h c r s)) where
    above : (z : Filling) → cost c r (carried r.choices z) ≤ℤ f z
    above z = rw (is_h z) (penalty c r s valid z)

    at_plans : (plan : ℕ) → f (induced r.choices s plan) ≡ cost c r plan
    at_plans plan = is_h _ ∙ induced_value c r s valid plan

    -- over the plans with P
    pub penalty_iff : (P : ℕ → Type 0) (m : ℤ) → LeastFilling P r f m ↔ LeastPlan P c r m
    penalty_iff P = least_iff P c r s f above at_plans

    pub penalty_least : (P : ℕ → Type 0) → ((p : ℕ) → Dec (P p)) → (p : Plan r.choices) → P p.fed → SameLeastWhere P c r f
    penalty_least P = same_least_where P c r s f above at_plans

    -- over all
    pub same_least : SameLeast c r f
    same_least = penalty_least _ (λ p. yes tt) (record { fed = 0; inside = pow_pos r.choices }) tt

  -- of the form
  pub form_least_where : (P : ℕ → Type 0) → ((p : ℕ) → Dec (P p)) → (p : Plan r.choices) → P p.fed → SameLeastWhere P c r (λ z. value (factor z) (h c r s))
  form_least_where = penalty_least _ (λ z. refl)

  pub form_least : SameLeast c r (λ z. value (factor z) (h c r s))
  form_least = same_least _ (λ z. refl)

  -- of the table of h at the front of any lent run: the sum is exactly twice the value, and the value read has the same least
  module _ (lent : List ℤ) where
    pub table_twice : (z : Filling) → table_sum (side r.choices s) (with_table (side r.choices s) (entry (h c r s)) lent) (factor z) ≡ pos 2 *ℤ value (factor z) (h c r s)
    table_twice z = table_sum_form (below_h c r s valid) lent (factor z)

    pub table_least_where : (P : ℕ → Type 0) → ((p : ℕ) → Dec (P p)) → (p : Plan r.choices) → P p.fed →
        SameLeastWhere P c r (λ z. table_value (side r.choices s) (with_table (side r.choices s) (entry (h c r s)) lent) (factor z))
    table_least_where = penalty_least _ (λ z. table_value_form (below_h c r s valid) lent (factor z))

    pub table_least : SameLeast c r (λ z. table_value (side r.choices s) (with_table (side r.choices s) (entry (h c r s)) lent) (factor z))
    table_least = same_least _ (λ z. table_value_form (below_h c r s valid) lent (factor z))
