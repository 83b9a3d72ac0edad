-- The penalty lemma: at every filling h is at least the cost of the plan carried, and at the filling that a plan induces
-- it is that plan's cost.
use mathlib.Core.Path.{◌≡◌, refl, sym, ◌∙◌, ap, ap₂}
use mathlib.Core.Logic.{◌⊎◌, inl, inr}
use mathlib.Core.Bool.{Bool, true, false, cond, ◌&&◌}
use Prim.Native.Nat.{ℕ, zero, suc, ◌+◌, ◌-◌, ◌≤◌, ◌<◌}
use native.Mathlib.Nat.{le_refl}
use native.Mathlib.Omega.{arith}
use lib.IntN.{ℤ, pos, ◌+ℤ◌, ◌*ℤ◌, *ℤ-zero, +ℤ_assoc, +ℤ_idr}
use lib.Signed.{◌≤ℤ◌, ≤ℤ_refl}
use Rattle.integers.specs.Integer.{abs}
use Rattle.integers.specs.Lists.{join_below}
use Rattle.integers.specs.Sum.{sum_below, sum_over}
use Rattle.integers.proofs.Diff.{diff₁, diff₂, diffs}
use Rattle.integers.proofs.Order.{≤ℤ_trans, ≤ℤ-+ʳ, +ℤ_mono, *ℤ_monoˡ, *ℤ_nonneg, abs_nonneg, pos_nonneg, pos_mono}
use Rattle.integers.proofs.Ring.{*ℤ_assoc}
use Rattle.integers.proofs.Sum.{sum_below_cong, sum_below_mono, sum_below_0, sum_below-+, sum_below-*ˡ, sum_below-*ʳ, sum_below_swap, sum_below_nonneg, sum_below_member}
use Rattle.sets.specs.Sets.{is_subset}
use Rattle.sets.proofs.Sets.{subset_or}
use Rattle.forms.specs.Form.{value}
use Rattle.forms.proofs.Form.{Below, below-[], below_∷, below_append, below_join, below_times, value-append, value-times, value_join}
use Rattle.register.specs.declared.Register.{Register}
use Rattle.register.specs.Register.{mask}
use Rattle.plan.specs.Plan.{cost}
use Rattle.scheme.specs.declared.Scheme.{Scheme}
use Rattle.scheme.specs.Scheme.{left, right, side, split_left, split_right}
use Rattle.scheme.specs.Filling.{Filling, factor, induced}
use Rattle.scheme.specs.Function.{g}
use Rattle.scheme.specs.Valid.{Valid, SplitOf}
use Rattle.scheme.proofs.Function.{value-g}
use Rattle.scheme.proofs.Filling.{induced_consistent}
use Rattle.penalty.specs.Weights.{uses, usage, weight}
use Rattle.penalty.specs.Penalty.{bracket, bracket_of, penalty_of, h}
use Rattle.penalty.specs.Carried.{carried}
use Rattle.scheme.proofs.Table.{split_of, g_below}
use Rattle.penalty.proofs.Weights.{contribution-*, usage_nonneg}
use Rattle.penalty.proofs.Sets.{Broken, both, monomial_or}

-- g at the filling that a plan induces is the plan's cost
pub induced_cost : (c : ℕ → ℤ) (r : Register) (s : Scheme) → Valid r s → (plan : ℕ) → value (factor (induced r.choices s plan)) (g c r s) ≡ cost c r plan
unfolding cost
induced_cost c r s valid plan =
    value-g (induced r.choices s plan) c r s
    ∙ ap (λ x. r.base +ℤ x)
    (sum_below_cong r.terms _ _ (λ t h. ap (λ b. cond b (c t) (pos 0)) (sym (subset_or _ _ plan) ∙ ap (λ e. is_subset e plan) (valid.within.splits t (rw valid.all_split h)).fits)))

-- ---- h and its brackets

-- what product n + i pays: its usage times its bracket
abbrev pub pays : (ℕ → ℤ) → (ℕ → ℤ) → Register → Scheme → ℕ → ℤ
pays y c r s i = let k = r.choices + i in usage c r s k *ℤ value y (bracket_of r.choices s k)

-- what all products pay
unfoldable pub paid : (ℕ → ℤ) → (ℕ → ℤ) → Register → Scheme → ℤ
paid y c r s = sum_below s.products (pays y c r s)

-- h anywhere: g + the scheme's factor times what the products pay
pub value-h : (y : ℕ → ℤ) (c : ℕ → ℤ) (r : Register) (s : Scheme) → value y (h c r s) ≡ value y (g c r s) +ℤ pos s.factor *ℤ paid y c r s
unfolding h weight paid
value-h y c r s =
    value-append y (g c r s) _
    ∙ ap (λ x. value y (g c r s) +ℤ x)
    (value_join y s.products _
    ∙ sum_below_cong s.products _ _
    (λ i l. value-times y (pos s.factor *ℤ usage c r s (r.choices + i)) (bracket_of r.choices s (r.choices + i))
    ∙ *ℤ_assoc (pos s.factor) (usage c r s (r.choices + i)) (value y (bracket_of r.choices s (r.choices + i))))
    ∙ sum_below-*ˡ s.products (pos s.factor) _)

-- once, and then for each step of the factor above 1
pub steps : (f : ℕ) → 1 ≤ f → (a b : ℤ) → a +ℤ pos f *ℤ b ≡ a +ℤ b +ℤ pos (f - 1) *ℤ b
steps zero l = absurd (omega arith)
steps (suc f) l = let e : suc f - 1 ≡ f = omega arith in rw e one_more
  where
    one_more : (a b : ℤ) → a +ℤ pos (suc f) *ℤ b ≡ a +ℤ b +ℤ pos f *ℤ b
    one_more = diff₂ _ λ p q t u. simp diffs (omega arith)

-- the bracket at 0-1 values z_k, z_l, z_r
abbrev pub due : Bool → Bool → Bool → ℕ
due false false r = 0
due false true false = 0
due false true true = 1
due true false false = 3
due true false true = 1
due true true false = 1
due true true true = 0

-- the paper's table of brackets, for all k, l, r
pub value-bracket : (z : Filling) (k l r : ℕ) → value (factor z) (bracket k l r) ≡ pos (due (z k) (z l) (z r))
unfolding value sum_over bracket
value-bracket z k l r = go (z k) (z l) (z r)
  where
    go : (k l r : Bool) → value (factor (λ v. elim v [ zero ↦ k | suc w ↦ elim w [ zero ↦ l | suc x ↦ r ] ])) (bracket 0 1 2) ≡ pos (due k l r)
    go false false false = refl
    go false false true = refl
    go false true false = refl
    go false true true = refl
    go true false false = refl
    go true false true = refl
    go true true false = refl
    go true true true = refl

-- it is 0 where z_k = z_l z_r, and at least 1 elsewhere
pub due_none : (k l r : Bool) → k ≡ (l && r) → due k l r ≡ 0
due_none k l r e = rw e (go l r)
  where
    go : (l r : Bool) → due (l && r) l r ≡ 0
    go false r = refl
    go true false = refl
    go true true = refl

pub due_some : (k l r : Bool) → (k ≡ (l && r) → ⊥) → 1 ≤ due k l r
due_some false false r n = absurd (n refl)
due_some false true false n = absurd (n refl)
due_some false true true n = omega arith
due_some true false false n = omega arith
due_some true false true n = omega arith
due_some true true false n = omega arith
due_some true true true n = absurd (n refl)

-- ---- all places of h are below the side

pub below_bracket : {n : ℕ} (k l r : ℕ) → k < n → l < n → r < n → Below (suc n) (bracket k l r)
unfolding bracket
below_bracket k l r a b c =
    below_∷ (omega arith) (omega arith)
    (below_∷ (omega arith) (omega arith) (below_∷ (omega arith) (omega arith) (below_∷ (omega arith) (omega arith) below-[])))

module _ (c : ℕ → ℤ) (r : Register) (s : Scheme) (valid : Valid r s) where
  -- the first penalties
  pub below_penalties : (n : ℕ) → n ≤ s.products → Below (side r.choices s) (join_below n (penalty_of c r s))
  below_penalties n h = below_join n (λ i l. below_times (weight c r s (r.choices + i)) (brackets i (omega arith)))
    where
      brackets : (i : ℕ) → i < s.products → Below (side r.choices s) (bracket_of r.choices s (r.choices + i))
      brackets i l =
          let k = r.choices + i in
          let p = valid.within.products k (omega arith) (omega arith) in
          below_bracket k (left r.choices s k) (right r.choices s k) (omega arith) (omega (arith, p.ordered, p.falls)) (omega (arith, p.falls))

  pub below_h : Below (side r.choices s) (h c r s)
  unfolding h
  below_h = below_append (g_below c r s valid) (below_penalties s.products (le_refl _))

-- ---- what a term owes: the brackets of the products that it uses

module _ (n : ℕ) (s : Scheme) (z : Filling) where
  -- the bracket of product k at z
  bracket_at : ℕ → ℤ
  bracket_at k = pos (due (z k) (z (left n s k)) (z (right n s k)))

  debt : ℕ → ℕ → ℤ
  debt t i = cond (uses n s (n + i) t) (bracket_at (n + i)) (pos 0)

  debts : ℕ → ℤ
  debts t = sum_below s.products (debt t)

  debt_nonneg : (t i : ℕ) → pos 0 ≤ℤ debt t i
  unfolding debt bracket_at
  debt_nonneg t i = go (uses n s (n + i) t)
    where
      go : (b : Bool) → pos 0 ≤ℤ cond b (bracket_at (n + i)) (pos 0)
      go true = pos_nonneg _
      go false = ≤ℤ_refl (pos 0)

  debts_nonneg : (t : ℕ) → pos 0 ≤ℤ debts t
  unfolding debts
  debts_nonneg t = sum_below_nonneg s.products _ (λ i l. debt_nonneg t i)

  debts_some : (t : ℕ) → Broken n s z (λ k. uses n s k t) → pos 1 ≤ℤ debts t
  unfolding debts debt bracket_at
  debts_some t b =
      ≤ℤ_trans _ _ _
      (rw (same, b.passes) (pos_mono 1 _ (due_some _ _ _ b.broken)))
      (sum_below_member s.products (b.k - n) (debt t) (λ i l. debt_nonneg t i) (omega (arith, b.product, b.there)))
    where
      same : n + (b.k - n) ≡ b.k
      same = omega (arith, b.product)

-- ---- what a product pays is not negative

module _ (c : ℕ → ℤ) (r : Register) (s : Scheme) (z : Filling) where
  pub pays_nonneg : (i : ℕ) → pos 0 ≤ℤ pays (factor z) c r s i
  pays_nonneg i =
      rw (value-bracket z (r.choices + i) (left r.choices s (r.choices + i)) (right r.choices s (r.choices + i)))
      (*ℤ_nonneg _ _ (usage_nonneg c r s (r.choices + i)) (pos_nonneg _))

  paid_nonneg : pos 0 ≤ℤ paid (factor z) c r s
  unfolding paid
  paid_nonneg = sum_below_nonneg s.products _ (λ i l. pays_nonneg i)

-- ---- the sums exchanged: each term pays |coefficient| for each bracket that it owes

-- a term's worth at z
abbrev worth : Scheme → Filling → ℕ → ℤ → ℤ
worth s z t c = cond (z (split_left s t) && z (split_right s t)) c (pos 0)

module _ (c : ℕ → ℤ) (r : Register) (s : Scheme) (z : Filling) where
  abbrev n : ℕ
  n = r.choices

  paid_by_terms : paid (factor z) c r s ≡ sum_below r.terms (λ t. abs (c t) *ℤ debts n s z t)
  unfolding paid usage debts debt bracket_at
  paid_by_terms =
      sum_below_cong s.products _ _
      (λ i l. ap (λ x. usage c r s (n + i) *ℤ x) (value-bracket z _ _ _)
      ∙ sym (sum_below-*ʳ r.terms (bracket_at n s z (n + i)) _)
      ∙ sum_below_cong r.terms _ _ (λ t m. contribution-* c n s (n + i) t (bracket_at n s z (n + i))))
      ∙ sum_below_swap s.products r.terms (λ i t. abs (c t) *ℤ debt n s z t i)
      ∙ sum_below_cong r.terms _ _ (λ t m. sum_below-*ˡ s.products (abs (c t)) _)

  by_terms : value (factor z) (g c r s) +ℤ paid (factor z) c r s ≡ r.base +ℤ sum_below r.terms (λ t. worth s z t (c t) +ℤ abs (c t) *ℤ debts n s z t)
  by_terms =
      ap₂ ◌+ℤ◌ (value-g z c r s) paid_by_terms
      ∙ +ℤ_assoc r.base _ _
      ∙ ap (λ x. r.base +ℤ x) (sym (sum_below-+ r.terms _ _))

-- a term that stands for its monomial, or pays
share : (c u : ℤ) (m z : Bool) → pos 0 ≤ℤ u → (m ≡ z) ⊎ (pos 1 ≤ℤ u) → cond m c (pos 0) ≤ℤ (cond z c (pos 0) +ℤ abs c *ℤ u)
share c u m z l (inl e) = rw e (≤ℤ-+ʳ (cond z c (pos 0)) _ (*ℤ_nonneg (abs c) u (abs_nonneg c) l))
share c u m z l (inr k) =
    ≤ℤ_trans _ _ _ (pays m z c)
    (+ℤ_mono _ _ _ _ (≤ℤ_refl (cond z c (pos 0))) (*ℤ_monoˡ (abs c) (pos 1) u (abs_nonneg c) k))
  where
    pays : (m z : Bool) (c : ℤ) → cond m c (pos 0) ≤ℤ (cond z c (pos 0) +ℤ abs c *ℤ pos 1)
    pays true true = diff₁ _ λ p q. simp diffs (omega arith)
    pays true false = diff₁ _ λ p q. simp diffs (omega arith)
    pays false true = diff₁ _ λ p q. simp diffs (omega arith)
    pays false false = diff₁ _ λ p q. simp diffs (omega arith)

module _ (c : ℕ → ℤ) (r : Register) (s : Scheme) (valid : Valid r s) where
  abbrev m : ℕ
  m = r.choices

  -- both variables of the split stand for their sets, or the term owes something
  settled : (z : Filling) (t : ℕ) → t < r.terms → (is_subset (mask r t) (carried m z) ≡ (z (split_left s t) && z (split_right s t))) ⊎ (pos 1 ≤ℤ debts m s z t)
  unfolding uses
  settled z t l =
      elim (both m s z _ _ (monomial_or m s z valid.within.products (split_left s t) (omega (arith, p.ordered, p.there))) (monomial_or m s z valid.within.products (split_right s t) p.there)) [
        | inl e ↦ inl (ap (λ x. is_subset x (carried m z)) (sym p.fits) ∙ subset_or _ _ (carried m z) ∙ ap₂ ◌&&◌ e.0 e.1)
        | inr b ↦ inr (debts_some m s z t b)
      ]
    where
      p : SplitOf r s t
      p = split_of valid t l

  -- g and what the products pay are at least the cost of the plan carried
  paid_once : (z : Filling) → cost c r (carried m z) ≤ℤ (value (factor z) (g c r s) +ℤ paid (factor z) c r s)
  unfolding cost
  paid_once z =
      rw (by_terms c r s z)
      (+ℤ_mono _ _ _ _ (≤ℤ_refl r.base)
      (sum_below_mono r.terms _ _ (λ t l. share (c t) (debts m s z t) _ _ (debts_nonneg m s z t) (settled z t l))))

  -- so is h, with what they pay for each step of the factor
  pub penalty_steps : (z : Filling) → (cost c r (carried m z) +ℤ pos (s.factor - 1) *ℤ paid (factor z) c r s) ≤ℤ value (factor z) (h c r s)
  penalty_steps z =
      rw (value-h (factor z) c r s, steps s.factor valid.within.factor.positive (value (factor z) (g c r s)) (paid (factor z) c r s))
      (+ℤ_mono _ _ _ _ (paid_once z) (≤ℤ_refl _))

  pub penalty : (z : Filling) → cost c r (carried m z) ≤ℤ value (factor z) (h c r s)
  penalty z = ≤ℤ_trans _ _ _ (≤ℤ-+ʳ _ _ (*ℤ_nonneg (pos (s.factor - 1)) _ (pos_nonneg _) (paid_nonneg c r s z))) (penalty_steps z)

  paid_induced : (plan : ℕ) → paid (factor (induced m s plan)) c r s ≡ pos 0
  unfolding paid
  paid_induced plan = sum_below_cong s.products _ _ none ∙ sum_below_0 s.products
    where
      z : Filling
      z = induced m s plan

      none : (i : ℕ) → i < s.products → usage c r s (m + i) *ℤ value (factor z) (bracket_of m s (m + i)) ≡ pos 0
      none i l =
          rw (
            value-bracket z (m + i) (left m s (m + i)) (right m s (m + i)),
            due_none (z (m + i)) _ _ (induced_consistent m s plan valid.within.products (m + i) (omega arith) (omega arith)),
          )
          (*ℤ-zero (usage c r s (m + i)))

  pub induced_value : (plan : ℕ) → value (factor (induced m s plan)) (h c r s) ≡ cost c r plan
  induced_value plan =
      value-h (factor (induced m s plan)) c r s
      ∙ ap₂ ◌+ℤ◌ (induced_cost c r s valid plan) (ap (λ x. pos s.factor *ℤ x) (paid_induced plan) ∙ *ℤ-zero (pos s.factor))
      ∙ +ℤ_idr _
