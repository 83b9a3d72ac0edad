-- Which products a variable reaches and a term uses; a usage and a weight are small for a valid register.
use mathlib.Core.Path.{◌≡◌, refl, sym, ◌∙◌}
use mathlib.Core.Logic.{◌⊎◌, inl, inr, ⊎_elim, ◌↔◌}
use mathlib.Core.Bool.{Bool, true, false, cond, ◌||◌}
use Prim.Native.Nat.{ℕ, ◌≤◌, ◌<◌}
use native.Mathlib.Nat.{le_refl}
use native.Mathlib.Omega.{arith}
use lib.Dec.{T, eqb, eqb→eq}
use lib.IntN.{ℤ, pos, nat_abs, ◌*ℤ◌, zero-*ℤ, *ℤ-zero}
use lib.Signed.{◌≤ℤ◌, ≤ℤ_refl}
use borrow.Author.Tests.{eq-eqb, ne_eqb}
use Rattle.integers.specs.Integer.{abs}
use Rattle.integers.specs.Sum.{sum_below}
use Rattle.integers.proofs.Order.{abs_nonneg, nat_abs-*-≤}
use Rattle.integers.proofs.Sum.{sum_below_nonneg, nat_abs-sum}
use Rattle.register.specs.declared.Register.{Register}
use Rattle.register.specs.Limits.{max_coefficient}
use Rattle.register.specs.Register.{coefficient}
use Rattle.register.specs.Valid.{Within}
use Rattle.scheme.specs.declared.Scheme.{Scheme}
use Rattle.scheme.specs.Scheme.{max_factor, left, right, variables, split_left, split_right}
use Rattle.scheme.specs.Valid.{Factor, Products, SplitOf, Valid}
use Rattle.integers.proofs.Lists.{T_or}
use Rattle.scheme.proofs.Table.{split_of}
use Rattle.scheme.proofs.Variables.{upward_choice, upward_product, left_falls, variable_ind}
use Rattle.penalty.specs.Weights.{reaches, uses, contribution, usage, max_usage, weight, max_product_weight}

-- ---- which products a variable reaches

-- a choice reaches none
pub reaches_choice : (n : ℕ) (s : Scheme) (k i : ℕ) → i < n → reaches n s k i ≡ false
unfolding reaches
reaches_choice n s k = upward_choice n s _ _

-- k is the left or the right operand of a product that passes the test
pub record OperandOf (n : ℕ) (s : Scheme) (test : ℕ → Bool) (k : ℕ) : Type 0 where
  pub j : ℕ
  pub product : n ≤ j
  pub there : j < variables n s
  pub passes : T (test j)
  pub operand : (k ≡ left n s j) ⊎ (k ≡ right n s j)

-- and of one that passes another test, where that product does
pub operand_by : {n : ℕ} {s : Scheme} {f g : ℕ → Bool} {k : ℕ} (p : OperandOf n s f k) → T (g p.j) → OperandOf n s g k
operand_by p t = record { j = p.j; product = p.product; there = p.there; passes = t; operand = p.operand }

module _ (n : ℕ) (s : Scheme) (products : Products n s) where
  pub reaches_product : (k v : ℕ) → n ≤ v → v < variables n s → reaches n s k v ≡ (eqb v k || (reaches n s k (left n s v) || reaches n s k (right n s v)))
  unfolding reaches
  reaches_product k v l m = upward_product n s _ _ v l (left_falls n s products v l m) (products v l m).falls

  -- a variable reaches no product after it
  pub reaches_below : (k v : ℕ) → v < variables n s → v < k → reaches n s k v ≡ false
  reaches_below k = variable_ind n s products (λ v. v < k → reaches n s k v ≡ false) (λ i l h. reaches_choice n s k i l) product
    where
      product : (v : ℕ) → n ≤ v → v < variables n s → (left n s v < k → reaches n s k (left n s v) ≡ false) → (right n s v < k → reaches n s k (right n s v) ≡ false) → v < k → reaches n s k v ≡ false
      product v l m a b h =
          rw (
            reaches_product k v l m,
            ne_eqb v k (λ e. omega arith),
            a (omega (arith, left_falls n s products v l m)),
            b (omega (arith, (products v l m).falls)),
          )

  -- by cases
  reaches_cases : (k v : ℕ) → n ≤ v → v < variables n s → T (reaches n s k v) ↔ ((v ≡ k) ⊎ (T (reaches n s k (left n s v)) ⊎ T (reaches n s k (right n s v))))
  reaches_cases k v l m = rw (reaches_product k v l m) (
    (λ t. elim ((T_or (eqb v k) _).0 t) [ inl e ↦ inl (eqb→eq v k e) | inr u ↦ inr ((T_or (reaches n s k (left n s v)) _).0 u) ]),
    (λ t. (T_or (eqb v k) _).1 (elim t [ inl e ↦ inl (rw (eq-eqb v k e) tt) | inr u ↦ inr ((T_or (reaches n s k (left n s v)) _).1 u) ])),
  )

  -- a product reaches itself, and what a variable reaches by way of another it reaches
  pub reaches_self : (k : ℕ) → n ≤ k → k < variables n s → T (reaches n s k k)
  reaches_self k l m = (reaches_cases k k l m).1 (inl refl)

  pub reaches_trans : (j k v : ℕ) → v < variables n s → T (reaches n s j v) → T (reaches n s k j) → T (reaches n s k v)
  reaches_trans j k = variable_ind n s products (λ v. T (reaches n s j v) → T (reaches n s k j) → T (reaches n s k v)) choice product
    where
      choice : (i : ℕ) → i < n → T (reaches n s j i) → T (reaches n s k j) → T (reaches n s k i)
      choice i l t u = absurd (rw (reaches_choice n s j i l) at t)

      product : (v : ℕ) → n ≤ v → v < variables n s →
          (T (reaches n s j (left n s v)) → T (reaches n s k j) → T (reaches n s k (left n s v))) →
          (T (reaches n s j (right n s v)) → T (reaches n s k j) → T (reaches n s k (right n s v))) →
          T (reaches n s j v) → T (reaches n s k j) → T (reaches n s k v)
      product v l m a b t u =
          elim ((reaches_cases j v l m).0 t) [
            | inl e ↦ rw e u
            | inr (inl x) ↦ (reaches_cases k v l m).1 (inr (inl (a x u)))
            | inr (inr x) ↦ (reaches_cases k v l m).1 (inr (inr (b x u)))
          ]

  -- a variable reaches product k just when it is k or reaches a product of which k is left or right
  pub reaches_iff : (k v : ℕ) → n ≤ k → k < variables n s → v < variables n s → T (reaches n s k v) ↔ ((v ≡ k) ⊎ OperandOf n s (λ j. reaches n s j v) k)
  reaches_iff k v a m l = (down v l, (λ t. ⊎_elim (λ e. rw e (reaches_self k a m)) up t))
    where
      up : OperandOf n s (λ j. reaches n s j v) k → T (reaches n s k v)
      up p =
          reaches_trans p.j k v l p.passes
          ((reaches_cases k p.j p.product p.there).1 (inr (⊎_elim (λ e. inl (rw (← e) (reaches_self k a m))) (λ e. inr (rw (← e) (reaches_self k a m))) p.operand)))

      down : (v : ℕ) → v < variables n s → T (reaches n s k v) → (v ≡ k) ⊎ OperandOf n s (λ j. reaches n s j v) k
      down = variable_ind n s products _ (λ i l t. absurd (rw (reaches_choice n s k i l) at t)) product
        where
          product : (v : ℕ) → n ≤ v → v < variables n s →
              (T (reaches n s k (left n s v)) → (left n s v ≡ k) ⊎ OperandOf n s (λ j. reaches n s j (left n s v)) k) →
              (T (reaches n s k (right n s v)) → (right n s v ≡ k) ⊎ OperandOf n s (λ j. reaches n s j (right n s v)) k) →
              T (reaches n s k v) → (v ≡ k) ⊎ OperandOf n s (λ j. reaches n s j v) k
          product v l m x y t = ⊎_elim inl (λ u. inr (⊎_elim (λ u. left' (x u)) (λ u. right' (y u)) u)) ((reaches_cases k v l m).0 t)
            where
              here : (k ≡ left n s v) ⊎ (k ≡ right n s v) → OperandOf n s (λ j. reaches n s j v) k
              here o = record { j = v; product = l; there = m; passes = reaches_self v l m; operand = o }

              left' : (left n s v ≡ k) ⊎ OperandOf n s (λ j. reaches n s j (left n s v)) k → OperandOf n s (λ j. reaches n s j v) k
              left' (inl e) = here (inl (sym e))
              left' (inr p) = operand_by p ((reaches_cases p.j v l m).1 (inr (inl p.passes)))

              right' : (right n s v ≡ k) ⊎ OperandOf n s (λ j. reaches n s j (right n s v)) k → OperandOf n s (λ j. reaches n s j v) k
              right' (inl e) = here (inr (sym e))
              right' (inr p) = operand_by p ((reaches_cases p.j v l m).1 (inr (inr p.passes)))

-- ---- which products a term uses

-- the scope paper's own definition of use, with the split in place of `reaches`, holds of `uses`
pub uses_iff : (r : Register) (s : Scheme) → Valid r s → (t k : ℕ) → t < r.terms → r.choices ≤ k → k < variables r.choices s →
    T (uses r.choices s k t) ↔ (((k ≡ split_left s t) ⊎ (k ≡ split_right s t)) ⊎ OperandOf r.choices s (λ j. uses r.choices s j t) k)
unfolding uses
uses_iff r s valid t k h a m = (
  (λ u. elim ((T_or (reaches n s k (split_left s t)) _).0 u) [
    | inl x ↦ ⊎_elim (λ e. inl (inl (sym e))) (λ p. inr (operand_by p ((T_or (reaches n s p.j (split_left s t)) _).1 (inl p.passes)))) (of_left.0 x)
    | inr x ↦ ⊎_elim (λ e. inl (inr (sym e))) (λ p. inr (operand_by p ((T_or (reaches n s p.j (split_left s t)) _).1 (inr p.passes)))) (of_right.0 x)
  ]),
  (λ u. (T_or (reaches n s k (split_left s t)) _).1 (elim u [
    | inl (inl e) ↦ inl (of_left.1 (inl (sym e)))
    | inl (inr e) ↦ inr (of_right.1 (inl (sym e)))
    | inr p ↦ ⊎_elim (λ w. inl (of_left.1 (inr (operand_by p w)))) (λ w. inr (of_right.1 (inr (operand_by p w)))) ((T_or (reaches n s p.j (split_left s t)) _).0 p.passes)
  ])),
)
  where
    n : ℕ
    n = r.choices

    split : SplitOf r s t
    split = split_of valid t h

    of_left : T (reaches n s k (split_left s t)) ↔ ((split_left s t ≡ k) ⊎ OperandOf n s (λ j. reaches n s j (split_left s t)) k)
    of_left = reaches_iff n s valid.within.products k (split_left s t) a m (omega (arith, split.ordered, split.there))

    of_right : T (reaches n s k (split_right s t)) ↔ ((split_right s t ≡ k) ⊎ OperandOf n s (λ j. reaches n s j (split_right s t)) k)
    of_right = reaches_iff n s valid.within.products k (split_right s t) a m split.there

-- ---- usages and weights

module _ (c : ℕ → ℤ) (n : ℕ) (s : Scheme) (k t : ℕ) where
  -- a term that uses product k adds |coefficient|, others nothing
  pub contribution_used : T (uses n s k t) → contribution c n s k t ≡ abs (c t)
  contribution_used u = go (uses n s k t) u
    where
      go : (b : Bool) → T b → cond b (abs (c t)) (pos 0) ≡ abs (c t)
      go true u = refl
      go false u = absurd u

  pub contribution-* : (y : ℤ) → contribution c n s k t *ℤ y ≡ abs (c t) *ℤ cond (uses n s k t) y (pos 0)
  contribution-* y = go (uses n s k t)
    where
      go : (b : Bool) → cond b (abs (c t)) (pos 0) *ℤ y ≡ abs (c t) *ℤ cond b y (pos 0)
      go true = refl
      go false = zero-*ℤ y ∙ sym (*ℤ-zero (abs (c t)))

  pub contribution_small : (b : ℕ) → nat_abs (c t) ≤ b → nat_abs (contribution c n s k t) ≤ b
  unfolding abs
  contribution_small b l = go (uses n s k t)
    where
      go : (u : Bool) → nat_abs (cond u (abs (c t)) (pos 0)) ≤ b
      go true = l
      go false = omega arith

  -- also one whose coefficient is 0, as the low one of a range may be
  pub contribution_zero : c t ≡ pos 0 → contribution c n s k t ≡ pos 0
  unfolding abs
  contribution_zero e = rw e (cond_same (uses n s k t))
    where
      cond_same : (u : Bool) → cond u (pos 0) (pos 0) ≡ pos 0
      cond_same true = refl
      cond_same false = refl

  pub contribution_nonneg : pos 0 ≤ℤ contribution c n s k t
  contribution_nonneg = go (uses n s k t)
    where
      go : (u : Bool) → pos 0 ≤ℤ cond u (abs (c t)) (pos 0)
      go true = abs_nonneg (c t)
      go false = ≤ℤ_refl (pos 0)

pub usage_nonneg : (c : ℕ → ℤ) (r : Register) (s : Scheme) (k : ℕ) → pos 0 ≤ℤ usage c r s k
unfolding usage
usage_nonneg c r s k = sum_below_nonneg r.terms _ (λ t l. contribution_nonneg c r.choices s k t)

-- of a register within the limits, also of the first terms alone
module _ (r : Register) (s : Scheme) (k : ℕ) (within : Within r) where
  pub contributions_small : (t : ℕ) → t ≤ r.terms → nat_abs (sum_below t (contribution (coefficient r) r.choices s k)) ≤ max_usage
  contributions_small t l =
      omega (arith, within.terms.few, nat_abs-sum t max_coefficient (contribution (coefficient r) r.choices s k) (λ i m. contribution_small (coefficient r) r.choices s k i max_coefficient (within.terms.each i (omega arith)).coefficient_within))

  pub usage_small : nat_abs (usage (coefficient r) r s k) ≤ max_usage
  unfolding usage
  usage_small = contributions_small r.terms (le_refl r.terms)

  pub weight_small : Factor s.factor → nat_abs (weight (coefficient r) r s k) ≤ max_product_weight
  unfolding weight
  weight_small f = nat_abs-*-≤ (pos s.factor) (usage (coefficient r) r s k) max_factor max_usage f.within usage_small
