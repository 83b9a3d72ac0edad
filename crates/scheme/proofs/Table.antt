-- The table of g: its places, its constant, no square, and how large its numbers are.
use mathlib.Core.Path.{◌≡◌, sym, ◌∙◌, ap, ap₂}
use mathlib.Core.Bool.{not}
use mathlib.Core.List.{[], ◌∷◌}
use Prim.Native.Nat.{ℕ, ◌+◌, ◌*◌, ◌≤◌, ◌<◌}
use native.Mathlib.Decide.{ℕ_discrete}
use native.Mathlib.Nat.{le_refl}
use native.Mathlib.Omega.{arith}
use lib.Dec.{T, T_not, eqb, eqb_refl}
use lib.IntN.{ℤ, pos, nat_abs, ◌+ℤ◌, ◌*ℤ◌, *ℤ-zero, +ℤ_idr}
use Rattle.integers.specs.Lists.{join_below}
use Rattle.integers.specs.Sum.{sum_below}
use Rattle.integers.proofs.Lists.{cond_cases}
use Rattle.integers.proofs.Sum.{sum_below_cong, sum_below_0}
use Rattle.forms.specs.Form.{mono, place, entry}
use Rattle.forms.proofs.Form.{Below, below-[], below_∷, below_join, entry-∷, entry_join, unit, absent, without_i, without_p, without_q, square_same}
use Rattle.forms.proofs.Store.{norm1, norm1_∷, norm1-[], norm1_join}
use Rattle.register.specs.declared.Register.{Register}
use Rattle.scheme.specs.declared.Scheme.{Scheme}
use Rattle.scheme.specs.Scheme.{side, split_left, split_right}
use Rattle.scheme.specs.Function.{term, term_of, g}
use Rattle.scheme.specs.Valid.{Valid, SplitOf}

-- ---- a term

pub term_below : {n : ℕ} (l r : ℕ) (c : ℤ) → place l < n → place r < n → Below n (term l r c)
unfolding term
term_below {n} l r c h k =
    cond_cases (Below n) (eqb l r) (mono 0 (place l) c ∷ []) (mono (place l) (place r) c ∷ [])
    (λ _. below_∷ (omega arith) h below-[]) (λ _. below_∷ h k below-[])

-- no constant
term_constant : (l r : ℕ) (c : ℤ) → entry (term l r c) 0 0 ≡ pos 0
unfolding term
term_constant l r c =
    cond_cases (λ f. entry f 0 0 ≡ pos 0) (eqb l r) (mono 0 (place l) c ∷ []) (mono (place l) (place r) c ∷ [])
    (λ _. absent 0 (place l) 0 0 c (without_q _ _ _ _ (λ e. omega arith) (λ e. omega arith)))
    (λ _. absent (place l) (place r) 0 0 c (without_q _ _ _ _ (λ e. omega arith) (λ e. omega arith)))

-- no square
term_square : (l r : ℕ) (c : ℤ) (i : ℕ) → entry (term l r c) (place i) (place i) ≡ pos 0
unfolding term
term_square l r c i =
    cond_cases (λ f. entry f (place i) (place i) ≡ pos 0) (eqb l r) (mono 0 (place l) c ∷ []) (mono (place l) (place r) c ∷ [])
    (λ _. absent 0 (place l) (place i) (place i) c (without_p _ _ _ _ (λ e. omega arith) (λ e. omega arith)))
    (λ d. absent (place l) (place r) (place i) (place i) c (go d (ℕ_discrete i l)))
  where
    go : T (not (eqb l r)) → Dec (i ≡ l) → unit (place l) (place r) (place i) (place i) ≡ pos 0
    go d (yes e) =
        let f : i ≡ r → ⊥ = λ e'. T_not (eqb l r) d (rw (sym e ∙ e') (eqb_refl r)) in
        without_q _ _ _ _ (λ e. f (omega arith)) (λ e. f (omega arith))
    go d (no f) = without_p _ _ _ _ (λ e. f (omega arith)) (λ e. f (omega arith))

pub norm1_term : (l r : ℕ) (c : ℤ) → norm1 (term l r c) ≡ nat_abs c * 2
unfolding term
norm1_term l r c =
    cond_cases (λ f. norm1 f ≡ nat_abs c * 2) (eqb l r) (mono 0 (place l) c ∷ []) (mono (place l) (place r) c ∷ [])
    (λ _. omega (arith, norm1_∷ (mono 0 (place l) c) [], norm1-[])) (λ _. omega (arith, norm1_∷ (mono (place l) (place r) c) [], norm1-[]))

-- ---- g

-- of a valid scheme each term has its split
pub split_of : {r : Register} {s : Scheme} → Valid r s → (t : ℕ) → t < r.terms → SplitOf r s t
split_of valid t l = valid.within.splits t (rw valid.all_split l)

module _ (c : ℕ → ℤ) (r : Register) (s : Scheme) where
  -- the first terms
  pub terms_below : Valid r s → (n : ℕ) → n ≤ r.terms → Below (side r.choices s) (join_below n (term_of c s))
  terms_below valid n h =
      below_join n (λ t l. let split = split_of valid t (omega arith) in term_below (split_left s t) (split_right s t) (c t) (omega arith) (omega arith))

  pub g_below : Valid r s → Below (side r.choices s) (g c r s)
  unfolding g
  g_below valid = below_∷ (omega arith) (omega arith) (terms_below valid r.terms (le_refl _))

  pub entry-g : (i j : ℕ) → entry (g c r s) i j ≡ r.base *ℤ unit 0 0 i j +ℤ sum_below r.terms (λ t. entry (term_of c s t) i j)
  unfolding g
  entry-g i j = entry-∷ (mono 0 0 r.base) _ i j ∙ ap (λ x. r.base *ℤ unit 0 0 i j +ℤ x) (entry_join r.terms _ i j)

  pub g_constant : entry (g c r s) 0 0 ≡ r.base *ℤ pos 2
  g_constant =
      entry-g 0 0
      ∙ ap₂ (λ u x. r.base *ℤ u +ℤ x) (square_same 0)
      (sum_below_cong r.terms _ _ (λ t h. term_constant (split_left s t) (split_right s t) (c t)) ∙ sum_below_0 r.terms)
      ∙ +ℤ_idr (r.base *ℤ pos 2)

  pub g_no_square : (i : ℕ) → entry (g c r s) (place i) (place i) ≡ pos 0
  g_no_square i =
      entry-g (place i) (place i)
      ∙ ap₂ (λ u x. r.base *ℤ u +ℤ x) (without_i 0 0 (place i) (place i) (λ e. omega arith) (λ e. omega arith))
      (sum_below_cong r.terms _ _ (λ t h. term_square (split_left s t) (split_right s t) (c t) i) ∙ sum_below_0 r.terms)
      ∙ rw (*ℤ-zero r.base)

  -- where coefficients are at most b in absolute value
  module _ (b : ℕ) (small : (t : ℕ) → t < r.terms → nat_abs (c t) ≤ b) where
    pub norm1_terms : (n : ℕ) → n ≤ r.terms → norm1 (join_below n (term_of c s)) ≤ b * 2 * n
    norm1_terms n h =
        norm1_join n (b * 2) (term_of c s) (λ t l. omega (arith, norm1_term (split_left s t) (split_right s t) (c t), small t (omega arith)))

    pub norm1_g : norm1 (g c r s) ≤ nat_abs r.base * 2 + b * 2 * r.terms
    unfolding g
    norm1_g = omega (arith, norm1_∷ (mono 0 0 r.base) (join_below r.terms (term_of c s)), norm1_terms r.terms (le_refl _))
