-- Differences of naturals: `p ⊖ q` is p − q. Every integer is one, and a sum, a product, an order or an equation of such
-- differences is one of naturals (`diffs`), which `omega` decides.
-- A statement that is linear in its integers, and an equation of at most quadratic polynomials in three of them, is proved
-- by `diff₃ _ λ p q r s t u. simp diffs (omega arith)`: the hypotheses stand before arrows in what is proved.
use mathlib.Core.Path.{◌≡◌, sym, ◌∙◌, ap, subst}
use mathlib.Core.Logic.{◌↔◌}
use Prim.Native.Nat.{ℕ, suc, ◌+◌, ◌*◌, ◌-◌, max, ◌<◌, ◌≤◌}
use native.Mathlib.Omega.{arith}
use native.Mathlib.Decide.{dec_le}
use lib.IntN.{ℤ, pos, negsuc, neg_ℤ, sub_ℕ, ◌+ℤ◌, ◌*ℤ◌, nat_abs}
use lib.Signed.{◌≤ℤ◌, ◌<ℤ◌, mag}
use Rattle.integers.specs.Integer.{abs, pos_part, neg_part}
use Rattle.integers.proofs.Parts.{orders, pos_part_neg, neg_part_neg, subℕ_parts, +_parts}

infixl 6 ◌⊖◌
pub ◌⊖◌ : ℕ → ℕ → ℤ
p ⊖ q = sub_ℕ p q

pub ⊖_parts : (p q : ℕ) → pos_part (p ⊖ q) + q ≡ neg_part (p ⊖ q) + p
unfolding ◌⊖◌
⊖_parts p q = subℕ_parts p q

-- an integer is p − q when its parts differ as p and q do
pub is_⊖ : (z : ℤ) (p q : ℕ) → pos_part z + q ≡ neg_part z + p → z ≡ p ⊖ q
is_⊖ z p q e = omega (arith, orders, ⊖_parts p q)

-- ---- equality and order

pub ≡-⊖ : (p q r s : ℕ) → (p ⊖ q ≡ r ⊖ s) ↔ (p + s ≡ r + q)
≡-⊖ p q r s = (
  (λ e. omega (arith, orders, ⊖_parts p q, ⊖_parts r s)),
  (λ e. omega (arith, orders, ⊖_parts p q, ⊖_parts r s)),
)

pub ≤-⊖ : (p q r s : ℕ) → ((p ⊖ q) ≤ℤ (r ⊖ s)) ↔ (p + s ≤ r + q)
≤-⊖ p q r s = (
  (λ h. omega (arith, orders, ⊖_parts p q, ⊖_parts r s)),
  (λ h. omega (arith, orders, ⊖_parts p q, ⊖_parts r s)),
)

pub <-⊖ : (p q r s : ℕ) → ((p ⊖ q) <ℤ (r ⊖ s)) ↔ (p + s < r + q)
<-⊖ p q r s = (
  (λ h. omega (arith, orders, ⊖_parts p q, ⊖_parts r s)),
  (λ h. omega (arith, orders, ⊖_parts p q, ⊖_parts r s)),
)

-- ---- operations

pub pos_⊖ : (n : ℕ) → pos n ≡ n ⊖ 0
pos_⊖ n = is_⊖ (pos n) n 0 (omega arith)

pub negsuc_⊖ : (n : ℕ) → negsuc n ≡ 0 ⊖ suc n
negsuc_⊖ n = is_⊖ (negsuc n) 0 (suc n) (omega arith)

pub neg_⊖ : (p q : ℕ) → neg_ℤ (p ⊖ q) ≡ q ⊖ p
neg_⊖ p q =
    is_⊖ (neg_ℤ (p ⊖ q)) q p (omega (arith, ⊖_parts p q, pos_part_neg (p ⊖ q), neg_part_neg (p ⊖ q)))

-- `simp` does not see the `pos n` of a stuck `neg_ℤ (pos n)`
pub neg_pos_⊖ : (n : ℕ) → neg_ℤ (pos n) ≡ 0 ⊖ n
neg_pos_⊖ n = ap neg_ℤ (pos_⊖ n) ∙ neg_⊖ n 0

pub +-⊖ : (p q r s : ℕ) → (p ⊖ q) +ℤ (r ⊖ s) ≡ (p + r) ⊖ (q + s)
+-⊖ p q r s =
    is_⊖ ((p ⊖ q) +ℤ (r ⊖ s)) (p + r) (q + s)
    (omega (arith, ⊖_parts p q, ⊖_parts r s, +_parts (p ⊖ q) (r ⊖ s)))

-- either term of a difference is the other and a rest
module _ (P : ℕ → ℕ → Type 0) (over : (q d : ℕ) → P (q + d) q) (under : (p d : ℕ) → P p (p + suc d)) where
  ⊖_cases : (p q : ℕ) → P p q
  ⊖_cases p q = go (dec_le q p)
    where
      go : Dec (q ≤ p) → P p q
      go (yes h) = let e : q + (p - q) ≡ p = omega arith in subst (λ x. P x q) e (over q (p - q))
      go (no n) =
          let e : p + suc (q - suc p) ≡ q = omega arith in
          subst (λ x. P p x) e (under p (q - suc p))

⊖_over : (q d : ℕ) → (q + d) ⊖ q ≡ pos d
⊖_over q d = sym (is_⊖ (pos d) (q + d) q (omega arith))

⊖_under : (p d : ℕ) → p ⊖ (p + suc d) ≡ negsuc d
⊖_under p d = sym (is_⊖ (negsuc d) p (p + suc d) (omega arith))

abbrev Product : ℕ → ℕ → ℕ → ℕ → Type 0
Product p q r s = (p ⊖ q) *ℤ (r ⊖ s) ≡ (p * r + q * s) ⊖ (p * s + q * r)

pub *-⊖ : (p q r s : ℕ) → (p ⊖ q) *ℤ (r ⊖ s) ≡ (p * r + q * s) ⊖ (p * s + q * r)
*-⊖ p q r s =
    ⊖_cases (λ p q. Product p q r s)
    (λ q d. ⊖_cases (λ r s. Product (q + d) q r s) (over_over q d) (over_under q d) r s)
    (λ p d. ⊖_cases (λ r s. Product p (p + suc d) r s) (under_over p d) (under_under p d) r s)
    p
    q
  where
    over_over : (q d s e : ℕ) → Product (q + d) q (s + e) s
    over_over q d s e = rw (⊖_over q d, ⊖_over s e) (is_⊖ (pos (d * e)) _ _ (omega arith))

    over_under : (q d r e : ℕ) → Product (q + d) q r (r + suc e)
    over_under q d r e =
        rw (⊖_over q d, ⊖_under r e)
        (is_⊖ (neg_ℤ (pos (d * suc e))) _ _ (rw (pos_part_neg, neg_part_neg) (omega arith)))

    under_over : (p d s e : ℕ) → Product p (p + suc d) (s + e) s
    under_over p d s e =
        rw (⊖_under p d, ⊖_over s e)
        (is_⊖ (neg_ℤ (pos (suc d * e))) _ _ (rw (pos_part_neg, neg_part_neg) (omega arith)))

    under_under : (p d r e : ℕ) → Product p (p + suc d) r (r + suc e)
    under_under p d r e =
        rw (⊖_under p d, ⊖_under r e) (is_⊖ (pos (suc d * suc e)) _ _ (omega arith))

pub nat_abs-⊖ : (p q : ℕ) → nat_abs (p ⊖ q) ≡ p - q + (q - p)
nat_abs-⊖ p q = ⊖_cases (λ p q. nat_abs (p ⊖ q) ≡ p - q + (q - p))
    (λ q d. rw (⊖_over q d) (omega arith)) (λ p d. rw (⊖_under p d) (omega arith)) p q

pub mag_⊖ : (p q : ℕ) → mag (p ⊖ q) ≡ p - q + (q - suc p)
mag_⊖ p q = ⊖_cases (λ p q. mag (p ⊖ q) ≡ p - q + (q - suc p))
    (λ q d. rw (⊖_over q d) (omega arith)) (λ p d. rw (⊖_under p d) (omega arith)) p q

pub abs-⊖ : (p q : ℕ) → abs (p ⊖ q) ≡ (max p q + max p q) ⊖ (p + q)
unfolding abs
abs-⊖ p q = is_⊖ (pos (nat_abs (p ⊖ q))) (max p q + max p q) (p + q) (omega (arith, nat_abs-⊖ p q))

pub ruleset diffs = (pos_⊖, negsuc_⊖, neg_⊖, neg_pos_⊖, +-⊖, *-⊖, ≡-⊖, ≤-⊖, <-⊖, abs-⊖, nat_abs-⊖, mag_⊖)

-- ---- every integer is a difference

pub as_diff : (z : ℤ) {G : Type 0} → ((p q : ℕ) → z ≡ p ⊖ q → G) → G
as_diff z f = f (pos_part z) (neg_part z) (is_⊖ z (pos_part z) (neg_part z) (omega arith))

-- what holds of all differences holds of all integers
pub diff₁ : (G : ℤ → Type 0) → ((p q : ℕ) → G (p ⊖ q)) → (a : ℤ) → G a
diff₁ G f a = as_diff a λ p q e. subst G (sym e) (f p q)

pub diff₂ : (G : ℤ → ℤ → Type 0) → ((p q r s : ℕ) → G (p ⊖ q) (r ⊖ s)) → (a b : ℤ) → G a b
diff₂ G f = diff₁ _ λ p q. diff₁ _ λ r s. f p q r s

pub diff₃ : (G : ℤ → ℤ → ℤ → Type 0) → ((p q r s t u : ℕ) → G (p ⊖ q) (r ⊖ s) (t ⊖ u)) → (a b c : ℤ) → G a b c
diff₃ G f = diff₂ _ λ p q r s. diff₁ _ λ t u. f p q r s t u

pub diff₄ : (G : ℤ → ℤ → ℤ → ℤ → Type 0) → ((p q r s t u v w : ℕ) → G (p ⊖ q) (r ⊖ s) (t ⊖ u) (v ⊖ w)) → (a b c d : ℤ) → G a b c d
diff₄ G f = diff₂ _ λ p q r s. diff₂ _ λ t u v w. f p q r s t u v w
