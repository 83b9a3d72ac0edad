-- Finite sums of integers: `sum_below n f` is f 0 + f 1 + .. + f (n − 1), and `sum_over l f` the sum of f over a list.
use mathlib.Core.Path.{◌≡◌, refl, sym, ◌∙◌, ap, ap₂, subst}
use mathlib.Core.Bool.{Bool, true, false, cond}
use mathlib.Core.List.{List, [], ◌∷◌, ◌++◌, map, flat_map}
use Prim.Native.Nat.{ℕ, zero, suc, min, ◌+◌, ◌-◌, ◌*◌, ◌≤◌, ◌<◌}
use native.Mathlib.Omega.{arith}
use native.Mathlib.Decide.{ℕ_discrete, dec_lt}
use native.Mathlib.Nat.{add-zero, add-suc, zero-mul, suc-mul, min-eq_left, min-eq_right}
use lib.Dec.{T, eqb, eqb→eq, eqb_refl}
use lib.ListN.{length}
use lib.IntN.{ℤ, pos, neg_ℤ, ◌+ℤ◌, ◌-ℤ◌, ◌*ℤ◌, nat_abs, +ℤ_assoc, +ℤ_comm, +ℤ_idl, +ℤ_idr, *ℤ-zero, *ℤ_comm, neg_ℤ-+ℤ}
use lib.Signed.{◌≤ℤ◌, ≤ℤ_refl}
use Rattle.integers.specs.Lists.{All, join_below}
use Rattle.integers.specs.Sum.{sum_below, sum_over, except}
use Rattle.integers.proofs.Diff.{diff₂, diffs}
use Rattle.integers.proofs.Ring.{+ℤ_interchange, *ℤ_distribˡ}
use Rattle.integers.proofs.Order.{+ℤ_mono, +ℤ_nonneg, ≤ℤ-+ʳ, nat_abs-+}

pub sum_below-zero : (f : ℕ → ℤ) → sum_below 0 f ≡ pos 0
unfolding sum_below
sum_below-zero f = refl

pub sum_below-suc : (n : ℕ) (f : ℕ → ℤ) → sum_below (suc n) f ≡ sum_below n f +ℤ f n
unfolding sum_below
sum_below-suc n f = refl

-- ---- congruence and order

pub sum_below_cong : (n : ℕ) (f g : ℕ → ℤ) → ((i : ℕ) → i < n → f i ≡ g i) → sum_below n f ≡ sum_below n g
unfolding sum_below
sum_below_cong zero f g h = refl
sum_below_cong (suc n) f g h = ap₂ ◌+ℤ◌ (sum_below_cong n f g (λ i l. h i (omega arith))) (h n (omega arith))

pub sum_below_mono : (n : ℕ) (f g : ℕ → ℤ) → ((i : ℕ) → i < n → f i ≤ℤ g i) → sum_below n f ≤ℤ sum_below n g
unfolding sum_below
sum_below_mono zero f g h = ≤ℤ_refl (pos 0)
sum_below_mono (suc n) f g h =
    +ℤ_mono (sum_below n f) (sum_below n g) (f n) (g n) (sum_below_mono n f g (λ i l. h i (omega arith))) (h n (omega arith))

-- ---- linearity

pub sum_below_0 : (n : ℕ) → sum_below n (λ i. pos 0) ≡ pos 0
unfolding sum_below
sum_below_0 zero = refl
sum_below_0 (suc n) = ap (λ x. x +ℤ pos 0) (sum_below_0 n)

pub sum_below-+ : (n : ℕ) (f g : ℕ → ℤ) → sum_below n (λ i. f i +ℤ g i) ≡ sum_below n f +ℤ sum_below n g
unfolding sum_below
sum_below-+ zero f g = refl
sum_below-+ (suc n) f g =
    ap (λ x. x +ℤ (f n +ℤ g n)) (sum_below-+ n f g) ∙ +ℤ_interchange (sum_below n f) (sum_below n g) (f n) (g n)

pub sum_below_neg : (n : ℕ) (f : ℕ → ℤ) → sum_below n (λ i. neg_ℤ (f i)) ≡ neg_ℤ (sum_below n f)
unfolding sum_below
sum_below_neg zero f = refl
sum_below_neg (suc n) f = ap (λ x. x +ℤ neg_ℤ (f n)) (sum_below_neg n f) ∙ sym (neg_ℤ-+ℤ (sum_below n f) (f n))

pub sum_below_sub : (n : ℕ) (f g : ℕ → ℤ) → sum_below n (λ i. f i -ℤ g i) ≡ sum_below n f -ℤ sum_below n g
sum_below_sub n f g = sum_below-+ n f (λ i. neg_ℤ (g i)) ∙ ap (λ x. sum_below n f +ℤ x) (sum_below_neg n g)

pub sum_below-*ˡ : (n : ℕ) (c : ℤ) (f : ℕ → ℤ) → sum_below n (λ i. c *ℤ f i) ≡ c *ℤ sum_below n f
unfolding sum_below
sum_below-*ˡ zero c f = sym (*ℤ-zero c)
sum_below-*ˡ (suc n) c f = ap (λ x. x +ℤ c *ℤ f n) (sum_below-*ˡ n c f) ∙ sym (*ℤ_distribˡ c (sum_below n f) (f n))

pub sum_below-*ʳ : (n : ℕ) (c : ℤ) (f : ℕ → ℤ) → sum_below n (λ i. f i *ℤ c) ≡ sum_below n f *ℤ c
sum_below-*ʳ n c f =
    sum_below_cong n (λ i. f i *ℤ c) (λ i. c *ℤ f i) (λ i l. *ℤ_comm (f i) c) ∙ sum_below-*ˡ n c f ∙ *ℤ_comm c (sum_below n f)

-- `simp linear` takes sums apart
pub ruleset linear = (sum_below-+, sum_below_neg, sum_below-*ˡ, sum_below-*ʳ)

-- ---- double sums

pub sum_below_swap : (m n : ℕ) (f : ℕ → ℕ → ℤ) → sum_below m (λ i. sum_below n (λ j. f i j)) ≡ sum_below n (λ j. sum_below m (λ i. f i j))
unfolding sum_below
sum_below_swap zero n f = sym (sum_below_0 n)
sum_below_swap (suc m) n f =
    ap (λ x. x +ℤ sum_below n (λ j. f m j)) (sum_below_swap m n f) ∙ sym (sum_below-+ n (λ j. sum_below m (λ i. f i j)) (λ j. f m j))

pub sum_below_product : (m n : ℕ) (f g : ℕ → ℤ) → sum_below m f *ℤ sum_below n g ≡ sum_below m (λ i. sum_below n (λ j. f i *ℤ g j))
sum_below_product m n f g = sym (sum_below-*ʳ m (sum_below n g) f) ∙ sum_below_cong m _ _ (λ i l. sym (sum_below-*ˡ n (f i) g))

-- ---- parts of a sum

pub sum_below-append : (m n : ℕ) (f : ℕ → ℤ) → sum_below (m + n) f ≡ sum_below m f +ℤ sum_below n (λ i. f (m + i))
unfolding sum_below
sum_below-append m zero f = rw add-zero (sym (+ℤ_idr (sum_below m f)))
sum_below-append m (suc n) f =
    rw add-suc
    (ap (λ x. x +ℤ f (m + n)) (sum_below-append m n f) ∙ +ℤ_assoc (sum_below m f) (sum_below n (λ i. f (m + i))) (f (m + n)))

pub sum_below_first : (n : ℕ) (f : ℕ → ℤ) → sum_below (suc n) f ≡ f 0 +ℤ sum_below n (λ i. f (suc i))
unfolding sum_below
sum_below_first zero f = +ℤ_comm (pos 0) (f 0)
sum_below_first (suc n) f =
    ap (λ x. x +ℤ f (suc n)) (sum_below_first n f) ∙ +ℤ_assoc (f 0) (sum_below n (λ i. f (suc i))) (f (suc n))

-- what f is from k on does not count where it is 0

sum_below_past : (k m : ℕ) (f : ℕ → ℤ) → ((i : ℕ) → k ≤ i → f i ≡ pos 0) → sum_below (k + m) f ≡ sum_below k f
unfolding sum_below
sum_below_past k zero f h = rw add-zero
sum_below_past k (suc m) f h = rw (add-suc, h (k + m) (omega arith)) (+ℤ_idr _ ∙ sum_below_past k m f h)

pub sum_below_min : (n k : ℕ) (f : ℕ → ℤ) → ((i : ℕ) → k ≤ i → f i ≡ pos 0) → sum_below (min n k) f ≡ sum_below n f
sum_below_min n k f h = go (dec_lt n k)
  where
    go : Dec (n < k) → sum_below (min n k) f ≡ sum_below n f
    go (yes l) = let below : n ≤ k = omega arith in rw (min-eq_left below)
    go (no d) =
        let above : k ≤ n = omega arith in
        let all : k + (n - k) ≡ n = omega arith in
        rw (min-eq_right above) (sym (sum_below_past k (n - k) f h) ∙ ap (λ m. sum_below m f) all)

pub except_same : (k : ℕ) (f : ℕ → ℤ) → except k f k ≡ pos 0
unfolding except
except_same k f = pick (eqb k k) (eqb_refl k)
  where
    pick : (b : Bool) → T b → cond b (pos 0) (f k) ≡ pos 0
    pick true t = refl
    pick false t = absurd t

pub except_other : (k : ℕ) (f : ℕ → ℤ) (i : ℕ) → (i ≡ k → ⊥) → except k f i ≡ f i
unfolding except
except_other k f i n = pick (eqb i k) (λ t. n (eqb→eq i k t))
  where
    pick : (b : Bool) → (T b → ⊥) → cond b (pos 0) (f i) ≡ f i
    pick true n = absurd (n tt)
    pick false n = refl

-- one index apart: Σ f is f k and the sum of the others
pub sum_below_split : (n k : ℕ) (f : ℕ → ℤ) → k < n → sum_below n f ≡ f k +ℤ sum_below n (except k f)
unfolding sum_below
sum_below_split zero k f h = absurd (omega arith)
sum_below_split (suc n) k f h = go (ℕ_discrete k n) (λ l. sum_below_split n k f l)
  where
    last : (a b : ℤ) → a +ℤ b ≡ b +ℤ (a +ℤ pos 0)
    last = diff₂ _ λ p q r s. simp diffs (omega arith)

    go : Dec (k ≡ n) → (k < n → sum_below n f ≡ f k +ℤ sum_below n (except k f)) → sum_below n f +ℤ f n ≡ f k +ℤ (sum_below n (except k f) +ℤ except k f n)
    go (yes e) ih =
        rw (e, except_same, sum_below_cong n (except n f) f (λ i l. except_other n f i (λ e'. omega arith)))
        (last (sum_below n f) (f n))
    go (no d) ih =
        rw (except_other k f n (λ e. d (sym e)))
        (ap (λ x. x +ℤ f n) (ih (omega arith)) ∙ +ℤ_assoc (f k) (sum_below n (except k f)) (f n))

-- ---- bounds

pub sum_below_nonneg : (n : ℕ) (f : ℕ → ℤ) → ((i : ℕ) → i < n → pos 0 ≤ℤ f i) → pos 0 ≤ℤ sum_below n f
sum_below_nonneg n f h = subst (λ z. z ≤ℤ sum_below n f) (sum_below_0 n) (sum_below_mono n (λ i. pos 0) f h)

-- n terms of absolute value at most b
pub nat_abs-sum : (n b : ℕ) (f : ℕ → ℤ) → ((i : ℕ) → i < n → nat_abs (f i) ≤ b) → nat_abs (sum_below n f) ≤ b * n
unfolding sum_below
nat_abs-sum zero b f h = omega arith
nat_abs-sum (suc n) b f h =
    step (sum_below n f) (f n) (nat_abs-sum n b f (λ i l. h i (omega arith))) (h n (omega arith))
  where
    step : (x y : ℤ) → nat_abs x ≤ b * n → nat_abs y ≤ b → nat_abs (x +ℤ y) ≤ b * suc n
    step = diff₂ _ λ p q r s. simp diffs (omega arith)

-- a sum of numbers that are not negative is at least each of them
pub sum_below_member : (n k : ℕ) (f : ℕ → ℤ) → ((i : ℕ) → i < n → pos 0 ≤ℤ f i) → k < n → f k ≤ℤ sum_below n f
sum_below_member n k f h l =
    rw (sum_below_split n k f l) (≤ℤ-+ʳ (f k) _ (sum_below_nonneg n (except k f) (λ i m. rest i m (ℕ_discrete i k))))
  where
    rest : (i : ℕ) → i < n → Dec (i ≡ k) → pos 0 ≤ℤ except k f i
    rest i m (yes e) = rw (e, except_same) (≤ℤ_refl (pos 0))
    rest i m (no d) = rw (except_other k f i d) (h i m)

-- a sum with one number that is not 0
pub sum_below_only : (n k : ℕ) (f : ℕ → ℤ) → k < n → ((i : ℕ) → i < n → (i ≡ k → ⊥) → f i ≡ pos 0) → sum_below n f ≡ f k
sum_below_only n k f l h =
    sum_below_split n k f l
    ∙ ap (λ x. f k +ℤ x) (sum_below_cong n _ _ (λ i m. rest i m (ℕ_discrete i k)) ∙ sum_below_0 n)
    ∙ +ℤ_idr (f k)
  where
    rest : (i : ℕ) → i < n → Dec (i ≡ k) → except k f i ≡ pos 0
    rest i m (yes e) = rw e (except_same k f)
    rest i m (no d) = except_other k f i d ∙ h i m d

-- m rows of n numbers, row by row
pub sum_below-rows : (m n : ℕ) (f : ℕ → ℤ) → sum_below (m * n) f ≡ sum_below m (λ i. sum_below n (λ j. f (i * n + j)))
sum_below-rows zero n f = rw zero-mul (sum_below-zero f ∙ sym (sum_below-zero _))
sum_below-rows (suc m) n f =
    rw suc-mul (sum_below-append (m * n) n f ∙ ap (λ x. x +ℤ sum_below n (λ j. f (m * n + j))) (sum_below-rows m n f) ∙ sym (sum_below-suc m _))

-- ---- lists

pub sum_over-append {ℓ} : {A : Type ℓ} (l r : List A) (f : A → ℤ) → sum_over (l ++ r) f ≡ sum_over l f +ℤ sum_over r f
unfolding sum_over
sum_over-append [] r f = sym (+ℤ_idl (sum_over r f))
sum_over-append (a ∷ l) r f =
    ap (λ x. f a +ℤ x) (sum_over-append l r f) ∙ sym (+ℤ_assoc (f a) (sum_over l f) (sum_over r f))

pub sum_over_0 {ℓ} : {A : Type ℓ} (l : List A) (f : A → ℤ) → All (λ x. f x ≡ pos 0) l → sum_over l f ≡ pos 0
unfolding sum_over
sum_over_0 [] f h = refl
sum_over_0 (x ∷ l) f h = ap₂ ◌+ℤ◌ h.0 (sum_over_0 l f h.1)

pub sum_over_nonneg {ℓ} : {A : Type ℓ} (l : List A) (f : A → ℤ) → All (λ x. pos 0 ≤ℤ f x) l → pos 0 ≤ℤ sum_over l f
unfolding sum_over
sum_over_nonneg [] f h = ≤ℤ_refl (pos 0)
sum_over_nonneg (x ∷ l) f h = +ℤ_nonneg _ _ h.0 (sum_over_nonneg l f h.1)

pub sum_over-*ˡ {ℓ} : {A : Type ℓ} (l : List A) (c : ℤ) (f : A → ℤ) → sum_over l (λ x. c *ℤ f x) ≡ c *ℤ sum_over l f
unfolding sum_over
sum_over-*ˡ [] c f = sym (*ℤ-zero c)
sum_over-*ˡ (x ∷ l) c f = ap (λ u. c *ℤ f x +ℤ u) (sum_over-*ˡ l c f) ∙ sym (*ℤ_distribˡ c (f x) (sum_over l f))

pub sum_over-map {ℓ κ} : {A : Type ℓ} {B : Type κ} (w : B → ℤ) (f : A → B) (l : List A) → sum_over (map f l) w ≡ sum_over l (λ x. w (f x))
unfolding sum_over
sum_over-map w f [] = refl
sum_over-map w f (x ∷ l) = ap (λ u. w (f x) +ℤ u) (sum_over-map w f l)

pub sum_over_flat_map {ℓ κ} : {A : Type ℓ} {B : Type κ} (w : B → ℤ) (f : A → List B) (l : List A) → sum_over (flat_map f l) w ≡ sum_over l (λ x. sum_over (f x) w)
unfolding sum_over flat_map
sum_over_flat_map w f [] = refl
sum_over_flat_map w f (x ∷ l) =
    sum_over-append (f x) (flat_map f l) w ∙ ap (λ u. sum_over (f x) w +ℤ u) (sum_over_flat_map w f l)

pub sum_over_join {ℓ} : {A : Type ℓ} (w : A → ℤ) (n : ℕ) (f : ℕ → List A) → sum_over (join_below n f) w ≡ sum_below n (λ i. sum_over (f i) w)
unfolding join_below sum_below sum_over
sum_over_join w zero f = refl
sum_over_join w (suc n) f =
    sum_over-append (join_below n f) (f n) w ∙ ap (λ x. x +ℤ sum_over (f n) w) (sum_over_join w n f)

pub nat_abs-sum_over {ℓ} : {A : Type ℓ} (b : ℕ) (l : List A) (f : A → ℤ) → All (λ x. nat_abs (f x) ≤ b) l → nat_abs (sum_over l f) ≤ b * length l
unfolding sum_over
nat_abs-sum_over b [] f h = omega arith
nat_abs-sum_over b (x ∷ l) f h = omega (arith, nat_abs-+ (f x) (sum_over l f), h.0, nat_abs-sum_over b l f h.1)
