-- Laws of forms: value and entry of sums and multiples, the places that a form names, the table of one product of places, and
-- the law of a form's table: Σ Σ entry i j · y i · y j is twice the form's value.
use Prim.Native.Nat.{ℕ, suc, ◌<◌}
use mathlib.Core.Path.{◌≡◌, refl, sym, ◌∙◌, ap, ap₂}
use mathlib.Core.List.{List, [], ◌∷◌, ◌++◌, map, flat_map}
use mathlib.Core.Bool.{Bool, true, false, cond, ◌&&◌, ◌||◌, and-false, and_comm}
use native.Mathlib.Omega.{arith}
use lib.IntN.{ℤ, pos, negsuc, ◌+ℤ◌, ◌-ℤ◌, ◌*ℤ◌, zero-*ℤ, *ℤ-zero, +ℤ_idl, +ℤ_idr, +ℤ_comm}
use lib.Dec.{T, eqb, eqb→eq}
use borrow.Author.Tests.{eq-eqb, ne_eqb}
use Rattle.integers.specs.Lists.{All, join_below}
use Rattle.integers.specs.Sum.{sum_below, sum_over}
use Rattle.integers.specs.Quadratic.{quadratic, Semidefinite}
use Rattle.integers.proofs.Lists.{*_bit, T_and, All-append, All-join}
use Rattle.integers.proofs.Ring.{*ℤ_distribˡ}
use Rattle.integers.proofs.Solver.{quote, atoms, ring}
use Rattle.integers.proofs.Sum.{sum_below_0, sum_below_cong, sum_below_first, sum_below_only, sum_over-append, sum_over-*ˡ, sum_over-map, sum_over_flat_map, sum_over_join}
use Rattle.integers.proofs.Quadratic.{quadratic-+, quadratic-sum_over}
use Rattle.forms.specs.Form.{Monomial, Form, mono, place, places, times, value, coefficient_of, single, entry}

-- ---- one monomial

-- what a monomial adds to the value, and at (i, j) of the table
abbrev pub value_of : (ℕ → ℤ) → Monomial → ℤ
value_of y m = m.c *ℤ y m.p *ℤ y m.q

abbrev pub entry_of : ℕ → ℕ → Monomial → ℤ
entry_of i j m = single m.p m.q m.c i j +ℤ single m.q m.p m.c i j

single_here : (p q : ℕ) (c : ℤ) → single p q c p q ≡ c
single_here p q c = rw (eq-eqb p p refl, eq-eqb q q refl)

single_row : (p q : ℕ) (c : ℤ) (i j : ℕ) → (i ≡ p → ⊥) → single p q c i j ≡ pos 0
single_row p q c i j d = rw (ne_eqb i p d)

single_column : (p q : ℕ) (c : ℤ) (i j : ℕ) → (j ≡ q → ⊥) → single p q c i j ≡ pos 0
single_column p q c i j d = rw (ne_eqb j q d, and-false)

single_swap : (p q : ℕ) (c : ℤ) (i j : ℕ) → single p q c i j ≡ single q p c j i
single_swap p q c i j = ap (λ b. cond b c (pos 0)) (and_comm (eqb i p) (eqb j q))

-- ---- value and entry of sums and multiples

pub value-[] : (y : ℕ → ℤ) → value y [] ≡ pos 0
unfolding value sum_over
value-[] y = refl

pub value-append : (y : ℕ → ℤ) (f g : Form) → value y (f ++ g) ≡ value y f +ℤ value y g
unfolding value
value-append y f g = sum_over-append f g _

pub value-times : (y : ℕ → ℤ) (k : ℤ) (f : Form) → value y (times k f) ≡ k *ℤ value y f
unfolding value times
value-times y k f =
    sum_over-map (value_of y) (λ m. mono m.p m.q (k *ℤ m.c)) f
    ∙ (λ x. sum_over f (λ m. factor m.c (y m.p) (y m.q) x))
    ∙ sum_over-*ˡ f k (value_of y)
  where
    factor : (c u v : ℤ) → k *ℤ c *ℤ u *ℤ v ≡ k *ℤ (c *ℤ u *ℤ v)
    factor c u v = atoms (k ∷ c ∷ u ∷ v ∷ []) λ ρ k c u v. simp (k, c, u, v, quote) (ring _ _ _ tt)

pub value_join : (y : ℕ → ℤ) (n : ℕ) (f : ℕ → Form) → value y (join_below n f) ≡ sum_below n (λ i. value y (f i))
unfolding value
value_join y n f = sum_over_join _ n f

pub value_flat_map {ℓ} : {A : Type ℓ} (y : ℕ → ℤ) (f : A → Form) (l : List A) → value y (flat_map f l) ≡ sum_over l (λ x. value y (f x))
unfolding value
value_flat_map y f l = sum_over_flat_map _ f l

pub entry-[] : (i j : ℕ) → entry [] i j ≡ pos 0
unfolding entry sum_over
entry-[] i j = refl

pub entry-append : (f g : Form) (i j : ℕ) → entry (f ++ g) i j ≡ entry f i j +ℤ entry g i j
unfolding entry
entry-append f g i j = sum_over-append f g _

pub entry_join : (n : ℕ) (f : ℕ → Form) (i j : ℕ) → entry (join_below n f) i j ≡ sum_below n (λ k. entry (f k) i j)
unfolding entry
entry_join n f i j = sum_over_join _ n f

pub entry_flat_map {ℓ} : {A : Type ℓ} (f : A → Form) (l : List A) (i j : ℕ) → entry (flat_map f l) i j ≡ sum_over l (λ x. entry (f x) i j)
unfolding entry
entry_flat_map f l i j = sum_over_flat_map _ f l

pub entry_symmetric : (f : Form) (i j : ℕ) → entry f i j ≡ entry f j i
unfolding entry
entry_symmetric f i j = λ x. sum_over f (λ m. swap m x)
  where
    swap : (m : Monomial) → entry_of i j m ≡ entry_of j i m
    swap m =
        ap₂ ◌+ℤ◌ (single_swap m.p m.q m.c i j) (single_swap m.q m.p m.c i j)
        ∙ +ℤ_comm (single m.q m.p m.c j i) (single m.p m.q m.c j i)

pub entry-times : (k : ℤ) (f : Form) (i j : ℕ) → entry (times k f) i j ≡ k *ℤ entry f i j
unfolding entry times
entry-times k f i j =
    sum_over-map (entry_of i j) (λ m. mono m.p m.q (k *ℤ m.c)) f
    ∙ (λ x. sum_over f (λ m. factor m.c (eqb i m.p && eqb j m.q) (eqb i m.q && eqb j m.p) x))
    ∙ sum_over-*ˡ f k (entry_of i j)
  where
    factor : (c : ℤ) (a b : Bool) → cond a (k *ℤ c) (pos 0) +ℤ cond b (k *ℤ c) (pos 0) ≡ k *ℤ (cond a c (pos 0) +ℤ cond b c (pos 0))
    factor c true true = sym (*ℤ_distribˡ k c c)
    factor c true false = simp +ℤ_idr
    factor c false true = simp +ℤ_idl
    factor c false false = sym (*ℤ-zero k)

-- ---- the places that a form names

-- both places of a monomial are below n
abbrev pub Inside : ℕ → Monomial → Type 0
Inside n m = (m.p < n) × (m.q < n)

-- all places of a form are below n
pub record Below (n : ℕ) (f : Form) : Type 0 where
  pub all : All (Inside n) f

pub below-[] : {n : ℕ} → Below n []
below-[] = record { all = tt }

pub below_∷ : {n : ℕ} {m : Monomial} {f : Form} → m.p < n → m.q < n → Below n f → Below n (m ∷ f)
below_∷ a b h = record { all = ((a, b), h.all) }

pub below_append : {n : ℕ} {f g : Form} → Below n f → Below n g → Below n (f ++ g)
below_append {n} {f} {g} h k = record { all = All-append (Inside n) f g h.all k.all }

pub below_join : {n : ℕ} (k : ℕ) {f : ℕ → Form} → ((i : ℕ) → i < k → Below n (f i)) → Below n (join_below k f)
below_join {n} k {f} h = record { all = All-join (Inside n) k f (λ i l. (h i l).all) }

pub below_flat_map {ℓ} : {A : Type ℓ} {n : ℕ} {P : A → Type 0} {f : A → Form} → ((x : A) → P x → Below n (f x)) → (l : List A) → All P l → Below n (flat_map f l)
unfolding flat_map
below_flat_map s [] h = below-[]
below_flat_map s (x ∷ l) h = below_append (s x h.0) (below_flat_map s l h.1)

pub below_times : {n : ℕ} (k : ℤ) {f : Form} → Below n f → Below n (times k f)
unfolding times
below_times {n} k {f} h = record { all = go f h.all }
  where
    go : (f : Form) → All (Inside n) f → All (Inside n) (map (λ m. mono m.p m.q (k *ℤ m.c)) f)
    go [] h = tt
    go (m ∷ f) h = (h.0, go f h.1)

-- ---- the law of a form's table

single_law : (n : ℕ) (y : ℕ → ℤ) (p q : ℕ) (c : ℤ) → p < n → q < n → quadratic n (single p q c) y ≡ c *ℤ y p *ℤ y q
unfolding quadratic
single_law n y p q c a b =
    sum_below_only n p _ a (λ i l d. sum_below_cong n _ _ (λ j k. rw (single_row p q c i j d) (simp zero-*ℤ)) ∙ sum_below_0 n)
    ∙ sum_below_only n q _ b (λ j l d. rw (single_column p q c p j d) (simp zero-*ℤ))
    ∙ rw single_here

pub form_law : {n : ℕ} {f : Form} → Below n f → (y : ℕ → ℤ) → quadratic n (entry f) y ≡ pos 2 *ℤ value y f
unfolding entry value sum_over
form_law {n} {f} h y = quadratic-sum_over n f (λ m i j. entry_of i j m) y ∙ go f h.all
  where
    twice : (c u v s : ℤ) → c *ℤ u *ℤ v +ℤ c *ℤ v *ℤ u +ℤ pos 2 *ℤ s ≡ pos 2 *ℤ (c *ℤ u *ℤ v +ℤ s)
    twice c u v s = atoms (c ∷ u ∷ v ∷ s ∷ []) λ ρ c u v s. simp (c, u, v, s, quote, ρ) (ring _ _ _ tt)

    go : (f : Form) → All (Inside n) f → sum_over f (λ m. quadratic n (λ i j. entry_of i j m) y) ≡ pos 2 *ℤ sum_over f (value_of y)
    go [] h = refl
    go (m ∷ f) h =
        ap₂ ◌+ℤ◌
        (quadratic-+ n _ _ y ∙ ap₂ ◌+ℤ◌ (single_law n y m.p m.q m.c h.0.0 h.0.1) (single_law n y m.q m.p m.c h.0.1 h.0.0))
        (go f h.1)
        ∙ twice m.c (y m.p) (y m.q) (sum_over f (value_of y))

-- place 0 left out: the table without row and column 0 is a principal part
pub quadratic_tail : (n : ℕ) (a : ℕ → ℕ → ℤ) (x : ℕ → ℤ) → quadratic (suc n) a (places (pos 0) x) ≡ quadratic n (λ i j. a (place i) (place j)) x
unfolding quadratic
quadratic_tail n a x =
    sum_below_first n _
    ∙ ap₂ ◌+ℤ◌
    (sum_below_cong (suc n) _ _ (λ j h. simp (*ℤ-zero, zero-*ℤ)) ∙ sum_below_0 (suc n))
    (sum_below_cong n _ _ (λ i h. sum_below_first n _ ∙ simp (*ℤ-zero, +ℤ_idl)))
    ∙ +ℤ_idl _

pub semidefinite_tail : (n : ℕ) (a : ℕ → ℕ → ℤ) → Semidefinite (suc n) a → Semidefinite n (λ i j. a (place i) (place j))
semidefinite_tail n a h x = rw (← (quadratic_tail n a x)) (h (places (pos 0) x))

-- ---- the table by the form's coefficients

pub entry_diagonal : (f : Form) (i : ℕ) → entry f i i ≡ pos 2 *ℤ coefficient_of f i i
unfolding entry coefficient_of
entry_diagonal f i = (λ x. sum_over f (λ m. twice m.c (eqb i m.p) (eqb i m.q) x)) ∙ sum_over-*ˡ f (pos 2) _
  where
    double : (c : ℤ) → c +ℤ c ≡ pos 2 *ℤ c
    double c = atoms (c ∷ []) λ ρ c. simp (c, quote, ρ) (ring _ _ _ tt)

    twice : (c : ℤ) (a b : Bool) → cond (a && b) c (pos 0) +ℤ cond (b && a) c (pos 0) ≡ pos 2 *ℤ cond (a && b || b && a) c (pos 0)
    twice c true true = double c
    twice c true false = refl
    twice c false true = refl
    twice c false false = refl

pub entry_beside : (f : Form) (i j : ℕ) → (i ≡ j → ⊥) → entry f i j ≡ coefficient_of f i j
unfolding entry coefficient_of
entry_beside f i j d = λ x. sum_over f (λ m. one m x)
  where
    once : (c : ℤ) (a b : Bool) → (T a → T b → ⊥) → cond a c (pos 0) +ℤ cond b c (pos 0) ≡ cond (a || b) c (pos 0)
    once c true true n = absurd (n tt tt)
    once c true false n = +ℤ_idr c
    once c false true n = +ℤ_idl c
    once c false false n = refl

    one : (m : Monomial) → entry_of i j m ≡ cond (eqb i m.p && eqb j m.q || eqb i m.q && eqb j m.p) m.c (pos 0)
    one m =
        once m.c (eqb i m.p && eqb j m.q) (eqb i m.q && eqb j m.p)
        (λ s t. d (eqb→eq i m.p ((T_and (eqb i m.p) (eqb j m.q)).0 s).0 ∙ sym (eqb→eq j m.p ((T_and (eqb i m.q) (eqb j m.p)).0 t).1)))

-- the rule of the table, in the paper's words:
-- (0, 0) holds twice the constant
pub table_constant : (f : Form) → entry f 0 0 ≡ pos 2 *ℤ coefficient_of f 0 0
table_constant f = entry_diagonal f 0

-- (0, i) and (i, 0) hold the linear coefficient of variable i
pub table_linear : (f : Form) (i : ℕ) → (entry f 0 (place i) ≡ coefficient_of f 0 (place i)) × (entry f (place i) 0 ≡ coefficient_of f 0 (place i))
table_linear f i =
    let e = entry_beside f 0 (place i) (λ d. omega arith) in
    (e, entry_symmetric f (place i) 0 ∙ e)

-- (i, i) holds twice the coefficient of variable i's square
pub table_square : (f : Form) (i : ℕ) → entry f (place i) (place i) ≡ pos 2 *ℤ coefficient_of f (place i) (place i)
table_square f i = entry_diagonal f (place i)

-- (i, j) and (j, i), of two variables, hold the coefficient of their product
pub table_product : (f : Form) (i j : ℕ) → (i ≡ j → ⊥) →
    (entry f (place i) (place j) ≡ coefficient_of f (place i) (place j)) × (entry f (place j) (place i) ≡ coefficient_of f (place i) (place j))
table_product f i j d =
    let e = entry_beside f (place i) (place j) (λ h. d (omega arith)) in
    (e, entry_symmetric f (place j) (place i) ∙ e)

-- ---- the table of one product of places, p and q: 0 but at (p, q) and (q, p)

unfoldable pub unit : ℕ → ℕ → ℕ → ℕ → ℤ
unit p q i j = single p q (pos 1) i j +ℤ single q p (pos 1) i j

pub entry-∷ : (m : Monomial) (f : Form) (i j : ℕ) → entry (m ∷ f) i j ≡ m.c *ℤ unit m.p m.q i j +ℤ entry f i j
unfolding entry sum_over unit
entry-∷ m f i j = ap (λ x. x +ℤ entry f i j) one
  where
    one : entry_of i j m ≡ m.c *ℤ (single m.p m.q (pos 1) i j +ℤ single m.q m.p (pos 1) i j)
    one =
        sym (ap₂ ◌+ℤ◌ (*_bit m.c (eqb i m.p && eqb j m.q)) (*_bit m.c (eqb i m.q && eqb j m.p)))
        ∙ sym (*ℤ_distribˡ m.c (single m.p m.q (pos 1) i j) (single m.q m.p (pos 1) i j))

pub entry-single : (p q : ℕ) (c : ℤ) (i j : ℕ) → entry (mono p q c ∷ []) i j ≡ c *ℤ unit p q i j
entry-single p q c i j = entry-∷ (mono p q c) [] i j ∙ rw entry-[] (+ℤ_idr _)

pub entry_difference : (p q p' q' i j : ℕ) → entry (mono p q (pos 1) ∷ mono p' q' (negsuc 0) ∷ []) i j ≡ unit p q i j -ℤ unit p' q' i j
entry_difference p q p' q' i j = entry-∷ _ _ i j ∙ rw (entry-single p' q' (negsuc 0) i j) (go (unit p q i j) (unit p' q' i j))
  where
    go : (u v : ℤ) → pos 1 *ℤ u +ℤ negsuc 0 *ℤ v ≡ u -ℤ v
    go u v = atoms (u ∷ v ∷ []) λ ρ u v. simp (u, v, quote, ρ) (ring _ _ _ tt)

pub absent : (p q i j : ℕ) (c : ℤ) → unit p q i j ≡ pos 0 → entry (mono p q c ∷ []) i j ≡ pos 0
absent p q i j c e = entry-single p q c i j ∙ rw (e, *ℤ-zero c)

module _ (p q i j : ℕ) where
  -- p is neither i nor j, or q is neither
  pub without_p : (i ≡ p → ⊥) → (j ≡ p → ⊥) → unit p q i j ≡ pos 0
  unfolding unit
  without_p d e = ap₂ ◌+ℤ◌ (single_row p q (pos 1) i j d) (single_column q p (pos 1) i j e)

  pub without_q : (i ≡ q → ⊥) → (j ≡ q → ⊥) → unit p q i j ≡ pos 0
  unfolding unit
  without_q d e = ap₂ ◌+ℤ◌ (single_column p q (pos 1) i j e) (single_row q p (pos 1) i j d)

  -- i is neither p nor q, or j is neither
  pub without_i : (i ≡ p → ⊥) → (i ≡ q → ⊥) → unit p q i j ≡ pos 0
  unfolding unit
  without_i d e = ap₂ ◌+ℤ◌ (single_row p q (pos 1) i j d) (single_row q p (pos 1) i j e)

  pub without_j : (j ≡ p → ⊥) → (j ≡ q → ⊥) → unit p q i j ≡ pos 0
  unfolding unit
  without_j d e = ap₂ ◌+ℤ◌ (single_column p q (pos 1) i j e) (single_column q p (pos 1) i j d)

-- at its own place: 1 of two places, 2 of one and itself
pub product_same : (p q : ℕ) → (p ≡ q → ⊥) → unit p q p q ≡ pos 1
unfolding unit
product_same p q d = rw (single_here, single_row q p (pos 1) p q d)

pub linear_same : (v : ℕ) → unit 0 (place v) 0 (place v) ≡ pos 1
linear_same v = product_same 0 (place v) (λ e. omega arith)

pub square_same : (v : ℕ) → unit v v v v ≡ pos 2
unfolding unit
square_same v = rw single_here
