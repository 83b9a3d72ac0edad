-- Laws of what the code stores. A table into which a form is added holds what it held and the form's entries, its other numbers
-- don't change, and no number grows by more than the form's norm.
use Prim.Native.Nat.{ℕ, zero, suc, ◌+◌, ◌*◌, ◌/◌, ◌%◌, ◌≤◌, ◌<◌}
use mathlib.Core.Path.{◌≡◌, refl, sym, ◌∙◌, ap, ap₂}
use mathlib.Core.List.{List, [], ◌∷◌, ◌++◌}
use mathlib.Core.Bool.{Bool, true, false, cond, ◌&&◌, and-false}
use native.Mathlib.Omega.{arith}
use native.Mathlib.Decide.{ℕ_discrete}
use lib.Arith.{digits_div, digits_mod, digits_lt}
use lib.Dec.{eqb}
use lib.ListN.{length, get_or, drop, replicate, length-set, length-append, length-replicate, length-drop, get_or-replicate}
use lib.Seq.{get_or-set_same, get_or-set_other, ext_get_or}
use lib.IntN.{ℤ, pos, nat_abs, ◌+ℤ◌, +ℤ_assoc, +ℤ_idl, +ℤ_idr}
use borrow.Author.Tests.{eq-eqb, ne_eqb}
use Rattle.integers.specs.Lists.{All, join_below}
use Rattle.integers.specs.Sum.{sum_over}
use Rattle.integers.proofs.Order.{nat_abs-+, nat_abs-*}
use Rattle.forms.specs.Form.{Form, Monomial, times, single, entry}
use Rattle.forms.specs.Table.{rows, with_table}
use Rattle.forms.specs.Store.{add_at, add_monomial, add_form, cleared, Bounded}
use Rattle.forms.proofs.Form.{Inside, Below, entry_of}
use Rattle.forms.proofs.Table.{by_place, length-rows, rows_at, with_table_at, with_table_past, with_table-length, with_table_cong, is_with_table}

-- ---- one number

add_at_other : (t : List ℤ) (k j : ℕ) (c : ℤ) → (j ≡ k → ⊥) → get_or (add_at k c t) j (pos 0) ≡ get_or t j (pos 0)
add_at_other t k j c d = get_or-set_other t k j _ (pos 0) d

pub add_at_at : (t : List ℤ) (k j : ℕ) (c : ℤ) → k < length t → get_or (add_at k c t) j (pos 0) ≡ get_or t j (pos 0) +ℤ cond (eqb j k) c (pos 0)
add_at_at t k j c l = go (ℕ_discrete j k)
  where
    go : Dec (j ≡ k) → get_or (add_at k c t) j (pos 0) ≡ get_or t j (pos 0) +ℤ cond (eqb j k) c (pos 0)
    go (yes e) = rw (e, eq-eqb k k refl) (get_or-set_same t k _ (pos 0) l)
    go (no d) = rw (ne_eqb j k d) (add_at_other t k j c d ∙ sym (+ℤ_idr _))

-- two places of a table are one only where their rows and columns are

pub same_place : (n i j p q : ℕ) → j < n → q < n → i * n + j ≡ p * n + q → (i ≡ p) × (j ≡ q)
same_place n i j p q l m e =
    (sym (digits_div i l) ∙ ap (λ k. k / n) e ∙ digits_div p m, sym (digits_mod i l) ∙ ap (λ k. k % n) e ∙ digits_mod p m)

place_eqb : (n i j p q : ℕ) → j < n → q < n → eqb (i * n + j) (p * n + q) ≡ (eqb i p && eqb j q)
place_eqb n i j p q l m = go (ℕ_discrete i p) (ℕ_discrete j q)
  where
    go : Dec (i ≡ p) → Dec (j ≡ q) → eqb (i * n + j) (p * n + q) ≡ (eqb i p && eqb j q)
    go (yes e) (yes f) = rw (e, f, eq-eqb p p refl, eq-eqb q q refl) (eq-eqb (p * n + q) (p * n + q) refl)
    go (yes e) (no f) = rw (ne_eqb j q f) (ne_eqb (i * n + j) (p * n + q) (λ x. f (same_place n i j p q l m x).1) ∙ sym (and-false (eqb i p)))
    go (no e) f = rw (ne_eqb i p e) (ne_eqb (i * n + j) (p * n + q) (λ x. e (same_place n i j p q l m x).0))

-- a place of a table is one of its n² numbers
pub place_inside : (n i j : ℕ) → i < n → j < n → i * n + j < n * n
place_inside n i j l m = digits_lt l m

-- ---- a monomial

pub length-add_monomial : (n : ℕ) (m : Monomial) (t : List ℤ) → length (add_monomial n m t) ≡ length t
length-add_monomial n m t = simp length-set

module _ (n : ℕ) (m : Monomial) (a : m.p < n) (b : m.q < n) (t : List ℤ) where
  pub add_monomial_at : n * n ≤ length t → (i j : ℕ) → j < n → get_or (add_monomial n m t) (i * n + j) (pos 0) ≡ get_or t (i * n + j) (pos 0) +ℤ entry_of i j m
  add_monomial_at l i j y =
      rw (
        ← (+ℤ_assoc (get_or t (i * n + j) (pos 0)) (single m.p m.q m.c i j) (single m.q m.p m.c i j)),
        ← (place_eqb n i j m.p m.q y b),
        ← (place_eqb n i j m.q m.p y a),
        ← (add_at_at t (m.p * n + m.q) (i * n + j) m.c (omega (arith, place_inside n m.p m.q a b))),
        ← (add_at_at (add_at (m.p * n + m.q) m.c t) (m.q * n + m.p) (i * n + j) m.c there),
      )
    where
      there : m.q * n + m.p < length (add_at (m.p * n + m.q) m.c t)
      there = simp length-set (omega (arith, place_inside n m.q m.p b a))

  pub add_monomial_past : (k : ℕ) → n * n ≤ k → get_or (add_monomial n m t) k (pos 0) ≡ get_or t k (pos 0)
  add_monomial_past k h =
      add_at_other (add_at (m.p * n + m.q) m.c t) (m.q * n + m.p) k m.c (λ e. omega (arith, place_inside n m.q m.p b a))
      ∙ add_at_other t (m.p * n + m.q) k m.c (λ e. omega (arith, place_inside n m.p m.q a b))

-- ---- a form

pub add_form-append : (n : ℕ) (f g : Form) (t : List ℤ) → add_form n (f ++ g) t ≡ add_form n g (add_form n f t)
unfolding add_form
add_form-append n [] g t = refl
add_form-append n (m ∷ f) g t = add_form-append n f g _

pub length-add_form : (n : ℕ) (f : Form) (t : List ℤ) → length (add_form n f t) ≡ length t
unfolding add_form
length-add_form n [] t = refl
length-add_form n (m ∷ f) t = length-add_form n f _ ∙ length-add_monomial n m t

pub add_form_at : {n : ℕ} {f : Form} → Below n f → (t : List ℤ) → n * n ≤ length t → (i j : ℕ) → i < n → j < n →
    get_or (add_form n f t) (i * n + j) (pos 0) ≡ get_or t (i * n + j) (pos 0) +ℤ entry f i j
unfolding add_form entry sum_over
add_form_at {n} {f} h t l i j x y = go f t h.all l
  where
    go : (f : Form) (t : List ℤ) → All (Inside n) f → n * n ≤ length t → get_or (add_form n f t) (i * n + j) (pos 0) ≡ get_or t (i * n + j) (pos 0) +ℤ sum_over f (entry_of i j)
    go [] t h l = sym (+ℤ_idr _)
    go (m ∷ f) t h l =
        go f (add_monomial n m t) h.1 (rw (length-add_monomial n m t) l)
        ∙ ap₂ ◌+ℤ◌ (add_monomial_at n m h.0.0 h.0.1 t l i j y) refl
        ∙ +ℤ_assoc (get_or t (i * n + j) (pos 0)) (entry_of i j m) (sum_over f (entry_of i j))

pub add_form_past : {n : ℕ} {f : Form} → Below n f → (t : List ℤ) (k : ℕ) → n * n ≤ k → get_or (add_form n f t) k (pos 0) ≡ get_or t k (pos 0)
unfolding add_form
add_form_past {n} {f} h t k l = go f t h.all
  where
    go : (f : Form) (t : List ℤ) → All (Inside n) f → get_or (add_form n f t) k (pos 0) ≡ get_or t k (pos 0)
    go [] t h = refl
    go (m ∷ f) t h = go f (add_monomial n m t) h.1 ∙ add_monomial_past n m h.0.0 h.0.1 t k l

-- into a run that has a table
pub add_form-with_table : {n : ℕ} {g : Form} → Below n g → (a : ℕ → ℕ → ℤ) (t : List ℤ) → n * n ≤ length t →
    add_form n g (with_table n a t) ≡ with_table n (λ i j. a i j +ℤ entry g i j) t
add_form-with_table {n} {g} h a t l =
    is_with_table n _ t (add_form n g (with_table n a t)) (length-add_form n g _ ∙ len) l
    (λ i j u v. add_form_at h (with_table n a t) (rw len l) i j u v ∙ ap (λ x. x +ℤ entry g i j) (with_table_at n a t i j u v))
    (λ k u. add_form_past h (with_table n a t) k u ∙ with_table_past n a t k u)
  where
    len : length (with_table n a t) ≡ length t
    len = with_table-length n a t l

-- ---- a cleared run

pub length-cleared : (k : ℕ) (t : List ℤ) → k ≤ length t → length (cleared k t) ≡ length t
length-cleared k t l = simp (length-append, length-replicate, length-drop) (omega arith)

pub cleared-with_table : (n : ℕ) (t : List ℤ) → cleared (n * n) t ≡ with_table n (λ i j. pos 0) t
unfolding with_table
cleared-with_table n t = ap (λ r. r ++ drop (n * n) t) zeros
  where
    zeros : replicate (n * n) (pos 0) ≡ rows n (λ i j. pos 0)
    zeros =
        ext_get_or (pos 0) _ _ (length-replicate (n * n) (pos 0) ∙ sym (length-rows n (λ i j. pos 0)))
        (λ k h. by_place n (λ k. get_or (replicate (n * n) (pos 0)) k (pos 0) ≡ get_or (rows n (λ i j. pos 0)) k (pos 0))
        (λ i j u v. get_or-replicate (n * n) (i * n + j) (pos 0) (pos 0) (place_inside n i j u v) ∙ sym (rows_at n (λ i j. pos 0) i j u v)) k
        (rw length-replicate at h))

-- a form added into a cleared run is its table
pub stored : {n : ℕ} {f : Form} → Below n f → (t : List ℤ) → n * n ≤ length t → add_form n f (cleared (n * n) t) ≡ with_table n (entry f) t
stored {n} {f} h t l =
    ap (add_form n f) (cleared-with_table n t)
    ∙ add_form-with_table h (λ i j. pos 0) t l
    ∙ with_table_cong n _ _ t (λ i j u v. +ℤ_idl (entry f i j))

-- ---- how large the numbers become

-- twice the sum of the absolute values of a form's coefficients
unfoldable pub norm1 : Form → ℕ
norm1 [] = 0
norm1 (m ∷ f) = nat_abs m.c * 2 + norm1 f

pub norm1-[] : norm1 [] ≡ 0
unfolding norm1
norm1-[] = refl

pub norm1_∷ : (m : Monomial) (f : Form) → norm1 (m ∷ f) ≡ nat_abs m.c * 2 + norm1 f
unfolding norm1
norm1_∷ m f = refl

pub norm1_append : (f g : Form) → norm1 (f ++ g) ≡ norm1 f + norm1 g
unfolding norm1
norm1_append [] g = omega arith
norm1_append (m ∷ f) g = omega (arith, norm1_append f g)

pub norm1_join : (n b : ℕ) (f : ℕ → Form) → ((i : ℕ) → i < n → norm1 (f i) ≤ b) → norm1 (join_below n f) ≤ b * n
unfolding join_below norm1
norm1_join zero b f h = omega arith
norm1_join (suc n) b f h =
    omega (arith, norm1_append (join_below n f) (f n), norm1_join n b f (λ i l. h i (omega arith)), h n (omega arith))

pub norm1_times : (k : ℤ) (f : Form) → norm1 (times k f) ≡ nat_abs k * norm1 f
unfolding norm1 times
norm1_times k [] = omega arith
norm1_times k (m ∷ f) = omega (arith, norm1_times k f, nat_abs-* k m.c)

single_small : (p q : ℕ) (c : ℤ) (i j : ℕ) → nat_abs (single p q c i j) ≤ nat_abs c
single_small p q c i j = go (eqb i p && eqb j q)
  where
    go : (b : Bool) → nat_abs (cond b c (pos 0)) ≤ nat_abs c
    go true = omega arith
    go false = omega arith

entry_of_small : (m : Monomial) (i j : ℕ) → nat_abs (entry_of i j m) ≤ nat_abs m.c * 2
entry_of_small m i j =
    omega (arith, nat_abs-+ (single m.p m.q m.c i j) (single m.q m.p m.c i j), single_small m.p m.q m.c i j, single_small m.q m.p m.c i j)

pub entry_small : (f : Form) (i j : ℕ) → nat_abs (entry f i j) ≤ norm1 f
unfolding norm1 entry sum_over
entry_small [] i j = omega arith
entry_small (m ∷ f) i j = omega (arith, nat_abs-+ (entry_of i j m) (entry f i j), entry_of_small m i j, entry_small f i j)

pub add_at_low : (t : List ℤ) (k j : ℕ) (c : ℤ) → k < length t → nat_abs (get_or (add_at k c t) j (pos 0)) ≤ nat_abs (get_or t j (pos 0)) + nat_abs c
add_at_low t k j c l = rw (add_at_at t k j c l) (go (eqb j k))
  where
    go : (b : Bool) → nat_abs (get_or t j (pos 0) +ℤ cond b c (pos 0)) ≤ nat_abs (get_or t j (pos 0)) + nat_abs c
    go true = nat_abs-+ (get_or t j (pos 0)) c
    go false = omega (arith, nat_abs-+ (get_or t j (pos 0)) (pos 0))

pub bounded_weaken : {n a b : ℕ} {t : List ℤ} → Bounded n a t → a ≤ b → Bounded n b t
bounded_weaken r l = record { long = r.long; low = λ k h. omega (arith, r.low k h) }

pub bounded_with_table : (n b : ℕ) (a : ℕ → ℕ → ℤ) (t : List ℤ) → n * n ≤ length t → ((i j : ℕ) → i < n → j < n → nat_abs (a i j) ≤ b) → Bounded n b (with_table n a t)
bounded_with_table n b a t l h = record {
  long = rw (with_table-length n a t l) l;
  low = by_place n _ (λ i j u v. rw (with_table_at n a t i j u v) (h i j u v));
}

-- a form's table is bounded by the form's norm
pub bounded_entry : (n : ℕ) (f : Form) (t : List ℤ) → n * n ≤ length t → Bounded n (norm1 f) (with_table n (entry f) t)
bounded_entry n f t l = bounded_with_table n (norm1 f) (entry f) t l (λ i j u v. entry_small f i j)

pub bounded_cleared : (n : ℕ) (t : List ℤ) → n * n ≤ length t → Bounded n 0 (cleared (n * n) t)
bounded_cleared n t l = rw (cleared-with_table n t) (bounded_with_table n 0 (λ i j. pos 0) t l (λ i j u v. omega arith))

pub bounded_add_form : {n b : ℕ} {f : Form} {t : List ℤ} → Below n f → Bounded n b t → Bounded n (b + norm1 f) (add_form n f t)
bounded_add_form {n} {b} {f} {t} h r = record {
  long = rw (length-add_form n f t) r.long;
  low = by_place n _ small;
}
  where
    small : (i j : ℕ) → i < n → j < n → nat_abs (get_or (add_form n f t) (i * n + j) (pos 0)) ≤ b + norm1 f
    small i j v w =
        rw (add_form_at h t r.long i j v w)
        (omega (arith, nat_abs-+ (get_or t (i * n + j) (pos 0)) (entry f i j), entry_small f i j, r.low (i * n + j) (place_inside n i j v w)))
