-- A decision procedure for equations of polynomials over ℤ, by reflection: two expressions with one normal form are equal
-- at every environment, and an expression is read off the goal by rewriting. With the atoms a and b, whatever terms they are,
--     atoms (a ∷ b ∷ []) λ ρ x y. simp (x, y, quote, ρ) (ring _ _ _ tt)
-- proves an equation of polynomials in them. (`ρ` stands in the list where the goal has numerals.)
use mathlib.Core.Path.{◌≡◌, refl, sym, ◌∙◌, ap, ap₂}
use mathlib.Core.List.{List, [], ◌∷◌}
use mathlib.Core.Bool.{Bool, true, false, cond}
use Prim.Native.Nat.{ℕ, zero, suc, ◌+◌, compare, Ordering}
use native.Mathlib.Omega.{arith}
use lib.Dec.{T, compare_is_eq, eqb, eqb→eq}
use lib.ListN.{length}
use lib.IntN.{ℤ, pos, negsuc, neg_ℤ, ◌+ℤ◌, ◌*ℤ◌, +ℤ_idl, +ℤ_idr, +ℤ_assoc, *ℤ-zero, zero-*ℤ}
use Rattle.integers.proofs.Diff.{diff₁, diffs}
use Rattle.integers.proofs.Ring.{*ℤ_assoc, *ℤ_distribʳ, *ℤ_distribˡ, one_*ℤ, +ℤ_interchange, +ℤ_left_comm, *ℤ_interchange, *ℤ_left_comm}

pub data Expr : Type 0 where
  var : ℕ → Expr
  lit : ℕ → Expr
  neglit : ℕ → Expr
  neg : Expr → Expr
  ◌⊕◌ : Expr → Expr → Expr
  ◌⊗◌ : Expr → Expr → Expr

infixl 6 ◌⊕◌
infixl 7 ◌⊗◌
-- what an expression stands for, where `ρ` gives the variables' values
pub ⟦◌⟧ : Expr → (ℕ → ℤ) → ℤ
⟦ var i ⟧ ρ = ρ i
⟦ lit n ⟧ ρ = pos n
⟦ neglit n ⟧ ρ = negsuc n
⟦ neg e ⟧ ρ = neg_ℤ (⟦ e ⟧ ρ)
⟦ e ⊕ f ⟧ ρ = ⟦ e ⟧ ρ +ℤ ⟦ f ⟧ ρ
⟦ e ⊗ f ⟧ ρ = ⟦ e ⟧ ρ *ℤ ⟦ f ⟧ ρ

-- ---- normal forms: a monomial is a sorted list of variables, a polynomial a sorted list of monomials with coefficients

abbrev pub Mono : Type 0
Mono = List ℕ

pub data Poly : Type 0 where
  none : Poly
  term : ℤ → Mono → Poly → Poly

mono_val : (ℕ → ℤ) → Mono → ℤ
mono_val ρ [] = pos 1
mono_val ρ (i ∷ m) = ρ i *ℤ mono_val ρ m

poly_val : (ℕ → ℤ) → Poly → ℤ
poly_val ρ none = pos 0
poly_val ρ (term c m p) = c *ℤ mono_val ρ m +ℤ poly_val ρ p

-- one of three, by a comparison
abbrev pub branch {ℓ} : {A : Type ℓ} → Ordering → A → A → A → A
branch Ordering.lt l e g = l
branch Ordering.eq l e g = e
branch Ordering.gt l e g = g

abbrev pub insert_var : ℕ → Mono → Mono
insert_var i [] = i ∷ []
insert_var i (j ∷ m) =
    let g = j ∷ insert_var i m in
    let l = i ∷ (j ∷ m) in
    branch (compare i j) l l g

abbrev pub mul_mono : Mono → Mono → Mono
mul_mono [] n = n
mul_mono (i ∷ m) n = insert_var i (mul_mono m n)

-- by degree, then lexicographically: an order that multiplying by a monomial keeps
abbrev pub compare_vars : Mono → Mono → Ordering
compare_vars [] [] = Ordering.eq
compare_vars [] (j ∷ n) = Ordering.lt
compare_vars (i ∷ m) [] = Ordering.gt
compare_vars (i ∷ m) (j ∷ n) = let r = compare_vars m n in branch (compare i j) Ordering.lt r Ordering.gt

abbrev pub compare_mono : Mono → Mono → Ordering
compare_mono m n = let r = compare_vars m n in branch (compare (length m) (length n)) Ordering.lt r Ordering.gt

-- a term with the coefficient 0 is left out
abbrev pub cons : ℤ → Mono → Poly → Poly
cons (pos zero) m p = p
cons (pos (suc n)) m p = term (pos (suc n)) m p
cons (negsuc n) m p = term (negsuc n) m p

-- the sum of `term c m p` and another, where `f` adds `p`
abbrev pub merge : ℤ → Mono → Poly → (Poly → Poly) → Poly → Poly
merge c m p f none = term c m p
merge c m p f (term d n q) =
    let l = term c m (f (term d n q)) in
    let e = cons (c +ℤ d) m (f q) in
    let g = term d n (merge c m p f q) in
    branch (compare_mono m n) l e g

abbrev pub add_poly : Poly → Poly → Poly
add_poly none q = q
add_poly (term c m p) q = merge c m p (add_poly p) q

abbrev pub mul_term : ℤ → Mono → Poly → Poly
mul_term c m none = none
mul_term c m (term d n p) = term (c *ℤ d) (mul_mono m n) (mul_term c m p)

abbrev pub mul_poly : Poly → Poly → Poly
mul_poly none q = none
mul_poly (term c m p) q = add_poly (mul_term c m q) (mul_poly p q)

abbrev pub normal : Expr → Poly
normal (var i) = term (pos 1) (i ∷ []) none
normal (lit n) = cons (pos n) [] none
normal (neglit n) = term (negsuc n) [] none
normal (neg e) = mul_term (negsuc 0) [] (normal e)
normal (e ⊕ f) = add_poly (normal e) (normal f)
normal (e ⊗ f) = mul_poly (normal e) (normal f)

-- ---- a normal form has its expression's value

branch_ind {ℓ} : {A : Type 0} (P : A → Type ℓ) (o : Ordering) (l e g : A) → P l → (T (compare_is_eq o) → P e) → P g → P (branch o l e g)
branch_ind P Ordering.lt l e g pl pe pg = pl
branch_ind P Ordering.eq l e g pl pe pg = pe tt
branch_ind P Ordering.gt l e g pl pe pg = pg

insert_var_val : (ρ : ℕ → ℤ) (i : ℕ) (m : Mono) → mono_val ρ (insert_var i m) ≡ ρ i *ℤ mono_val ρ m
unfolding mono_val
insert_var_val ρ i [] = refl
insert_var_val ρ i (j ∷ m) =
    branch_ind (λ x. mono_val ρ x ≡ ρ i *ℤ (ρ j *ℤ mono_val ρ m)) (compare i j) (i ∷ (j ∷ m)) (i ∷ (j ∷ m)) (j ∷ insert_var i m)
    refl (λ t. refl) (ap (λ x. ρ j *ℤ x) (insert_var_val ρ i m) ∙ *ℤ_left_comm (ρ j) (ρ i) (mono_val ρ m))

mul_mono_val : (ρ : ℕ → ℤ) (m n : Mono) → mono_val ρ (mul_mono m n) ≡ mono_val ρ m *ℤ mono_val ρ n
unfolding mono_val
mul_mono_val ρ [] n = sym (one_*ℤ (mono_val ρ n))
mul_mono_val ρ (i ∷ m) n =
    insert_var_val ρ i (mul_mono m n) ∙ ap (λ x. ρ i *ℤ x) (mul_mono_val ρ m n) ∙ sym (*ℤ_assoc (ρ i) (mono_val ρ m) (mono_val ρ n))

compare_vars_eq : (m n : Mono) → T (compare_is_eq (compare_vars m n)) → m ≡ n
compare_vars_eq [] [] t = refl
compare_vars_eq [] (j ∷ n) t = absurd t
compare_vars_eq (i ∷ m) [] t = absurd t
compare_vars_eq (i ∷ m) (j ∷ n) t =
    branch_ind (λ o. T (compare_is_eq o) → ◌≡◌ {A = Mono} (i ∷ m) (j ∷ n)) (compare i j) Ordering.lt (compare_vars m n) Ordering.gt
    (λ u. absurd u) (λ e u. ap₂ ◌∷◌ (eqb→eq i j e) (compare_vars_eq m n u)) (λ u. absurd u) t

compare_mono_eq : (m n : Mono) → T (compare_is_eq (compare_mono m n)) → m ≡ n
compare_mono_eq m n t =
    branch_ind (λ o. T (compare_is_eq o) → m ≡ n) (compare (length m) (length n)) Ordering.lt (compare_vars m n) Ordering.gt
    (λ u. absurd u) (λ e u. compare_vars_eq m n u) (λ u. absurd u) t

cons_val : (ρ : ℕ → ℤ) (c : ℤ) (m : Mono) (p : Poly) → poly_val ρ (cons c m p) ≡ c *ℤ mono_val ρ m +ℤ poly_val ρ p
unfolding poly_val
cons_val ρ (pos zero) m p = simp (zero-*ℤ, +ℤ_idl)
cons_val ρ (pos (suc n)) m p = refl
cons_val ρ (negsuc n) m p = refl

merge_val : (ρ : ℕ → ℤ) (c : ℤ) (m : Mono) (p : Poly) (f : Poly → Poly) → ((q : Poly) → poly_val ρ (f q) ≡ poly_val ρ p +ℤ poly_val ρ q) →
    (q : Poly) → poly_val ρ (merge c m p f q) ≡ c *ℤ mono_val ρ m +ℤ poly_val ρ p +ℤ poly_val ρ q
unfolding poly_val
merge_val ρ c m p f h none = sym (+ℤ_idr (c *ℤ mono_val ρ m +ℤ poly_val ρ p))
merge_val ρ c m p f h (term d n q) =
    branch_ind (λ x. poly_val ρ x ≡ c *ℤ mono_val ρ m +ℤ poly_val ρ p +ℤ (d *ℤ mono_val ρ n +ℤ poly_val ρ q)) (compare_mono m n)
    (term c m (f (term d n q))) (cons (c +ℤ d) m (f q)) (term d n (merge c m p f q))
    (ap (λ x. c *ℤ mono_val ρ m +ℤ x) (h (term d n q)) ∙ sym (+ℤ_assoc (c *ℤ mono_val ρ m) (poly_val ρ p) (d *ℤ mono_val ρ n +ℤ poly_val ρ q)))
    (λ t. cons_val ρ (c +ℤ d) m (f q)
    ∙ ap (λ x. (c +ℤ d) *ℤ mono_val ρ m +ℤ x) (h q)
    ∙ collect c d (mono_val ρ m) (poly_val ρ p) (poly_val ρ q)
    ∙ ap (λ x. c *ℤ mono_val ρ m +ℤ poly_val ρ p +ℤ (d *ℤ mono_val ρ x +ℤ poly_val ρ q)) (compare_mono_eq m n t))
    (ap (λ x. d *ℤ mono_val ρ n +ℤ x) (merge_val ρ c m p f h q) ∙ +ℤ_left_comm (d *ℤ mono_val ρ n) (c *ℤ mono_val ρ m +ℤ poly_val ρ p) (poly_val ρ q))
  where
    collect : (c d x y z : ℤ) → (c +ℤ d) *ℤ x +ℤ (y +ℤ z) ≡ c *ℤ x +ℤ y +ℤ (d *ℤ x +ℤ z)
    collect c d x y z = ap (λ w. w +ℤ (y +ℤ z)) (*ℤ_distribʳ c d x) ∙ +ℤ_interchange (c *ℤ x) (d *ℤ x) y z

add_poly_val : (ρ : ℕ → ℤ) (p q : Poly) → poly_val ρ (add_poly p q) ≡ poly_val ρ p +ℤ poly_val ρ q
unfolding poly_val
add_poly_val ρ none q = sym (+ℤ_idl (poly_val ρ q))
add_poly_val ρ (term c m p) q = merge_val ρ c m p (add_poly p) (add_poly_val ρ p) q

mul_term_val : (ρ : ℕ → ℤ) (c : ℤ) (m : Mono) (p : Poly) → poly_val ρ (mul_term c m p) ≡ c *ℤ mono_val ρ m *ℤ poly_val ρ p
unfolding poly_val
mul_term_val ρ c m none = sym (*ℤ-zero (c *ℤ mono_val ρ m))
mul_term_val ρ c m (term d n p) =
    ap₂ (λ x y. c *ℤ d *ℤ x +ℤ y) (mul_mono_val ρ m n) (mul_term_val ρ c m p)
    ∙ (ap (λ x. x +ℤ c *ℤ mono_val ρ m *ℤ poly_val ρ p) (*ℤ_interchange c d (mono_val ρ m) (mono_val ρ n))
    ∙ sym (*ℤ_distribˡ (c *ℤ mono_val ρ m) (d *ℤ mono_val ρ n) (poly_val ρ p)))

mul_poly_val : (ρ : ℕ → ℤ) (p q : Poly) → poly_val ρ (mul_poly p q) ≡ poly_val ρ p *ℤ poly_val ρ q
unfolding poly_val
mul_poly_val ρ none q = sym (zero-*ℤ (poly_val ρ q))
mul_poly_val ρ (term c m p) q =
    add_poly_val ρ (mul_term c m q) (mul_poly p q)
    ∙ ap₂ ◌+ℤ◌ (mul_term_val ρ c m q) (mul_poly_val ρ p q)
    ∙ sym (*ℤ_distribʳ (c *ℤ mono_val ρ m) (poly_val ρ p) (poly_val ρ q))

-- a constant
constant_val : (a : ℤ) → a *ℤ pos 1 +ℤ pos 0 ≡ a
constant_val = diff₁ _ λ p q. simp diffs (omega arith)

normal_val : (ρ : ℕ → ℤ) (e : Expr) → poly_val ρ (normal e) ≡ ⟦ e ⟧ ρ
unfolding poly_val mono_val ⟦◌⟧
normal_val ρ (var i) = variable (ρ i)
  where
    variable : (a : ℤ) → pos 1 *ℤ (a *ℤ pos 1) +ℤ pos 0 ≡ a
    variable = diff₁ _ λ p q. simp diffs (omega arith)
normal_val ρ (lit n) = cons_val ρ (pos n) [] none ∙ constant_val (pos n)
normal_val ρ (neglit n) = constant_val (negsuc n)
normal_val ρ (neg e) =
    mul_term_val ρ (negsuc 0) [] (normal e) ∙ ap (λ x. negsuc 0 *ℤ pos 1 *ℤ x) (normal_val ρ e) ∙ minus (⟦ e ⟧ ρ)
  where
    minus : (a : ℤ) → negsuc 0 *ℤ pos 1 *ℤ a ≡ neg_ℤ a
    minus = diff₁ _ λ p q. simp diffs (omega arith)
normal_val ρ (e ⊕ f) = add_poly_val ρ (normal e) (normal f) ∙ ap₂ ◌+ℤ◌ (normal_val ρ e) (normal_val ρ f)
normal_val ρ (e ⊗ f) = mul_poly_val ρ (normal e) (normal f) ∙ ap₂ ◌*ℤ◌ (normal_val ρ e) (normal_val ρ f)

-- two normal forms are one
abbrev pub same_coef : ℤ → ℤ → Bool
same_coef (pos a) (pos b) = eqb a b
same_coef (pos a) (negsuc b) = false
same_coef (negsuc a) (pos b) = false
same_coef (negsuc a) (negsuc b) = eqb a b

abbrev pub same_poly : Poly → Poly → Bool
same_poly none none = true
same_poly none (term d n q) = false
same_poly (term c m p) none = false
same_poly (term c m p) (term d n q) =
    let r = same_poly p q in
    let s = cond (compare_is_eq (compare_mono m n)) r false in
    cond (same_coef c d) s false

same_coef_eq : (c d : ℤ) → T (same_coef c d) → c ≡ d
same_coef_eq (pos a) (pos b) t = ap pos (eqb→eq a b t)
same_coef_eq (pos a) (negsuc b) t = absurd t
same_coef_eq (negsuc a) (pos b) t = absurd t
same_coef_eq (negsuc a) (negsuc b) t = ap negsuc (eqb→eq a b t)

both : (b c : Bool) → T (cond b c false) → T b × T c
both true c t = (tt, t)
both false c t = absurd t

same_poly_eq : (p q : Poly) → T (same_poly p q) → p ≡ q
same_poly_eq none none t = refl
same_poly_eq none (term d n q) t = absurd t
same_poly_eq (term c m p) none t = absurd t
same_poly_eq (term c m p) (term d n q) t =
    let (u, v) = both (same_coef c d) (cond (compare_is_eq (compare_mono m n)) (same_poly p q) false) t in
    let (w, z) = both (compare_is_eq (compare_mono m n)) (same_poly p q) v in
    ap₃ term (same_coef_eq c d u) (compare_mono_eq m n w) (same_poly_eq p q z)
  where
    ap₃ : (f : ℤ → Mono → Poly → Poly) {a b : ℤ} {m n : Mono} {p q : Poly} → a ≡ b → m ≡ n → p ≡ q → f a m p ≡ f b n q
    ap₃ f x y z = λ i. f (x i) (y i) (z i)

pub ring : (e f : Expr) (ρ : ℕ → ℤ) → T (same_poly (normal e) (normal f)) → ⟦ e ⟧ ρ ≡ ⟦ f ⟧ ρ
ring e f ρ t = sym (normal_val ρ e) ∙ ap (poly_val ρ) (same_poly_eq (normal e) (normal f) t) ∙ normal_val ρ f

-- ---- reading an expression off a goal: `quote` turns each side into some `⟦ e ⟧ ρ`

pub quote_neg : (e : Expr) (ρ : ℕ → ℤ) → neg_ℤ (⟦ e ⟧ ρ) ≡ ⟦ neg e ⟧ ρ
unfolding ⟦◌⟧
quote_neg e ρ = refl

pub quote_+ : (e f : Expr) (ρ : ℕ → ℤ) → ⟦ e ⟧ ρ +ℤ ⟦ f ⟧ ρ ≡ ⟦ e ⊕ f ⟧ ρ
unfolding ⟦◌⟧
quote_+ e f ρ = refl

pub quote_* : (e f : Expr) (ρ : ℕ → ℤ) → ⟦ e ⟧ ρ *ℤ ⟦ f ⟧ ρ ≡ ⟦ e ⊗ f ⟧ ρ
unfolding ⟦◌⟧
quote_* e f ρ = refl

pub quote_pos : (ρ : ℕ → ℤ) (n : ℕ) → pos n ≡ ⟦ lit n ⟧ ρ
unfolding ⟦◌⟧
quote_pos ρ n = refl

pub quote_negsuc : (ρ : ℕ → ℤ) (n : ℕ) → negsuc n ≡ ⟦ neglit n ⟧ ρ
unfolding ⟦◌⟧
quote_negsuc ρ n = refl

pub ruleset quote = (quote_neg, quote_+, quote_*, quote_pos, quote_negsuc)

index : List ℤ → ℕ → ℤ
index [] i = pos 0
index (a ∷ xs) zero = a
index (a ∷ xs) (suc i) = index xs i

-- the atoms are the values of the variables k, k + 1, ..
abbrev pub Atoms : (ℕ → ℤ) → ℕ → List ℤ → Type 0 → Type 0
Atoms ρ k [] G = G
Atoms ρ k (a ∷ xs) G = a ≡ ⟦ var k ⟧ ρ → Atoms ρ (suc k) xs G

name : (ρ : ℕ → ℤ) (k : ℕ) (xs : List ℤ) (G : Type 0) → ((i : ℕ) → index xs i ≡ ρ (k + i)) → Atoms ρ k xs G → G
unfolding index ⟦◌⟧
name ρ k [] G h f = f
name ρ k (a ∷ xs) G h f = name ρ (suc k) xs G (λ i. h (suc i) ∙ ap ρ (shift i)) (f (h 0 ∙ ap ρ (here k)))
  where
    shift : (i : ℕ) → k + suc i ≡ suc k + i
    shift i = omega arith

    here : (k : ℕ) → k + 0 ≡ k
    here k = omega arith

pub atoms : (xs : List ℤ) {G : Type 0} → ((ρ : ℕ → ℤ) → Atoms ρ 0 xs G) → G
atoms xs {G} f = name (index xs) 0 xs G (λ i. ap (index xs) (sym (zero i))) (f (index xs))
  where
    zero : (i : ℕ) → 0 + i ≡ i
    zero i = omega arith
