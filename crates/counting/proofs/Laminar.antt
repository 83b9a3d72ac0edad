-- Sets within the set of a member of a list. Where members share no choice, the union of two of them is within no member's set.
use mathlib.Core.Path.{◌≡◌, refl, subst}
use mathlib.Core.Logic.{◌⊎◌, inl, inr, ⊎_elim}
use mathlib.Core.Bool.{Bool, true, false, cond}
use mathlib.Core.List.{List, [], ◌∷◌, ◌++◌}
use Prim.Native.Nat.{ℕ, zero, suc, ◌+◌, ◌≤◌, ◌<◌}
use native.Mathlib.Omega.{arith}
use native.Mathlib.Decide.{ℕ_discrete}
use lib.Bits.{bit_or}
use lib.Dec.{T}
use Rattle.integers.specs.Lists.{All, join_below}
use Rattle.integers.proofs.Lists.{T_or, T_true, flag}
use Rattle.sets.specs.Sets.{is_member, is_subset}
use Rattle.sets.proofs.Sets.{member_or, none_empty, subset_members}
use Rattle.builder.specs.Builder.{choices_of}
use Rattle.builder.proofs.Covers.{held, held_append}
use Rattle.builder.proofs.Holds.{bit_small}
use Rattle.counting.specs.Counting.{Disjoint}

-- ---- sets

-- every set is within itself
pub subset_refl : (a : ℕ) → T (is_subset a a)
subset_refl a = (subset_members a a).1 (λ i t. t)

-- two sets are within their union

pub union_left : (a b : ℕ) → T (is_subset a (bit_or a b))
union_left a b = (subset_members a (bit_or a b)).1 (λ i t. rw member_or ((T_or (is_member i a) (is_member i b)).1 (inl t)))

pub union_right : (a b : ℕ) → T (is_subset b (bit_or a b))
union_right a b = (subset_members b (bit_or a b)).1 (λ i t. rw member_or ((T_or (is_member i a) (is_member i b)).1 (inr t)))

-- a set that has no member is empty
no_member : (e : ℕ) → ((i : ℕ) → T (is_member i e) → ⊥) → e ≡ 0
no_member e f = none_empty e (λ i. flag (is_member i e) (λ t. absurd (f i ((T_true _).1 t))) (λ t. t))

-- a set within two that share no choice is empty
pub disjoint_empty : (a b e : ℕ) → Disjoint a b → T (is_subset e a) → T (is_subset e b) → e ≡ 0
disjoint_empty a b e d s t = no_member e (λ i k. d i ((subset_members e a).0 s i k) ((subset_members e b).0 t i k))

-- ---- a set within that of a member

-- of one member at least, by its set f v
abbrev pub WithinOne : (ℕ → ℕ) → ℕ → List ℕ → Type 0
WithinOne f e [] = ⊥
WithinOne f e (v ∷ l) = T (is_subset e (f v)) ⊎ WithinOne f e l

pub within_front : (f : ℕ → ℕ) (e : ℕ) (l r : List ℕ) → WithinOne f e l → WithinOne f e (l ++ r)
within_front f e [] r h = absurd h
within_front f e (v ∷ l) r (inl t) = inl t
within_front f e (v ∷ l) r (inr h) = inr (within_front f e l r h)

pub within_back : (f : ℕ → ℕ) (e : ℕ) (l r : List ℕ) → WithinOne f e r → WithinOne f e (l ++ r)
within_back f e [] r h = h
within_back f e (v ∷ l) r h = inr (within_back f e l r h)

pub within_append : (f : ℕ → ℕ) (e : ℕ) (l r : List ℕ) → WithinOne f e (l ++ r) → WithinOne f e l ⊎ WithinOne f e r
within_append f e [] r h = inr h
within_append f e (v ∷ l) r (inl t) = inl (inl t)
within_append f e (v ∷ l) r (inr h) = ⊎_elim (λ x. inl (inr x)) (λ x. inr x) (within_append f e l r h)

-- where the members have the same sets
pub within_same : (f g : ℕ → ℕ) (e n : ℕ) → ((v : ℕ) → v < n → f v ≡ g v) → (l : List ℕ) → All (λ v. v < n) l → WithinOne f e l → WithinOne g e l
within_same f g e n same [] i h = h
within_same f g e n same (v ∷ l) i (inl t) = inl (subst (λ x. T (is_subset e x)) (same v i.0) t)
within_same f g e n same (v ∷ l) i (inr h) = inr (within_same f g e n same l i.1 h)

-- ---- members that have a choice

-- the number that counts a member is 1 just where it has the choice

one_held : (x : Bool) → T x → ◌≡◌ {A = ℕ} (cond x 1 0) 1
one_held true t = refl
one_held false t = absurd t

held_one : (x : Bool) → 1 ≤ cond x 1 0 → T x
held_one true h = tt
held_one false h = absurd (omega arith)

-- a member has each choice of the set
within_held : (f : ℕ → ℕ) (e i : ℕ) (l : List ℕ) → WithinOne f e l → T (is_member i e) → 1 ≤ held f i l
within_held f e i [] h t = absurd h
within_held f e i (v ∷ l) (inl s) t = omega (arith, one_held (is_member i (f v)) ((subset_members e (f v)).0 s i t))
within_held f e i (v ∷ l) (inr h) t = omega (arith, within_held f e i l h t)

-- each choice of m is in the set of one member, and no other choice is in any
abbrev pub Covers : (ℕ → ℕ) → ℕ → List ℕ → Type 0
Covers f m l = (i : ℕ) → held f i l ≡ cond (is_member i m) 1 0

-- so the set is within m
pub within_covered : (f : ℕ → ℕ) (m e : ℕ) (l : List ℕ) → Covers f m l → WithinOne f e l → T (is_subset e m)
within_covered f m e l covers w = (subset_members e m).1 (λ i t. held_one (is_member i m) (omega (arith, covers i, within_held f e i l w t)))

-- ---- the union of two members

module _ (f : ℕ → ℕ) (m : ℕ) (front rest : List ℕ) (x y : ℕ) (covers : Covers f m (front ++ x ∷ y ∷ rest)) where
  abbrev union : ℕ
  union = bit_or (f x) (f y)

  -- one member has a choice, or none
  once : (i : ℕ) → held f i front + (cond (is_member i (f x)) 1 0 + (cond (is_member i (f y)) 1 0 + held f i rest)) ≤ 1
  once i = omega (arith, covers i, held_append f i front (x ∷ y ∷ rest), bit_small (is_member i m))

  -- where neither is empty, their union is within the set of no member
  module _ (some_left : f x ≡ 0 → ⊥) (some_right : f y ≡ 0 → ⊥) where
    -- members other than the first of the two do not have what that has
    by_left : ((i : ℕ) → T (is_member i union) → 1 ≤ held f i front + (cond (is_member i (f y)) 1 0 + held f i rest)) → ⊥
    by_left h = some_left (no_member (f x) (λ i t. omega (arith, once i, one_held (is_member i (f x)) t, h i ((subset_members (f x) union).0 (union_left (f x) (f y)) i t))))

    -- nor has the first what the second has
    by_right : T (is_subset union (f x)) → ⊥
    by_right s =
        some_right (no_member (f y) (λ i t.
        omega (arith, once i, one_held (is_member i (f y)) t, one_held (is_member i (f x)) ((subset_members union (f x)).0 s i ((subset_members (f y) union).0 (union_right (f x) (f y)) i t)))))

    pub union_within_none : WithinOne f union (front ++ x ∷ y ∷ rest) → ⊥
    union_within_none w = go (within_append f union front (x ∷ y ∷ rest) w)
      where
        go : WithinOne f union front ⊎ WithinOne f union (x ∷ y ∷ rest) → ⊥
        go (inl a) = by_left (λ i t. omega (arith, within_held f union i front a t))
        go (inr (inl s)) = by_right s
        go (inr (inr a)) = by_left (λ i t. omega (arith, within_held f union i (y ∷ rest) a t))

-- ---- the choices of a mask

-- each is in the list
pub choices_within : (f : ℕ → ℕ) (k m v : ℕ) → v < k → is_member v m ≡ true → WithinOne f (f v) (choices_of k m)
unfolding choices_of join_below
choices_within f zero m v l e = absurd (omega arith)
choices_within f (suc k) m v l e = go (ℕ_discrete v k) (choices_within f k m v)
  where
    go : Dec (v ≡ k) → (v < k → is_member v m ≡ true → WithinOne f (f v) (choices_of k m)) → WithinOne f (f v) (choices_of k m ++ cond (is_member k m) (k ∷ []) [])
    go (yes q) ih = within_back f (f v) (choices_of k m) _ (rw (← q, e) (inl (subset_refl (f v))))
    go (no q) ih = within_front f (f v) (choices_of k m) _ (ih (omega arith) e)
