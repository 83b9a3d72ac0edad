-- The laws of sets, for all masks and all choices together: no width stands in a statement.
use mathlib.Core.Path.{◌≡◌, refl, sym, ◌∙◌, ap, subst}
use mathlib.Core.Logic.{◌↔◌}
use mathlib.Core.Bool.{Bool, true, false, cond, ◌&&◌, ◌||◌, not}
use Prim.Native.Nat.{ℕ, zero, suc, ◌+◌, ◌*◌, ◌/◌, ◌%◌, ◌^◌, max, ◌≤◌, ◌<◌}
use native.Mathlib.Nat.{pow-suc, pow-succ', div-div-eq-div-mul, div-one, zero-div, one-le-pow, zero-lt-suc}
use native.Mathlib.Omega.{arith}
use native.Mathlib.Decide.{dec_lt, ℕ_discrete}
use lib.Arith.{bin_ind, mod-mul}
use lib.Dec.{T, eqb, eqb→eq, eqb_refl, T_not}
use lib.Bits.{bit_and, bit_or, and_step, or_step, or_shr, and_zero_r, or_add_and, and_le_l, and_le_r}
use borrow.Author.Tests.{ne_eqb}
use Rattle.integers.proofs.Lists.{T_and, T_true, T_ext}
use Rattle.sets.specs.Sets.{is_member, is_subset, is_proper_subset, ProperSubset, set_of}

-- ---- membership

pub member_is : (i m : ℕ) → T (is_member i m) ↔ (m / 2 ^ i % 2 ≡ 1)
unfolding is_member
member_is i m = (eqb→eq (m / 2 ^ i % 2) 1, (λ e. rw e tt))

pub member_zero : (m : ℕ) → T (is_member 0 m) ↔ (m % 2 ≡ 1)
member_zero m = rw div-one at (member_is 0 m)

pub member_suc : (i m : ℕ) → is_member (suc i) m ≡ is_member i (m / 2)
unfolding is_member
member_suc i m = rw (div-div-eq-div-mul, pow-succ')

-- the lowest n bits have the members below n
bit_digits : (n m : ℕ) → m % 2 ^ suc n ≡ m / 2 % 2 ^ n * 2 + m % 2
bit_digits n m = rw pow-suc (mod-mul m (one-le-pow n 2 (zero-lt-suc 1)) (zero-lt-suc 1))

pub member_mod : (n i m : ℕ) → i < n → is_member i (m % 2 ^ n) ≡ is_member i m
member_mod zero i m l = absurd (omega arith)
member_mod (suc n) zero m l =
    let e : m % 2 ^ suc n % 2 ≡ m % 2 = omega (arith, bit_digits n m) in
    T_ext _ _ ((λ t. (member_zero m).1 (sym e ∙ (member_zero (m % 2 ^ suc n)).0 t)), (λ t. (member_zero (m % 2 ^ suc n)).1 (e ∙ (member_zero m).0 t)))
member_mod (suc n) (suc i) m l =
    let e : m % 2 ^ suc n / 2 ≡ m / 2 % 2 ^ n = omega (arith, bit_digits n m) in
    member_suc i (m % 2 ^ suc n) ∙ ap (is_member i) e ∙ member_mod n i (m / 2) (omega arith) ∙ sym (member_suc i m)

pub member_or : (i a b : ℕ) → is_member i (bit_or a b) ≡ (is_member i a || is_member i b)
unfolding is_member
member_or i a b = rw or_shr (digit (a / 2 ^ i) (b / 2 ^ i))
  where
    either : (p q : ℕ) → p < 2 → q < 2 → eqb (max p q) 1 ≡ (eqb p 1 || eqb q 1)
    either zero zero h k = refl
    either zero (suc zero) h k = refl
    either zero (suc (suc q)) h k = absurd (omega arith)
    either (suc zero) zero h k = refl
    either (suc zero) (suc zero) h k = refl
    either (suc zero) (suc (suc q)) h k = absurd (omega arith)
    either (suc (suc p)) q h k = absurd (omega arith)

    digit : (x y : ℕ) → eqb (bit_or x y % 2) 1 ≡ (eqb (x % 2) 1 || eqb (y % 2) 1)
    digit x y =
        let e : bit_or x y % 2 ≡ max (x % 2) (y % 2) = omega (arith, or_step x y) in
        rw e (either (x % 2) (y % 2) (omega arith) (omega arith))

-- the empty set has no member, and it alone
pub member_empty : (i : ℕ) → is_member i 0 ≡ false
unfolding is_member
member_empty i = rw zero-div

pub none_empty : (m : ℕ) → ((i : ℕ) → is_member i m ≡ false) → m ≡ 0
none_empty = bin_ind _ (λ h. refl) step
  where
    step : (m : ℕ) → (((i : ℕ) → is_member i (m / 2) ≡ false) → m / 2 ≡ 0) → ((i : ℕ) → is_member i m ≡ false) → m ≡ 0
    step m ih h =
        let e = ih (λ i. sym (member_suc i m) ∙ h (suc i)) in
        let d : m % 2 ≡ 1 → ⊥ = λ o. subst T (h 0) ((member_zero m).1 o) in
        omega (arith, d)

digit : (a b : ℕ) → is_member 0 a ≡ is_member 0 b → a % 2 ≡ b % 2
digit a b e = go (ℕ_discrete (a % 2) 1) (ℕ_discrete (b % 2) 1)
  where
    go : Dec (a % 2 ≡ 1) → Dec (b % 2 ≡ 1) → a % 2 ≡ b % 2
    go (yes x) (yes y) = x ∙ sym y
    go (yes x) (no y) = absurd (y ((member_zero b).0 (subst T e ((member_zero a).1 x))))
    go (no x) (yes y) = absurd (x ((member_zero a).0 (subst T (sym e) ((member_zero b).1 y))))
    go (no x) (no y) = omega arith

-- sets with the same members are one
pub same_members : (a b : ℕ) → ((i : ℕ) → is_member i a ≡ is_member i b) → a ≡ b
same_members = bin_ind _ (λ b h. sym (none_empty b (λ i. sym (h i) ∙ member_empty i))) step
  where
    step : (a : ℕ) → ((b : ℕ) → ((i : ℕ) → is_member i (a / 2) ≡ is_member i b) → a / 2 ≡ b) → (b : ℕ) → ((i : ℕ) → is_member i a ≡ is_member i b) → a ≡ b
    step a ih b h =
        let e = ih (b / 2) (λ i. sym (member_suc i a) ∙ h (suc i) ∙ member_suc i b) in
        let d = digit a b (h 0) in
        omega arith

-- ---- subsets

pub subset_is : (a b : ℕ) → T (is_subset a b) ↔ (bit_and b a ≡ a)
unfolding is_subset
subset_is a b = (eqb→eq (bit_and b a) a, (λ e. rw e (eqb_refl a)))

-- by the lowest digit and the others
subset_step : (a b : ℕ) → T (is_subset a b) ↔ (T (is_subset (a / 2) (b / 2)) × (a % 2 ≤ b % 2))
subset_step a b = simp subset_is (
  (λ e. (omega (arith, and_step b a), omega (arith, and_step b a))),
  (λ h. omega (arith, and_step b a, h.0, h.1)),
)

-- a union is within a set when both sets are
pub subset_or : (a b c : ℕ) → is_subset (bit_or a b) c ≡ (is_subset a c && is_subset b c)
subset_or a b c = T_ext _ _ (simp T_and (both c a b))
  where
    half : (a b : ℕ) → bit_or a b / 2 ≡ bit_or (a / 2) (b / 2)
    half a b = omega (arith, or_step a b)

    base : (a b : ℕ) → T (is_subset (bit_or a b) 0) ↔ (T (is_subset a 0) × T (is_subset b 0))
    base a b = simp subset_is (
      (λ e. (omega (arith, or_add_and a b, and_le_r a b), omega (arith, or_add_and a b, and_le_l a b))),
      (λ h. omega (arith, or_add_and a b, h.0, h.1)),
    )

    step : (c : ℕ) → ((a b : ℕ) → T (is_subset (bit_or a b) (c / 2)) ↔ (T (is_subset a (c / 2)) × T (is_subset b (c / 2)))) →
        (a b : ℕ) → T (is_subset (bit_or a b) c) ↔ (T (is_subset a c) × T (is_subset b c))
    step c ih a b = (
      (λ e.
          let d = (subset_step (bit_or a b) c).0 e in
          let h = (ih (a / 2) (b / 2)).0 (rw (half a b) at d.0) in (
            (subset_step a c).1 (h.0, omega (arith, or_step a b, d.1)),
            (subset_step b c).1 (h.1, omega (arith, or_step a b, d.1)),
          )),
      (λ h.
          let x = (subset_step a c).0 h.0 in
          let y = (subset_step b c).0 h.1 in
          (subset_step (bit_or a b) c).1 (
            rw (half a b) ((ih (a / 2) (b / 2)).1 (x.0, y.0)),
            omega (arith, or_step a b, x.1, y.1),
          )),
    )

    both : (c a b : ℕ) → T (is_subset (bit_or a b) c) ↔ (T (is_subset a c) × T (is_subset b c))
    both = bin_ind _ base step

-- a set within another is no more than a part of the union
pub subset_union : (a b : ℕ) → T (is_subset a b) ↔ (bit_or b a ≡ b)
subset_union a b = simp subset_is (
  (λ e. omega (arith, or_add_and b a)),
  (λ e. omega (arith, or_add_and b a)),
)

-- by members
pub subset_members : (a b : ℕ) → T (is_subset a b) ↔ ((i : ℕ) → T (is_member i a) → T (is_member i b))
subset_members a b = (
  (λ h i m. subst T (ap (is_member i) ((subset_union a b).0 h)) (subst T (sym (member_or i b a)) (right (is_member i b) (is_member i a) m))),
  (λ h. (subset_union a b).1 (same_members (bit_or b a) b (λ i. member_or i b a ∙ absorbed (is_member i b) (is_member i a) (h i)))),
)
  where
    right : (x y : Bool) → T y → T (x || y)
    right true y t = tt
    right false y t = t

    absorbed : (x y : Bool) → (T y → T x) → (x || y) ≡ x
    absorbed true y f = refl
    absorbed false true f = absurd (f tt)
    absorbed false false f = refl

-- a proper subset adds nothing to the set
pub proper_union : (a b : ℕ) → T (is_proper_subset a b) → bit_or b a ≡ b
unfolding is_proper_subset
proper_union a b t = (subset_union a b).0 ((T_and (is_subset a b) (not (eqb a b))).0 t).0

-- and is not the set
pub proper_other : (a b : ℕ) → T (is_proper_subset a b) → a ≡ b → ⊥
unfolding is_proper_subset
proper_other a b t e = T_not (eqb a b) ((T_and (is_subset a b) (not (eqb a b))).0 t).1 (rw e (eqb_refl b))

-- the test of a proper subset is the condition on members
pub proper_iff : (a b : ℕ) → T (is_proper_subset a b) ↔ ProperSubset a b
unfolding is_proper_subset
proper_iff a b = (
  (λ t. ((subset_members a b).0 ((T_and (is_subset a b) (not (eqb a b))).0 t).0, proper_other a b t)),
  (λ h. (T_and (is_subset a b) (not (eqb a b))).1 ((subset_members a b).1 h.0, (T_true (not (eqb a b))).1 (rw (ne_eqb a b h.1)))),
)

-- ---- one choice, and the choices below n

pub subset_one : (i m : ℕ) → is_subset (2 ^ i) m ≡ is_member i m
subset_one i m = T_ext _ _ (go i m)
  where
    go : (i m : ℕ) → T (is_subset (2 ^ i) m) ↔ T (is_member i m)
    go zero m = (
      (λ h. (member_zero m).1 (omega (arith, ((subset_step 1 m).0 h).1))),
      (λ h. (subset_step 1 m).1 ((subset_is 0 (m / 2)).1 (and_zero_r (m / 2)), omega (arith, (member_zero m).0 h))),
    )
    go (suc i) m =
        let e : 2 ^ suc i / 2 ≡ 2 ^ i = omega (arith, pow-suc 2 i) in (
          (λ h. subst T (sym (member_suc i m)) ((go i (m / 2)).0 (rw e at ((subset_step (2 ^ suc i) m).0 h).0))),
          (λ h. (subset_step (2 ^ suc i) m).1 (rw e ((go i (m / 2)).1 (subst T (member_suc i m) h)), omega (arith, pow-suc 2 i))),
        )

-- the members of a set below 2 ^ n are below n
pub member_below : (n i m : ℕ) → m < 2 ^ n → T (is_member i m) → i < n
member_below zero i m l h = let e : m ≡ 0 = omega arith in absurd (subst T (ap (is_member i) e ∙ member_empty i) h)
member_below (suc n) zero m l h = omega arith
member_below (suc n) (suc i) m l h =
    omega (arith, member_below n i (m / 2) (omega (arith, pow-suc 2 n)) (subst T (member_suc i m) h))

-- ---- the set that a test gives

pub set_of_below : (n : ℕ) (f : ℕ → Bool) → set_of n f < 2 ^ n
unfolding set_of
set_of_below zero f = omega arith
set_of_below (suc n) f = step (f 0) _ (set_of_below n (λ i. f (suc i)))
  where
    step : (b : Bool) (q : ℕ) → q < 2 ^ n → q * 2 + cond b 1 0 < 2 ^ suc n
    step true q l = omega (arith, pow-suc 2 n)
    step false q l = omega (arith, pow-suc 2 n)

-- it has just the choices that pass
pub member_set_of : (n : ℕ) (f : ℕ → Bool) (i : ℕ) → i < n → is_member i (set_of n f) ≡ f i
unfolding set_of
member_set_of zero f i l = absurd (omega arith)
member_set_of (suc n) f zero l = low (f 0) (set_of n (λ i. f (suc i)))
  where
    low : (b : Bool) (q : ℕ) → is_member 0 (q * 2 + cond b 1 0) ≡ b
    low true q = T_ext _ _ ((λ t. tt), (λ t. (member_zero (q * 2 + 1)).1 (omega arith)))
    low false q = T_ext _ _ ((λ t. omega (arith, (member_zero (q * 2 + 0)).0 t)), (λ t. absurd t))
member_set_of (suc n) f (suc i) l =
    member_suc i _ ∙ ap (is_member i) (half (f 0) (set_of n (λ i. f (suc i)))) ∙ member_set_of n (λ i. f (suc i)) i (omega arith)
  where
    half : (b : Bool) (q : ℕ) → (q * 2 + cond b 1 0) / 2 ≡ q
    half true q = omega arith
    half false q = omega arith

-- a set of choices below n is that of its members
pub set_of_members : (n : ℕ) (f : ℕ → Bool) (m : ℕ) → m < 2 ^ n → ((i : ℕ) → i < n → f i ≡ is_member i m) → set_of n f ≡ m
set_of_members n f m l h = same_members (set_of n f) m (λ i. go i (dec_lt i n))
  where
    past : (m : ℕ) → m < 2 ^ n → (i : ℕ) → n ≤ i → is_member i m ≡ false
    past m l i k = T_ext _ _ ((λ t. omega (arith, member_below n i m l t)), (λ t. absurd t))

    go : (i : ℕ) → Dec (i < n) → is_member i (set_of n f) ≡ is_member i m
    go i (yes k) = member_set_of n f i k ∙ h i k
    go i (no k) = past (set_of n f) (set_of_below n f) i (omega arith) ∙ sym (past m l i (omega arith))
