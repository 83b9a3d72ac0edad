-- The mask of a term of the costliest register: as a number, which choices it names, and how many.
use Prim.Native.Nat.{ℕ, zero, suc, ◌+◌, ◌*◌, ◌-◌, ◌^◌, min, ◌≤◌, ◌<◌}
use native.Mathlib.Nat.{pow-suc, mul-le-mul, mul-lt-mul_of_pos_left, zero-add}
use native.Mathlib.Omega.{arith}
use native.Mathlib.Decide.{dec_lt, dec_le}
use mathlib.Core.Path.{◌≡◌, refl, ◌∙◌, ap, ap₂, subst}
use mathlib.Core.Logic.{◌↔◌}
use mathlib.Core.Bool.{Bool, false, cond, ◌&&◌}
use mathlib.Core.List.{[], ◌∷◌}
use lib.Dec.{T, leb, ltb, leb→le, le→leb, leb-zero, leb-suc-suc}
use lib.ListN.{length, length-append}
use lib.Pow.{pow_pos, pow_mono, pow-lt}
use borrow.Author.Tests.{lt-ltb, le-ltb, le-leb, lt-leb}
use Rattle.integers.specs.Lists.{join_below}
use Rattle.integers.proofs.Lists.{T_and}
use Rattle.sets.specs.Sets.{is_member, set_of}
use Rattle.sets.proofs.Sets.{set_of_below, member_set_of, member_below}
use Rattle.builder.specs.Builder.{choices_of}
use Rattle.counting.specs.Counting.{named, Disjoint}
use Rattle.costliest.specs.Costliest.{names, term_mask}

-- ---- as a number

set_of_cong : (n : ℕ) (f g : ℕ → Bool) → ((i : ℕ) → f i ≡ g i) → set_of n f ≡ set_of n g
unfolding set_of
set_of_cong zero f g h = refl
set_of_cong (suc n) f g h = rw (set_of_cong n (λ i. f (suc i)) (λ i. g (suc i)) (λ i. h (suc i)), h 0)

set_of_none : (n : ℕ) → set_of n (λ i. false) ≡ 0
unfolding set_of
set_of_none zero = refl
set_of_none (suc n) = rw (set_of_none n)

-- the choices below d
ones : (d n : ℕ) → d ≤ n → set_of n (λ i. ltb i d) ≡ 2 ^ d - 1
unfolding set_of
ones zero n l = set_of_cong n _ _ (λ i. le-ltb i 0 (omega arith)) ∙ set_of_none n
ones (suc d) zero l = absurd (omega arith)
ones (suc d) (suc n) l =
    rw (set_of_cong n (λ i. ltb (suc i) (suc d)) (λ i. ltb i d) (λ i. leb-suc-suc (suc i) d), ones d n (omega arith), lt-ltb 0 (suc d) (omega arith))
    (omega (arith, pow-suc 2 d, pow_pos d))

-- those from a on
shifted : (a n d : ℕ) → set_of (a + n) (λ i. leb a i && ltb i (a + d)) ≡ set_of n (λ i. ltb i d) * 2 ^ a
unfolding set_of
shifted zero n d =
    rw (zero-add n)
    (set_of_cong n (λ i. leb 0 i && ltb i (0 + d)) (λ i. ltb i d) (λ i. rw (leb-zero i, zero-add d)) ∙ omega arith)
shifted (suc a) n d = rw plus (ap₂ (λ x y. x * 2 + cond y 1 0) (set_of_cong (a + n) _ _ up ∙ shifted a n d) none ∙ twice (set_of n (λ i. ltb i d)))
  where
    twice : (x : ℕ) → x * 2 ^ a * 2 + 0 ≡ x * 2 ^ suc a
    twice x = rw (pow-suc 2 a) (omega arith)

    plus : suc a + n ≡ suc (a + n)
    plus = omega arith

    up : (i : ℕ) → (leb (suc a) (suc i) && ltb (suc i) (suc a + d)) ≡ (leb a i && ltb i (a + d))
    up i = let e : suc a + d ≡ suc (a + d) = omega arith in rw (leb-suc-suc a i, e, leb-suc-suc (suc i) (a + d))

    none : (leb (suc a) 0 && ltb 0 (suc a + d)) ≡ false
    none = rw (lt-leb (suc a) 0 (omega arith))

-- the last choice of a run of d is the one before the next run
last_below : (a d i : ℕ) → 1 ≤ d → leb i (a + d - 1) ≡ ltb i (a + d)
last_below a d i some = go (dec_lt i (a + d))
  where
    go : Dec (i < a + d) → leb i (a + d - 1) ≡ ltb i (a + d)
    go (yes l) = rw (le-leb i (a + d - 1) (omega arith), lt-ltb i (a + d) l)
    go (no l) = rw (lt-leb i (a + d - 1) (omega arith), le-ltb i (a + d) (omega arith))

-- the choices of term t are there
pub run_inside : (m d t : ℕ) → t < m → t * d + d ≤ m * d
run_inside m d t l = let h : suc t * d ≤ m * d = mul-le-mul l (omega arith) in omega arith

pub mask_number : (m d t : ℕ) → t < m → 1 ≤ d → term_mask m d t ≡ (2 ^ d - 1) * 2 ^ (t * d)
unfolding term_mask
mask_number m d t l some =
    set_of_cong (m * d) (names d t) (λ i. leb (t * d) i && ltb i (t * d + d)) (λ i. ap (λ x. leb (t * d) i && x) (last_below (t * d) d i some))
    ∙ rw whole (shifted (t * d) (m * d - t * d) d ∙ ap (λ x. x * 2 ^ (t * d)) (ones d (m * d - t * d) (omega (arith, run_inside m d t l))))
  where
    whole : m * d ≡ t * d + (m * d - t * d)
    whole = omega (arith, run_inside m d t l)

pub mask_below : (m d t : ℕ) → term_mask m d t < 2 ^ (m * d)
unfolding term_mask
mask_below m d t = set_of_below (m * d) (names d t)

-- ---- which choices it names, and how many

module _ (m d : ℕ) (some : 1 ≤ d) where
  pub mask_names : (t : ℕ) → t < m → (i : ℕ) → T (is_member i (term_mask m d t)) ↔ ((t * d ≤ i) × (i ≤ t * d + d - 1))
  unfolding term_mask
  mask_names t l i = (to, λ h. rw (member_set_of (m * d) (names d t) i (omega (arith, h.1, run_inside m d t l))) ((T_and (leb (t * d) i) (leb i (t * d + d - 1))).1 (le→leb _ _ h.0, le→leb _ _ h.1)))
    where
      to : T (is_member i (set_of (m * d) (names d t))) → (t * d ≤ i) × (i ≤ t * d + d - 1)
      to h =
          let b : i < m * d = member_below (m * d) i (set_of (m * d) (names d t)) (set_of_below (m * d) (names d t)) h in
          let k = (T_and (leb (t * d) i) (leb i (t * d + d - 1))).0 (subst T (member_set_of (m * d) (names d t) i b) h) in
          (leb→le _ _ k.0, leb→le _ _ k.1)

  -- two terms share none
  pub masks_disjoint : (t u : ℕ) → t < u → u < m → Disjoint (term_mask m d t) (term_mask m d u)
  masks_disjoint t u l k i a b =
      let h : suc t * d ≤ u * d = mul-le-mul l (omega arith) in
      omega (arith, ((mask_names t (omega arith) i).0 a).1, ((mask_names u k i).0 b).0)

  -- of the first k choices
  named_below : (t : ℕ) → t < m → (k : ℕ) → k ≤ m * d → named k (term_mask m d t) ≡ min k (t * d + d) - min k (t * d)
  unfolding choices_of join_below term_mask
  named_below t l zero h = omega arith
  named_below t l (suc k) h =
      length-append (choices_of k (term_mask m d t)) _
      ∙ rw (named_below t l k (omega arith), member_set_of (m * d) (names d t) k h) (go (dec_le (t * d) k) (dec_lt k (t * d + d)))
    where
      go : Dec (t * d ≤ k) → Dec (k < t * d + d) → min k (t * d + d) - min k (t * d) + length (cond (names d t k) (k ∷ []) []) ≡ min (suc k) (t * d + d) - min (suc k) (t * d)
      go (yes a) (yes b) = rw (le-leb (t * d) k a, le-leb k (t * d + d - 1) (omega arith)) (omega arith)
      go (yes a) (no b) = rw (le-leb (t * d) k a, lt-leb k (t * d + d - 1) (omega arith)) (omega arith)
      go (no a) b = rw (lt-leb (t * d) k (omega arith)) (omega arith)

  pub mask_degree : (t : ℕ) → t < m → named (m * d) (term_mask m d t) ≡ d
  mask_degree t l = named_below t l (m * d) (omega arith) ∙ omega (arith, run_inside m d t l)

  -- ---- as numbers: none is 0, and they rise

  pub mask_some : (t : ℕ) → t < m → 1 ≤ term_mask m d t
  mask_some t l = rw (mask_number m d t l some) (mul-le-mul {n₁ = 1} {m₁ = 1} (omega (arith, pow_mono some)) (pow_pos (t * d)))

  pub masks_rise : (t : ℕ) → suc t < m → term_mask m d t < term_mask m d (suc t)
  masks_rise t l = rw (mask_number m d t (omega arith) some, mask_number m d (suc t) l some) (mul-lt-mul_of_pos_left up (omega (arith, pow_mono some)))
    where
      up : 2 ^ (t * d) < 2 ^ (suc t * d)
      up = pow-lt (omega arith)
