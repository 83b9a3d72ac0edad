-- Lists one after the other: equal ones, lists of one length, and what is made of each element of a list.
use Prim.Native.Nat.{ℕ, zero, suc, ◌+◌, ◌*◌, ◌<◌}
use mathlib.Core.Path.{◌≡◌, refl, sym, ◌∙◌, ap, ap₂}
use mathlib.Core.List.{List, [], ◌∷◌, ◌++◌, append_assoc, append-nil, flat_map}
use native.Mathlib.Nat.{zero-mul, suc-mul}
use native.Mathlib.Omega.{arith}
use native.Mathlib.Decide.{dec_lt}
use lib.Arith.{digits_lt}
use lib.ListN.{length, get_or, length-append, get_or-append}
use lib.Seq.{get_or-append-add}
use Rattle.integers.specs.Lists.{join_below}

pub join_cong {ℓ} : {A : Type ℓ} (n : ℕ) (f g : ℕ → List A) → ((i : ℕ) → i < n → f i ≡ g i) → join_below n f ≡ join_below n g
unfolding join_below
join_cong zero f g h = refl
join_cong (suc n) f g h = ap₂ ◌++◌ (join_cong n f g (λ i l. h i (omega arith))) (h n (omega arith))

pub length_join {ℓ} : {A : Type ℓ} (n w : ℕ) (f : ℕ → List A) → ((i : ℕ) → length (f i) ≡ w) → length (join_below n f) ≡ n * w
unfolding join_below
length_join zero w f h = sym (zero-mul w)
length_join (suc n) w f h = length-append (join_below n f) (f n) ∙ ap₂ ◌+◌ (length_join n w f h) (h n) ∙ sym (suc-mul n w)

pub get_d_join {ℓ} : {A : Type ℓ} (n w : ℕ) (f : ℕ → List A) → ((i : ℕ) → length (f i) ≡ w) → (i j : ℕ) (d : A) → i < n → j < w → get_or (join_below n f) (i * w + j) d ≡ get_or (f i) j d
unfolding join_below
get_d_join zero w f h i j d l k = absurd (omega arith)
get_d_join (suc n) w f h i j d l k = go (λ m. get_d_join n w f h i j d m k) (dec_lt i n)
  where
    len : length (join_below n f) ≡ n * w
    len = length_join n w f h

    go : (i < n → get_or (join_below n f) (i * w + j) d ≡ get_or (f i) j d) → Dec (i < n) → get_or (join_below n f ++ f n) (i * w + j) d ≡ get_or (f i) j d
    go rec (yes m) = get_or-append (join_below n f) (f n) d (i * w + j) (rw len (digits_lt m k)) ∙ rec m
    go rec (no m) = let e : i ≡ n = omega arith in rw (e, ← len) (get_or-append-add (join_below n f) (f n) j d)

join_first : {A : Type 0} (n : ℕ) (f : ℕ → List A) → join_below (suc n) f ≡ f 0 ++ join_below n (λ i. f (suc i))
unfolding join_below
join_first zero f = sym (append-nil (f 0))
join_first (suc n) f = ap (λ l. l ++ f (suc n)) (join_first n f) ∙ append_assoc (f 0) (join_below n (λ i. f (suc i))) (f (suc n))

module _ {A : Type 0} {B : Type 0} (f : A → List B) where
  pub flat_map_append : (a b : List A) → flat_map f (a ++ b) ≡ flat_map f a ++ flat_map f b
  unfolding flat_map
  flat_map_append [] b = refl
  flat_map_append (x ∷ a) b = rw (flat_map_append a b, append_assoc)

  pub flat_map_join : (n : ℕ) (g : ℕ → List A) → flat_map f (join_below n g) ≡ join_below n (λ i. flat_map f (g i))
  unfolding flat_map join_below
  flat_map_join zero g = refl
  flat_map_join (suc n) g = flat_map_append (join_below n g) (g n) ∙ ap (λ l. l ++ flat_map f (g n)) (flat_map_join n g)

  -- element after element
  pub flat_map_below : (d : A) (xs : List A) → flat_map f xs ≡ join_below (length xs) (λ i. f (get_or xs i d))
  unfolding flat_map join_below
  flat_map_below d [] = refl
  flat_map_below d (x ∷ xs) = ap (λ l. f x ++ l) (flat_map_below d xs) ∙ sym (join_first (length xs) (λ i. f (get_or (x ∷ xs) i d)))
