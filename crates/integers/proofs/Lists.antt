-- Tests, bits and lists: what the laws of sums, forms and sets share.
use mathlib.Core.Path.{◌≡◌, refl, ◌∙◌}
use mathlib.Core.Logic.{◌↔◌, ◌⊎◌, inl, inr, ⊎_elim}
use mathlib.Core.Bool.{Bool, true, false, cond, ◌&&◌, ◌||◌, not, true≢false, false≢true}
use mathlib.Core.List.{List, [], ◌∷◌, ◌++◌}
use Prim.Native.Nat.{ℕ, zero, suc, ◌<◌}
use native.Mathlib.Omega.{arith}
use native.Mathlib.Decide.{ℕ_discrete}
use lib.Dec.{T}
use lib.IntN.{ℤ, pos, ◌+ℤ◌, ◌-ℤ◌, ◌*ℤ◌, *ℤ_comm, *ℤ-zero, zero-*ℤ}
use lib.Signed.{◌≤ℤ◌, ≤ℤ_refl, le_z_yes}
use Rattle.integers.specs.Integer.{bit}
use Rattle.integers.specs.Lists.{All, all_below, join_below}
use Rattle.integers.proofs.Ring.{one_*ℤ}

-- ---- tests

pub T_and : (a b : Bool) → T (a && b) ↔ (T a × T b)
T_and true b = ((λ t. (tt, t)), (λ t. t.1))
T_and false b = ((λ t. absurd t), (λ t. absurd t.0))

pub T_or : (a b : Bool) → T (a || b) ↔ (T a ⊎ T b)
T_or true b = ((λ t. inl tt), (λ t. tt))
T_or false b = ((λ t. inr t), (λ t. ⊎_elim (λ f. absurd f) (λ u. u) t))

-- two tests that pass together are one
pub T_ext : (a b : Bool) → T a ↔ T b → a ≡ b
T_ext true true e = refl
T_ext true false e = absurd (e.0 tt)
T_ext false true e = absurd (e.1 tt)
T_ext false false e = refl

pub T_true : (b : Bool) → T b ↔ (b ≡ true)
T_true true = ((λ t. refl), (λ e. tt))
T_true false = ((λ t. absurd t), (λ e. absurd (false≢true e)))

-- by the two values of a test
pub flag : {G : Type 0} (b : Bool) → (b ≡ true → G) → (b ≡ false → G) → G
flag true t f = t refl
flag false t f = f refl

-- a disjunction that fails, and a negation
pub or_none : (a b : Bool) → (a || b) ≡ false → (a ≡ false) × (b ≡ false)
or_none true b e = absurd (true≢false e)
or_none false b e = (refl, e)

pub or_either : (a b : Bool) → (a || b) ≡ true → (a ≡ true) ⊎ (b ≡ true)
or_either true b e = inl refl
or_either false b e = inr e

pub and_both : (a b : Bool) → (a && b) ≡ true → (a ≡ true) × (b ≡ true)
and_both true b e = (refl, e)
and_both false b e = absurd (false≢true e)

-- what holds of both branches, each where its test passes
pub cond_cases {ℓ} : {A : Type ℓ} (P : A → Type 0) (b : Bool) (x y : A) → (T b → P x) → (T (not b) → P y) → P (cond b x y)
cond_cases P true x y f g = f tt
cond_cases P false x y f g = g tt

pub all_below_at : (n : ℕ) (f : ℕ → Bool) → T (all_below n f) → (i : ℕ) → i < n → T (f i)
unfolding all_below
all_below_at zero f h i l = absurd (omega arith)
all_below_at (suc n) f h i l = go ((T_and (all_below n f) (f n)).0 h) (λ k. all_below_at n f k i) (ℕ_discrete i n)
  where
    go : T (all_below n f) × T (f n) → (T (all_below n f) → i < n → T (f i)) → Dec (i ≡ n) → T (f i)
    go t before (yes e) = rw e t.1
    go t before (no d) = before t.0 (omega arith)

pub all_below_by : (n : ℕ) (f : ℕ → Bool) → ((i : ℕ) → i < n → T (f i)) → T (all_below n f)
unfolding all_below
all_below_by zero f h = tt
all_below_by (suc n) f h = (T_and (all_below n f) (f n)).1 (all_below_by n f (λ i l. h i (omega arith)), h n (omega arith))

-- ---- bits

pub *_bit : (c : ℤ) (b : Bool) → c *ℤ bit b ≡ cond b c (pos 0)
*_bit c true = *ℤ_comm c (pos 1) ∙ one_*ℤ c
*_bit c false = *ℤ-zero c

pub bit_and : (u v : Bool) → bit u *ℤ bit v ≡ bit (u && v)
bit_and true v = one_*ℤ (bit v)
bit_and false v = zero-*ℤ (bit v)

pub bit_low : (b : Bool) → pos 0 ≤ℤ bit b
bit_low true = le_z_yes tt
bit_low false = le_z_yes tt

pub bit_high : (b : Bool) → bit b ≤ℤ pos 1
bit_high true = le_z_yes tt
bit_high false = le_z_yes tt

pub and_left : (u v : Bool) → bit (u && v) ≤ℤ bit u
and_left true v = bit_high v
and_left false v = ≤ℤ_refl (pos 0)

pub and_right : (u v : Bool) → bit (u && v) ≤ℤ bit v
and_right true v = ≤ℤ_refl (bit v)
and_right false v = bit_low v

pub and_above : (u v : Bool) → (bit u +ℤ bit v -ℤ pos 1) ≤ℤ bit (u && v)
and_above true true = le_z_yes tt
and_above true false = le_z_yes tt
and_above false true = le_z_yes tt
and_above false false = le_z_yes tt

-- ---- P of every element of a list

-- a proof for the first element, and those for the others
infixr 5 ◌▹◌
abbrev pub ◌▹◌ : {A B : Type 0} → A → B → A × B
a ▹ b = (a, b)

pub All-append {ℓ} : {A : Type ℓ} (P : A → Type 0) (l r : List A) → All P l → All P r → All P (l ++ r)
All-append P [] r h k = k
All-append P (x ∷ l) r h k = (h.0, All-append P l r h.1 k)

pub All-map {ℓ} : {A : Type ℓ} (P Q : A → Type 0) → ((x : A) → P x → Q x) → (l : List A) → All P l → All Q l
All-map P Q f [] h = tt
All-map P Q f (x ∷ l) h = (f x h.0, All-map P Q f l h.1)

pub All-join {ℓ} : {A : Type ℓ} (P : A → Type 0) (n : ℕ) (f : ℕ → List A) → ((i : ℕ) → i < n → All P (f i)) → All P (join_below n f)
unfolding join_below
All-join P zero f h = tt
All-join P (suc n) f h = All-append P (join_below n f) (f n) (All-join P n f (λ i l. h i (omega arith))) (h n (omega arith))
