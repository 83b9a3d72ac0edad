-- Statements and tests over a list or over the numbers below a bound.
use Rattle.std.specs.Prelude.{◌≡◌, Bool, true, false, cond, not, ◌&&◌, ◌||◌, List, [], ◌∷◌, ◌++◌, ℕ, zero, suc, ◌<◌, ◌≤◌, ltb, eqb, length, get_or}

-- P of every element
abbrev pub All {ℓ} : {A : Type ℓ} → (A → Type 0) → List A → Type 0
All P [] = Unit {0}
All P (x ∷ xs) = P x × All P xs

-- a test that passes at 0, 1, .. n − 1
unfoldable pub all_below : ℕ → (ℕ → Bool) → Bool
all_below zero f = true
all_below (suc n) f = all_below n f && f n

-- a test that passes at some of 0, 1, .. n − 1
abbrev pub any_below : ℕ → (ℕ → Bool) → Bool
any_below zero f = false
any_below (suc n) f = any_below n f || f n

-- the first number below n at which a test passes, or n where there is none
unfoldable pub first_below : ℕ → (ℕ → Bool) → ℕ
first_below zero f = 0
first_below (suc n) f = let v = first_below n f in cond (eqb v n && not (f n)) (suc n) v

-- the lists f 0, f 1, .. f (n − 1), one after the other
unfoldable pub join_below {ℓ} : {A : Type ℓ} → ℕ → (ℕ → List A) → List A
join_below zero f = []
join_below (suc n) f = join_below n f ++ f n

-- the lexicographic order of lists of numbers of one length: by the first number, then by the second, and so on
unfoldable pub comes_before : List ℕ → List ℕ → Bool
comes_before [] ys = false
comes_before (x ∷ xs) [] = false
comes_before (x ∷ xs) (y ∷ ys) = ltb x y || eqb x y && comes_before xs ys

-- an array with room for `size` entries, of which those past the first n are d
pub record Column {A : Type 0} (size n : ℕ) (d : A) (l : List A) : Type 0 where
  pub room : length l ≡ size
  pub rest : (i : ℕ) → n ≤ i → get_or l i d ≡ d

-- at most `limit` entries f 0, .. f (n − 1), each of them Q, and each above the one before it
pub record Table {A : Type 0} (limit n : ℕ) (f : ℕ → A) (Q : A → Type 0) (Rise : A → A → Type 0) : Type 0 where
  pub few : n ≤ limit
  pub each : (i : ℕ) → i < n → Q (f i)
  pub rise : (i : ℕ) → suc i < n → Rise (f i) (f (suc i))
