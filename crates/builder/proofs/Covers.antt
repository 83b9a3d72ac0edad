-- How many members of a list have a choice in their sets; the choices of a mask.
use mathlib.Core.Path.{◌≡◌, refl, ◌∙◌, ap}
use mathlib.Core.Bool.{true, false, cond}
use mathlib.Core.List.{List, [], ◌∷◌, ◌++◌}
use Prim.Native.Nat.{ℕ, zero, suc, ◌+◌, ◌/◌, ◌^◌, ◌≤◌, ◌<◌}
use native.Mathlib.Nat.{pow-suc}
use native.Mathlib.Omega.{arith}
use native.Mathlib.Decide.{ℕ_discrete, dec_lt}
use lib.ListN.{length}
use Rattle.integers.specs.Lists.{All, join_below}
use Rattle.integers.proofs.Lists.{T_ext, T_true, All-join, cond_cases, flag}
use Rattle.sets.specs.Sets.{is_member}
use Rattle.sets.proofs.Sets.{member_zero, member_suc, member_empty, member_below, none_empty}
use Rattle.builder.specs.Builder.{choices_of}

-- how many members v have choice i in their set f v
abbrev pub held : (ℕ → ℕ) → ℕ → List ℕ → ℕ
held f i [] = 0
held f i (v ∷ l) = cond (is_member i (f v)) 1 0 + held f i l

pub held_append : (f : ℕ → ℕ) (i : ℕ) (l r : List ℕ) → held f i (l ++ r) ≡ held f i l + held f i r
held_append f i [] r = omega arith
held_append f i (v ∷ l) r = rw (held_append f i l r) (omega arith)

-- the set of one choice has just that choice

pub member_same : (i : ℕ) → is_member i (2 ^ i) ≡ true
member_same zero = (T_true _).0 ((member_zero 1).1 refl)
member_same (suc i) =
    let e : 2 ^ suc i / 2 ≡ 2 ^ i = omega (arith, pow-suc 2 i) in
    member_suc i (2 ^ suc i) ∙ ap (is_member i) e ∙ member_same i

pub member_other : (i j : ℕ) → (i ≡ j → ⊥) → is_member i (2 ^ j) ≡ false
member_other zero zero d = absurd (d refl)
member_other (suc i) zero d = member_suc i 1 ∙ member_empty i
member_other zero (suc j) d = T_ext _ _ ((λ t. omega (arith, (member_zero (2 ^ suc j)).0 t, pow-suc 2 j)), (λ t. absurd t))
member_other (suc i) (suc j) d =
    let e : 2 ^ suc j / 2 ≡ 2 ^ j = omega (arith, pow-suc 2 j) in
    member_suc i (2 ^ suc j) ∙ ap (is_member i) e ∙ member_other i j (λ q. d (ap suc q))

module _ (f : ℕ → ℕ) (n m : ℕ) (one : (v : ℕ) → v < n → f v ≡ 2 ^ v) where
  -- choice k alone, if it is in m
  abbrev lone : ℕ → List ℕ
  lone k = cond (is_member k m) (k ∷ []) []

  lone_same : (k : ℕ) → k < n → held f k (lone k) ≡ cond (is_member k m) 1 0
  lone_same k l = flag (is_member k m) (λ e. rw (e, one k l, member_same k)) (λ e. rw e)

  lone_other : (i k : ℕ) → k < n → (i ≡ k → ⊥) → held f i (lone k) ≡ 0
  lone_other i k l d = flag (is_member k m) (λ e. rw (e, one k l, member_other i k d)) (λ e. rw e)

  -- the choices of m that are below k
  held_past : (i k : ℕ) → k ≤ n → k ≤ i → held f i (choices_of k m) ≡ 0
  unfolding choices_of join_below
  held_past i zero h l = refl
  held_past i (suc k) h l =
      held_append f i (choices_of k m) (lone k)
      ∙ rw (held_past i k (omega arith) (omega arith), lone_other i k h (λ e. omega arith))

  held_in : (i k : ℕ) → k ≤ n → i < k → held f i (choices_of k m) ≡ cond (is_member i m) 1 0
  unfolding choices_of join_below
  held_in i zero h l = absurd (omega arith)
  held_in i (suc k) h l = held_append f i (choices_of k m) (lone k) ∙ go (ℕ_discrete i k) (held_in i k)
    where
      go : Dec (i ≡ k) → (k ≤ n → i < k → held f i (choices_of k m) ≡ cond (is_member i m) 1 0) → held f i (choices_of k m) + held f i (lone k) ≡ cond (is_member i m) 1 0
      go (yes e) ih = rw (held_past i k (omega arith) (omega arith), e, lone_same k h) (omega arith)
      go (no d) ih = rw (ih (omega arith) (omega arith), lone_other i k h d) (omega arith)

  -- each choice of m is held once, and no other
  pub held_choices : m < 2 ^ n → (i : ℕ) → held f i (choices_of n m) ≡ cond (is_member i m) 1 0
  held_choices l i = go (dec_lt i n)
    where
      go : Dec (i < n) → held f i (choices_of n m) ≡ cond (is_member i m) 1 0
      go (yes h) = held_in i n (omega arith) h
      go (no h) =
          held_past i n (omega arith) (omega arith)
          ∙ flag (is_member i m) (λ e. absurd (h (member_below n i m l ((T_true _).1 e)))) (λ e. rw e)

-- they are below n
pub choices_below : (n m : ℕ) → All (λ v. v < n) (choices_of n m)
unfolding choices_of
choices_below n m = All-join (λ v. v < n) n _ (λ i l. cond_cases (All (λ v. v < n)) (is_member i m) (i ∷ []) [] (λ _. (l, tt)) (λ _. tt))

-- and there are some
pub choices_some : (n m : ℕ) → 1 ≤ m → m < 2 ^ n → 1 ≤ length (choices_of n m)
choices_some n m h l = go (choices_of n m) (held_choices (λ v. 2 ^ v) n m (λ v _. refl) l)
  where
    go : (l : List ℕ) → ((i : ℕ) → held (λ v. 2 ^ v) i l ≡ cond (is_member i m) 1 0) → 1 ≤ length l
    go [] e = let z : m ≡ 0 = none_empty m (λ i. flag (is_member i m) (λ t. absurd (omega (arith, rw t at (e i)))) (λ t. t)) in absurd (omega arith)
    go (v ∷ l) e = omega arith
