-- Numbers subtracted at the places of a table where a test passes: place by place, by one test and then by another, and how
-- large the numbers become.
use Prim.Native.Nat.{ℕ, ◌+◌, ◌*◌, ◌≤◌, ◌<◌}
use mathlib.Core.Path.{◌≡◌, refl, ◌∙◌, ap}
use mathlib.Core.Bool.{Bool, true, false, cond, ◌&&◌, ◌||◌, and-false, true≢false}
use mathlib.Core.List.{List}
use native.Mathlib.Omega.{arith}
use native.Mathlib.Decide.{ℕ_discrete, dec_lt}
use lib.Dec.{eqb, ltb}
use lib.IntN.{ℤ, pos, nat_abs, ◌-ℤ◌}
use lib.ListN.{length, get_or, set, length-set}
use lib.Seq.{get_or-set_same, get_or-set_other}
use borrow.Author.Tests.{eq-eqb, ne_eqb, lt-ltb, le-ltb}
use Rattle.integers.proofs.Order.{nat_abs_sub}
use Rattle.forms.specs.Table.{with_table}
use Rattle.forms.specs.Store.{Bounded}
use Rattle.forms.proofs.Store.{same_place, place_inside, bounded_with_table}
use Rattle.forms.proofs.Table.{with_table_at, with_table_past, with_table-length, with_table_cong, is_with_table}
use Rattle.residual.specs.Built.{cells, less_where}

-- ---- tests that are one or the other

pub record Joins (p p' q : Bool) : Type 0 where
  apart : (p && p') ≡ false
  either : (p || p') ≡ q

-- below j + 1 is below j, or j
pub joins_next : (i j : ℕ) → Joins (ltb i j) (eqb i j) (ltb i (j + 1))
joins_next i j = go (ℕ_discrete i j)
  where
    later : (i ≡ j → ⊥) → Dec (i < j) → Joins (ltb i j) false (ltb i (j + 1))
    later d (yes l) = rw (lt-ltb i j l, lt-ltb i (j + 1) (omega arith)) (record { apart = refl; either = refl })
    later d (no l) = rw (le-ltb i j (omega arith), le-ltb i (j + 1) (omega arith)) (record { apart = refl; either = refl })

    go : Dec (i ≡ j) → Joins (ltb i j) (eqb i j) (ltb i (j + 1))
    go (yes e) = rw (eq-eqb i j e, le-ltb i j (omega arith), lt-ltb i (j + 1) (omega arith)) (record { apart = refl; either = refl })
    go (no d) = rw (ne_eqb i j d) (later d (dec_lt i j))

pub joins_and : (b : Bool) {p p' q : Bool} → Joins p p' q → Joins (b && p) (b && p') (b && q)
joins_and true h = h
joins_and false h = record { apart = refl; either = refl }

-- ---- tables

module _ (n : ℕ) (y : ℕ → ℕ → ℤ) where
  abbrev left : List ℤ → (ℕ → ℕ → Bool) → ℕ → ℕ → ℤ
  left t P i j = cond (P i j) (cells n t i j -ℤ y i j) (cells n t i j)

  less_at : (P : ℕ → ℕ → Bool) (t : List ℤ) (i j : ℕ) → i < n → j < n → cells n (less_where n y P t) i j ≡ left t P i j
  unfolding less_where
  less_at P t i j l m = with_table_at n (left t P) t i j l m

  less_length : (P : ℕ → ℕ → Bool) (t : List ℤ) → n * n ≤ length t → length (less_where n y P t) ≡ length t
  unfolding less_where
  less_length P t l = with_table-length n (left t P) t l

  less_past : (P : ℕ → ℕ → Bool) (t : List ℤ) (k : ℕ) → n * n ≤ k → get_or (less_where n y P t) k (pos 0) ≡ get_or t k (pos 0)
  unfolding less_where
  less_past P t k h = with_table_past n (left t P) t k h

  -- nowhere
  pub less_none : (P : ℕ → ℕ → Bool) (t : List ℤ) → n * n ≤ length t → ((i j : ℕ) → i < n → j < n → P i j ≡ false) → t ≡ less_where n y P t
  unfolding less_where
  less_none P t l h = is_with_table n (left t P) t t refl l (λ i j u v. rw (h i j u v)) (λ k u. refl)

  -- at one place
  less_one : (t : List ℤ) (i j : ℕ) → n * n ≤ length t → i < n → j < n →
      set t (i * n + j) (cells n t i j -ℤ y i j) ≡ less_where n y (λ k l. eqb k i && eqb l j) t
  unfolding less_where
  less_one t i j room l m =
      is_with_table n (left t (λ k l. eqb k i && eqb l j)) t _ (length-set t _ _) room
      (λ k h u v. at k h v (ℕ_discrete k i) (ℕ_discrete h j))
      (λ k u. get_or-set_other t (i * n + j) k _ (pos 0) (λ e. omega (arith, place_inside n i j l m)))
    where
      inside : i * n + j < length t
      inside = omega (arith, place_inside n i j l m)

      at : (k h : ℕ) → h < n → Dec (k ≡ i) → Dec (h ≡ j) → get_or (set t (i * n + j) (cells n t i j -ℤ y i j)) (k * n + h) (pos 0) ≡ left t (λ k l. eqb k i && eqb l j) k h
      at k h v (yes e) (yes f) = rw (e, f, eq-eqb i i refl, eq-eqb j j refl) (get_or-set_same t (i * n + j) _ (pos 0) inside)
      at k h v (yes e) (no f) = rw (ne_eqb h j f, and-false) (get_or-set_other t (i * n + j) (k * n + h) _ (pos 0) (λ x. f (same_place n k h i j v m x).1))
      at k h v (no e) f = rw (ne_eqb k i e) (get_or-set_other t (i * n + j) (k * n + h) _ (pos 0) (λ x. e (same_place n k h i j v m x).0))

  -- where one test passes, then where another does
  pub less_then : {P Q S : ℕ → ℕ → Bool} → ((i j : ℕ) → i < n → j < n → Joins (P i j) (Q i j) (S i j)) → (t : List ℤ) → n * n ≤ length t →
      less_where n y Q (less_where n y P t) ≡ less_where n y S t
  unfolding less_where
  less_then {P} {Q} {S} h t room =
      let len = less_length P t room in
      (is_with_table n (left t S) t (less_where n y Q (less_where n y P t)) (less_length Q (less_where n y P t) (rw len room) ∙ len) room
      (λ i j l m. less_at Q (less_where n y P t) i j l m ∙ ap (λ x. cond (Q i j) (x -ℤ y i j) x) (less_at P t i j l m) ∙ go (P i j) (Q i j) (S i j) (h i j l m) (cells n t i j) (y i j))
      (λ k u. less_past Q (less_where n y P t) k u ∙ less_past P t k u))
    where
      go : (p p' s : Bool) → Joins p p' s → (x z : ℤ) → cond p' (cond p (x -ℤ z) x -ℤ z) (cond p (x -ℤ z) x) ≡ cond s (x -ℤ z) x
      go true true s j x z = absurd (true≢false j.apart)
      go true false s j x z = rw (← j.either)
      go false p' s j x z = rw (← j.either)

  -- a table with numbers subtracted where a test passes, as a loop keeps it
  module _ (P : ℕ → ℕ → Bool) {t : List ℤ} (t₀ : List ℤ) (room : n * n ≤ length t₀) (d : t ≡ less_where n y P t₀) where
    pub less_long : length t ≡ length t₀
    less_long = rw d (less_length P t₀ room)

    -- a place where the test fails is as it was
    pub less_was : (i j : ℕ) → i < n → j < n → P i j ≡ false → cells n t i j ≡ cells n t₀ i j
    less_was i j l m e = rw d (less_at P t₀ i j l m ∙ rw e)

    -- one place more
    pub less_next : {S : ℕ → ℕ → Bool} (i j : ℕ) → i < n → j < n → ((k l : ℕ) → k < n → l < n → Joins (P k l) (eqb k i && eqb l j) (S k l)) →
        set t (i * n + j) (cells n t i j -ℤ y i j) ≡ less_where n y S t₀
    less_next i j l m h = less_one t i j (rw less_long room) l m ∙ rw d (less_then h t₀ room)

  -- everywhere, in a run that has a table
  pub less_all : (a : ℕ → ℕ → ℤ) (lent : List ℤ) → n * n ≤ length lent → less_where n y (λ i j. true) (with_table n a lent) ≡ with_table n (λ i j. a i j -ℤ y i j) lent
  less_all a lent room =
      is_with_table n (λ i j. a i j -ℤ y i j) lent (less_where n y (λ i j. true) (with_table n a lent))
      (less_length (λ i j. true) (with_table n a lent) (rw (with_table-length n a lent room) room) ∙ with_table-length n a lent room) room
      (λ i j l m. less_at (λ i j. true) (with_table n a lent) i j l m ∙ ap (λ x. x -ℤ y i j) (with_table_at n a lent i j l m))
      (λ k u. less_past (λ i j. true) (with_table n a lent) k u ∙ with_table_past n a lent k u)

  pub bounded_less : {b c : ℕ} {t : List ℤ} (P : ℕ → ℕ → Bool) → ((i j : ℕ) → i < n → j < n → nat_abs (y i j) ≤ c) → Bounded n b t → Bounded n (b + c) (less_where n y P t)
  unfolding less_where
  bounded_less {b} {c} {t} P small h =
      bounded_with_table n (b + c) (left t P) t h.long (λ i j l m. go (P i j) (cells n t i j) (y i j) (h.low (i * n + j) (place_inside n i j l m)) (small i j l m))
    where
      go : (p : Bool) (x z : ℤ) → nat_abs x ≤ b → nat_abs z ≤ c → nat_abs (cond p (x -ℤ z) x) ≤ b + c
      go true x z u v = omega (arith, nat_abs_sub x z)
      go false x z u v = omega arith

-- by tests that agree, and by numbers that agree where they pass
pub less_cong : (n : ℕ) {x y : ℕ → ℕ → ℤ} {P Q : ℕ → ℕ → Bool} (t : List ℤ) → ((i j : ℕ) → i < n → j < n → P i j ≡ Q i j) →
    ((i j : ℕ) → i < n → j < n → Q i j ≡ true → x i j ≡ y i j) → less_where n x P t ≡ less_where n y Q t
unfolding less_where
less_cong n {x} {y} {P} {Q} t h e =
    with_table_cong n (left n x t P) (left n y t Q) t
    (λ i j l m. ap (λ b. cond b (cells n t i j -ℤ x i j) (cells n t i j)) (h i j l m) ∙ go (Q i j) (e i j l m) (cells n t i j))
  where
    go : (b : Bool) {u v : ℤ} → (b ≡ true → u ≡ v) → (z : ℤ) → cond b (z -ℤ u) z ≡ cond b (z -ℤ v) z
    go true e z = ap (λ u. z -ℤ u) (e refl)
    go false e z = refl
