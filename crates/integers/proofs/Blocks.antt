-- Entries of a list that is filled block by block, each block a list stored from a place on; and lists of one element for each number.
use Prim.Native.Nat.{ℕ, zero, suc, ◌+◌, ◌-◌, ◌<◌, ◌≤◌}
use native.Mathlib.Omega.{arith}
use native.Mathlib.Nat.{add-zero, add-suc, suc-add}
use mathlib.Core.Path.{◌≡◌, refl, sym, ◌∙◌, ap}
use mathlib.Core.Logic.{◌⊎◌, inl, inr, ⊎_elim}
use mathlib.Core.List.{List, [], ◌∷◌, ◌++◌}
use lib.ListN.{length, get_or, set, replicate, length-append, length-set, length-replicate, get_or-append}
use lib.Seq.{sets, length-sets, get_or_at, get_or-set_same, get_or-set_other, ext_get_or}
use lib.Dec.{ltb}
use borrow.Author.Tests.{ltb-true, ltb-false}
use Rattle.integers.specs.Lists.{Column, join_below}
use Rattle.integers.proofs.Lists.{flag}
use Rattle.integers.proofs.Entries.{below_or_last, replicate_rest}

-- ---- one element for each number below n

module _ {A : Type 0} (f : ℕ → A) where
  pub length_ones : (n : ℕ) → length (join_below n (λ j. f j ∷ [])) ≡ n
  unfolding join_below
  length_ones zero = refl
  length_ones (suc n) = length-append (join_below n (λ j. f j ∷ [])) (f n ∷ []) ∙ omega (arith, length_ones n)

  pub ones_at : (n i : ℕ) (d : A) → i < n → get_or (join_below n (λ j. f j ∷ [])) i d ≡ f i
  unfolding join_below
  ones_at zero i d l = absurd (omega arith)
  ones_at (suc n) i d l =
      ⊎_elim
      (λ (k : i < n). get_or-append (join_below n (λ j. f j ∷ [])) (f n ∷ []) d i (omega (arith, length_ones n)) ∙ ones_at n i d k)
      (λ (e : i ≡ n). rw e (get_or_at (join_below n (λ j. f j ∷ [])) (f n) [] d n (length_ones n)))
      (below_or_last i n l)

-- a list is its elements
pub ones_are : {A : Type 0} (d : A) (n : ℕ) (f : ℕ → A) (l : List A) → length l ≡ n → ((i : ℕ) → i < n → get_or l i d ≡ f i) → join_below n (λ j. f j ∷ []) ≡ l
ones_are d n f l e h =
    ext_get_or d (join_below n (λ j. f j ∷ [])) l (length_ones f n ∙ sym e)
    (λ i k. let b : i < n = omega (arith, length_ones f n) in ones_at f n i d b ∙ sym (h i b))

-- ---- the entries of a list with a block stored at i

module _ {A : Type 0} (d : A) where
  pub sets_other : (vs l : List A) (i k : ℕ) → (k < i) ⊎ (i + length vs ≤ k) → get_or (sets l i vs) k d ≡ get_or l k d
  sets_other [] l i k h = refl
  sets_other (v ∷ vs) l i k h =
      sets_other vs (set l i v) (suc i) k (⊎_elim (λ a. inl (omega arith)) (λ b. inr (omega arith)) h)
      ∙ get_or-set_other l i k v d (⊎_elim (λ a. omega arith) (λ b. omega arith) h)

  pub sets_in : (vs l : List A) (i k : ℕ) → k < length vs → i + length vs ≤ length l → get_or (sets l i vs) (i + k) d ≡ get_or vs k d
  sets_in [] l i k h room = absurd (omega arith)
  sets_in (v ∷ vs) l i zero h room =
      rw add-zero (sets_other vs (set l i v) (suc i) i (inl (omega arith)) ∙ get_or-set_same l i v d (omega arith))
  sets_in (v ∷ vs) l i (suc k) h room =
      ap (λ n. get_or (sets (set l i v) (suc i) vs) n d) (omega arith) ∙ sets_in vs (set l i v) (suc i) k (omega arith) (omega (arith, length-set l i v))

-- one element more at the end of a block
pub sets_more : {A : Type 0} (vs l : List A) (i : ℕ) (v : A) → sets l i (vs ++ (v ∷ [])) ≡ set (sets l i vs) (i + length vs) v
sets_more [] l i v = rw add-zero
sets_more (x ∷ vs) l i v = rw add-suc (rw suc-add at (sets_more vs (set l i x) (suc i) v))

-- ---- columns with one block more or less

module _ {A : Type 0} {size n : ℕ} {d : A} {l : List A} where
  pub column_block : (vs : List A) {m : ℕ} → m ≡ n + length vs → Column size n d l → Column size m d (sets l n vs)
  column_block vs e c = record {
    room = length-sets l n vs ∙ c.room;
    rest = λ i h. sets_other d vs l n i (inr (omega arith)) ∙ c.rest i (omega arith);
  }

  pub column_unblock : (k : ℕ) → n + k ≤ size → {m : ℕ} → m ≡ n + k → Column size m d l → Column size n d (sets l n (replicate k d))
  column_unblock k room e c = record {
    room = length-sets l n (replicate k d) ∙ c.room;
    rest = λ i h.
        flag (ltb i (n + k))
        (λ t.
        let b = ltb-true i (n + k) t in
        ap (λ x. get_or (sets l n (replicate k d)) x d) (omega arith)
        ∙ sets_in d (replicate k d) l n (i - n) (omega (arith, length-replicate {A = A} k d)) (omega (arith, c.room, length-replicate {A = A} k d))
        ∙ replicate_rest k (i - n) d)
        (λ t.
        let b = ltb-false i (n + k) t in
        sets_other d (replicate k d) l n i (inr (omega (arith, length-replicate {A = A} k d))) ∙ c.rest i (omega arith));
  }

-- a block that is taken out and stored again
module _ {A : Type 0} (d : A) (l : List A) (n k : ℕ) where
  abbrev block : List A
  block = join_below k (λ j. get_or l (n + j) d ∷ [])

  abbrev out : List A
  out = sets l n (replicate k d)

  pub sets_back : n + k ≤ length l → sets out n block ≡ l
  sets_back room =
      let long : length block ≡ k = length_ones (λ j. get_or l (n + j) d) k in
      let zeros : length (replicate k d) ≡ k = length-replicate {A = A} k d in
      let same : length out ≡ length l = length-sets l n (replicate k d) in
      let other : (i : ℕ) → (i < n) ⊎ (n + k ≤ i) → get_or (sets out n block) i d ≡ get_or l i d =
      λ i h.
      sets_other d block out n i (⊎_elim (λ a. inl a) (λ b. inr (omega arith)) h)
      ∙ sets_other d (replicate k d) l n i (⊎_elim (λ a. inl a) (λ b. inr (omega arith)) h) in
      ext_get_or d (sets out n block) l (length-sets out n block ∙ same) (λ i h.
      flag (ltb i n)
      (λ t. other i (inl (ltb-true i n t)))
      (λ t.
      let a = ltb-false i n t in
      flag (ltb i (n + k))
      (λ u.
      let b = ltb-true i (n + k) u in
      let here : n + (i - n) ≡ i = omega arith in
      ap (λ x. get_or (sets out n block) x d) (sym here) ∙ sets_in d block out n (i - n) (omega arith) (omega arith) ∙ ones_at (λ j. get_or l (n + j) d) k (i - n) d (omega arith) ∙ ap (λ x. get_or l x d) here)
      (λ u. other i (inr (ltb-false i (n + k) u)))))
