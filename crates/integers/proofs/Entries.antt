-- Entries of a list that is filled one by one.
use Prim.Native.Nat.{ℕ, zero, suc, ◌+◌, ◌-◌, ◌<◌, ◌≤◌}
use native.Mathlib.Omega.{arith}
use native.Mathlib.Decide.{ℕ_discrete}
use mathlib.Core.Path.{◌≡◌, refl, sym, ◌∙◌, subst}
use mathlib.Core.Logic.{◌⊎◌, inl, inr, ⊎_elim}
use mathlib.Core.List.{List}
use lib.ListN.{length, get_or, set, replicate, length-append, length-set, length-replicate}
use lib.Seq.{get_or-set_same, get_or-set_other, set-get_or, set-set, ext_get_or}
use lib.Dec.{ltb}
use borrow.Author.Tests.{ltb-true, ltb-false}
use Rattle.integers.specs.Lists.{join_below, Column, Table}
use Rattle.integers.proofs.Lists.{flag}

-- i is below n or is n
pub below_or_last : (i n : ℕ) → i < suc n → (i < n) ⊎ (i ≡ n)
below_or_last i n h = go (ℕ_discrete i n)
  where
    go : Dec (i ≡ n) → (i < n) ⊎ (i ≡ n)
    go (yes e) = inr e
    go (no d) = inl (omega arith)

-- one of the lists that are put together, with those before it, is no longer than all
pub join_longer {ℓ} : {A : Type ℓ} (f : ℕ → List A) (i n : ℕ) → i < n → length (join_below i f) + length (f i) ≤ length (join_below n f)
unfolding join_below
join_longer f i zero l = absurd (omega arith)
join_longer f i (suc n) l =
    ⊎_elim
    (λ (k : i < n). omega (arith, join_longer f i n k, length-append (join_below n f) (f n)))
    (λ (e : i ≡ n). rw e (omega (arith, length-append (join_below n f) (f n))))
    (below_or_last i n l)

-- ---- one entry more: f are the entries before, and g those after, which are f below n and v at n

module _ {A : Type 0} (f g : ℕ → A) (n : ℕ) (v : A) (kept : (i : ℕ) → i < n → g i ≡ f i) (new : g n ≡ v) where
  pub each_more : (Q : A → Type 0) → ((i : ℕ) → i < n → Q (f i)) → Q v → (i : ℕ) → i < suc n → Q (g i)
  each_more Q old q i h =
      ⊎_elim (λ (l : i < n). rw (kept i l) (old i l)) (λ (e : i ≡ n). rw (e, new) q) (below_or_last i n h)

  pub rise_more : (R : A → A → Type 0) → ((i : ℕ) → suc i < n → R (f i) (f (suc i))) → (0 < n → R (f (n - 1)) v) → (i : ℕ) → suc i < suc n → R (g i) (g (suc i))
  rise_more R old q i h =
      ⊎_elim
      (λ (l : suc i < n). rw (kept i (omega arith), kept (suc i) l) (old i l))
      (λ (e : suc i ≡ n). rw (kept i (omega arith), e, new) (subst (λ (k : ℕ). R (f k) v) (omega arith) (q (omega arith))))
      (below_or_last (suc i) n h)

-- the entries of a list with a store at n
module _ {A : Type 0} (l : List A) (n : ℕ) (v d : A) where
  pub kept_set : (i : ℕ) → i < n → get_or (set l n v) i d ≡ get_or l i d
  kept_set i h = get_or-set_other l n i v d (omega arith)

  -- entries past the count stay as they were
  pub rest_set : ((i : ℕ) → n ≤ i → get_or l i d ≡ d) → (i : ℕ) → suc n ≤ i → get_or (set l n v) i d ≡ d
  rest_set old i h = get_or-set_other l n i v d (omega arith) ∙ old i (omega arith)

-- every entry of equal ones, and what `get_or` gives past them
pub replicate_rest : {A : Type 0} (n i : ℕ) (d : A) → get_or (replicate n d) i d ≡ d
replicate_rest zero i d = refl
replicate_rest (suc n) zero d = refl
replicate_rest (suc n) (suc i) d = replicate_rest n i d

-- ---- the entries of a list, stored one by one in a list of `size` entries d

module _ {A : Type 0} (size : ℕ) (d : A) (l : List A) where
  abbrev pub filled : ℕ → List A
  filled zero = replicate size d
  filled (suc n) = set (filled n) n (get_or l n d)

  length_filled : (n : ℕ) → length (filled n) ≡ size
  length_filled zero = length-replicate size d
  length_filled (suc n) = length-set (filled n) n (get_or l n d) ∙ length_filled n

  pub filled_at : (n : ℕ) → n ≤ size → (i : ℕ) → i < n → get_or (filled n) i d ≡ get_or l i d
  filled_at zero h i k = absurd (omega arith)
  filled_at (suc n) h i k = go (λ g. filled_at n (omega arith) i g) (below_or_last i n k)
    where
      go : (i < n → get_or (filled n) i d ≡ get_or l i d) → (i < n) ⊎ (i ≡ n) → get_or (set (filled n) n (get_or l n d)) i d ≡ get_or l i d
      go before (inl g) = kept_set (filled n) n (get_or l n d) d i g ∙ before g
      go before (inr e) = rw e (get_or-set_same (filled n) n (get_or l n d) d (omega (arith, length_filled n)))

  filled_past : (n i : ℕ) → n ≤ i → get_or (filled n) i d ≡ d
  filled_past zero i h = replicate_rest size i d
  filled_past (suc n) i h = get_or-set_other (filled n) n i (get_or l n d) d (omega arith) ∙ filled_past n i (omega arith)

  -- where the entries past n are d, the list is filled with n of them
  pub filled_all : (n : ℕ) → length l ≡ size → n ≤ size → ((i : ℕ) → n ≤ i → get_or l i d ≡ d) → filled n ≡ l
  filled_all n e h rest =
      ext_get_or d (filled n) l (length_filled n ∙ sym e) λ i k.
      flag (ltb i n)
      (λ t. filled_at n h i (ltb-true i n t))
      (λ t. let g = ltb-false i n t in filled_past n i g ∙ sym (rest i g))

-- ---- arrays and tables with one entry more or less

pub column_none : {A : Type 0} (size : ℕ) (d : A) → Column size 0 d (replicate size d)
column_none size d = record { room = length-replicate size d; rest = λ i k. replicate_rest size i d }

-- where there is no entry, each is d
pub column_empty : {A : Type 0} (size n : ℕ) (d : A) (l : List A) → n ≡ 0 → Column size n d l → replicate size d ≡ l
column_empty size n d l e c = filled_all size d l 0 c.room (omega arith) (λ i h. c.rest i (omega arith))

module _ {A : Type 0} {size n : ℕ} {d : A} {l : List A} where
  pub column_more : (v : A) → Column size n d l → Column size (suc n) d (set l n v)
  column_more v c = record { room = length-set l n v ∙ c.room; rest = rest_set l n v d c.rest }

  pub column_less : n < size → Column size (suc n) d l → Column size n d (set l n d)
  column_less h c = record { room = length-set l n d ∙ c.room; rest = rest }
    where
      rest : (i : ℕ) → n ≤ i → get_or (set l n d) i d ≡ d
      rest i k = go (ℕ_discrete i n)
        where
          go : Dec (i ≡ n) → get_or (set l n d) i d ≡ d
          go (yes e) = rw e (get_or-set_same l n d d (omega (arith, c.room)))
          go (no e) = get_or-set_other l n i d d e ∙ c.rest i (omega arith)

-- an entry that is taken out and stored again
pub set_back : {A : Type 0} (l : List A) (n : ℕ) (d : A) → set (set l n d) n (get_or l n d) ≡ l
set_back l n d = set-set l n d (get_or l n d) ∙ set-get_or l n d

-- what an entry v after n others, the last of which is `last`, has to be
pub record Next {A : Type 0} (limit n : ℕ) (last : A) (Q : A → Type 0) (Rise : A → A → Type 0) (v : A) : Type 0 where
  pub few : n < limit
  pub fits : Q v
  pub rises : (n ≡ 0) ⊎ Rise last v

pub table_none : {A : Type 0} (limit : ℕ) (f : ℕ → A) (Q : A → Type 0) (Rise : A → A → Type 0) → Table limit 0 f Q Rise
table_none limit f Q Rise = record { few = omega arith; each = λ i l. absurd (omega arith); rise = λ i l. absurd (omega arith) }

-- other conditions on each entry
pub table_each : {A : Type 0} {limit n : ℕ} {f : ℕ → A} {P Q : A → Type 0} {Rise : A → A → Type 0} → ((i : ℕ) → i < n → P (f i) → Q (f i)) → Table limit n f P Rise → Table limit n f Q Rise
table_each h t = record { few = t.few; each = λ i l. h i l (t.each i l); rise = t.rise }

module _ {A : Type 0} (f g : ℕ → A) (n : ℕ) (v : A) (kept : (i : ℕ) → i < n → g i ≡ f i) (new : g n ≡ v) {limit : ℕ} {Q : A → Type 0} {Rise : A → A → Type 0} where
  pub table_more : Table limit n f Q Rise → Next limit n (f (n - 1)) Q Rise v → Table limit (suc n) g Q Rise
  table_more t p = record {
    few = p.few;
    each = each_more f g n v kept new Q t.each p.fits;
    rise = rise_more f g n v kept new Rise t.rise (λ l. ⊎_elim (λ e. absurd (omega arith)) (λ h. h) p.rises);
  }

  pub table_less : Table limit (suc n) g Q Rise → Table limit n f Q Rise × Next limit n (f (n - 1)) Q Rise v
  table_less t = (
    record {
      few = omega (arith, t.few);
      each = λ i l. rw (kept i l) at (t.each i (omega arith));
      rise = λ i l. let k : i < n = omega arith in rw (kept i k, kept (suc i) l) at (t.rise i (omega arith));
    },
    record { few = t.few; fits = rw new at (t.each n (omega arith)); rises = by n kept new t.rise },
  )
    where
      by : (m : ℕ) → ((i : ℕ) → i < m → g i ≡ f i) → g m ≡ v → ((i : ℕ) → suc i < suc m → Rise (g i) (g (suc i))) → (m ≡ 0) ⊎ Rise (f (m - 1)) v
      by zero kept new rise = inl refl
      by (suc m) kept new rise =
          let e : suc m - 1 ≡ m = omega arith in
          inr (rw (e, ← kept m (omega arith), ← new) (rise m (omega arith)))
