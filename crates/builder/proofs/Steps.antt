-- What joining a pair leads to, and what a pass over pairs and passes keep.
use mathlib.Core.Path.{◌≡◌, refl, sym, ◌∙◌}
use mathlib.Core.Bool.{Bool, true, false, ◌||◌}
use mathlib.Core.List.{List, [], ◌∷◌, ◌++◌}
use Prim.Native.Nat.{ℕ, zero, suc, ◌+◌, ◌*◌, min, max, ◌≤◌, ◌<◌}
use native.Mathlib.Omega.{arith}
use native.Mathlib.Decide.{dec_lt}
use lib.Dec.{leb}
use lib.ListN.{length}
use lib.Seq.{append_snoc}
use borrow.Author.Tests.{eqb-true, eq-eqb, ne_eqb, le-leb, lt-leb}
use Rattle.integers.proofs.Lists.{flag}
use Rattle.integers.proofs.Search.{first_within, first_here, none_first}
use Rattle.scheme.specs.declared.Scheme.{Scheme}
use Rattle.scheme.specs.Scheme.{max_products, max_variables, variables, with_product}
use Rattle.scheme.specs.Variables.{E}
use Rattle.scheme.specs.Format.{union_of, is_new}
use Rattle.builder.specs.Builder.{Step, full, next, and_then, WithVariable, WithList, first_with, join_pair, pair_up, reduce, Built, built, follow}

-- a step after another came to something: so did the first
pub and_then_next : {A B G : Type 0} (x : Step A) (f : A → Step B) (q : B) → ((p : A) → x ≡ next p → f p ≡ next q → G) → and_then x f ≡ next q → G
unfolding and_then
and_then_next full f q g e = let z : ◌≡◌ {A = ℕ} 0 1 = cc in absurd (omega arith)
and_then_next (next p) f q g e = g p refl e

pub same_next : {A : Type 0} {p q : A} → ◌≡◌ {A = Step A} (next p) (next q) → p ≡ q
same_next e = cc

-- by what a step comes to
pub step_cases : {A G : Type 0} (x : Step A) → (x ≡ full → G) → ((a : A) → x ≡ next a → G) → G
step_cases full f g = f refl
step_cases (next a) f g = g a refl

pub next_not_full : {A : Type 0} {a : A} → ◌≡◌ {A = Step A} (next a) full → ⊥
next_not_full e = let z : ◌≡◌ {A = ℕ} 0 1 = cc in omega arith

-- a step after another is full: the first is, or the second
pub and_then_full : {A B G : Type 0} (x : Step A) (f : A → Step B) → (x ≡ full → G) → ((a : A) → x ≡ next a → f a ≡ full → G) → and_then x f ≡ full → G
unfolding and_then
and_then_full full f g h e = g refl
and_then_full (next a) f g h e = h a refl e

-- what follows a step came to a scheme: so did the step
pub follow_built : {G : Type 0} (x : Step Scheme) (t : ℕ) (rest : Scheme → Built) (after : Scheme) → ((sch : Scheme) → x ≡ next sch → rest sch ≡ built after → G) → follow x t rest ≡ built after → G
unfolding follow
follow_built full t rest after g e = let z : ◌≡◌ {A = ℕ} 0 1 = cc in absurd (omega arith)
follow_built (next sch) t rest after g e = g sch refl e

-- ---- a pair

-- no product more may be made
abbrev pub no_room : ℕ → Scheme → Bool
no_room n sch = leb max_products sch.products || leb max_variables (variables n sch)

module _ (n : ℕ) (sch : Scheme) (a b : ℕ) where
  -- the first variable with the union
  abbrev pub found : ℕ
  found = first_with n sch (union_of n sch a b) (variables n sch)

  pub found_within : found ≤ variables n sch
  unfolding first_with
  found_within = first_within _ (variables n sch)

  -- it has the union, or the union is new

  pub found_has : found < variables n sch → E n sch found ≡ union_of n sch a b
  unfolding first_with
  found_has l = eqb-true _ _ (first_here _ (variables n sch) l)

  pub found_new : found ≡ variables n sch → is_new n sch (union_of n sch a b) ≡ true
  unfolding first_with is_new
  found_new e = none_first _ (variables n sch) e

  pub join_found : found < variables n sch → join_pair n sch a b ≡ next (record { scheme = sch; variable = found })
  unfolding join_pair
  join_found l = rw (ne_eqb found (variables n sch) (λ e. omega arith))

  pub join_full : found ≡ variables n sch → no_room n sch ≡ true → join_pair n sch a b ≡ full
  unfolding join_pair
  join_full e t = rw (eq-eqb found (variables n sch) e, t)

  pub join_new : found ≡ variables n sch → no_room n sch ≡ false → join_pair n sch a b ≡ next (record { scheme = with_product sch (min a b) (max a b); variable = variables n sch })
  unfolding join_pair
  join_new e f = rw (eq-eqb found (variables n sch) e, f)

  -- which of them it was
  pub join_cases : {G : Type 0} (p : WithVariable) → join_pair n sch a b ≡ next p →
      (found < variables n sch → p ≡ record { scheme = sch; variable = found } → G) →
      (found ≡ variables n sch → no_room n sch ≡ false → p ≡ record { scheme = with_product sch (min a b) (max a b); variable = variables n sch } → G) → G
  join_cases {G} p e there new = go (dec_lt found (variables n sch))
    where
      go : Dec (found < variables n sch) → G
      go (yes l) = let d = join_found l in there l (cc)
      go (no l) =
          let k : found ≡ variables n sch = omega (arith, found_within) in
          flag (no_room n sch)
          (λ t. let d = join_full k t in let z : ◌≡◌ {A = ℕ} 0 1 = cc in absurd (omega arith))
          (λ f. let d = join_new k f in new k f (cc))

-- ---- passes

module _ (n : ℕ) where
  pub reduce_done : (k : ℕ) (sch : Scheme) (l : List ℕ) → length l ≤ 2 → reduce k n sch l ≡ next (record { scheme = sch; members = l })
  unfolding reduce
  reduce_done zero sch l h = refl
  reduce_done (suc k) sch l h = rw (le-leb (length l) 2 h)

  pub reduce_zero : (sch : Scheme) (l : List ℕ) → reduce 0 n sch l ≡ next (record { scheme = sch; members = l })
  unfolding reduce
  reduce_zero sch l = refl

  pub reduce_more : (k : ℕ) (sch : Scheme) (l : List ℕ) → 2 < length l → reduce (suc k) n sch l ≡ and_then (pair_up n sch l) (λ p. reduce k n p.scheme p.members)
  unfolding reduce
  reduce_more k sch l h = rw (lt-leb (length l) 2 h)

  -- a pass halves the list
  pub record Halves (l m : List ℕ) : Type 0 where
    pub at_most : 2 * length m ≤ length l + 1
    pub at_least : length l ≤ 2 * length m

  halves_from : (k : ℕ) (sch : Scheme) (l : List ℕ) (q : WithList) → length l ≤ k → pair_up n sch l ≡ next q → Halves l q.members
  unfolding pair_up
  halves_from k sch [] q m e = let d : q ≡ record { scheme = sch; members = [] } = cc in rw d (record { at_most = omega arith; at_least = omega arith })
  halves_from k sch (a ∷ []) q m e = let d : q ≡ record { scheme = sch; members = a ∷ [] } = cc in rw d (record { at_most = omega arith; at_least = omega arith })
  halves_from zero sch (a ∷ b ∷ rest) q m e = absurd (omega arith)
  halves_from (suc k) sch (a ∷ b ∷ rest) q m e =
      and_then_next (join_pair n sch a b) _ q
      (λ p d. and_then_next (pair_up n p.scheme rest) _ q
      (λ r f g.
      let s : q ≡ record { scheme = r.scheme; members = p.variable ∷ r.members } = cc in
      let h = halves_from k p.scheme rest r (omega arith) f in
      rw s (record { at_most = omega (arith, h.at_most); at_least = omega (arith, h.at_least) })))
      e

  pub pass_halves : (sch : Scheme) (l : List ℕ) (q : WithList) → pair_up n sch l ≡ next q → Halves l q.members
  pass_halves sch l q e = halves_from (length l) sch l q (omega arith) e

  -- passes lead to one member or two
  pub reduce_ends : (k : ℕ) (sch : Scheme) (l : List ℕ) (q : WithList) → 1 ≤ length l → length l ≤ k → reduce k n sch l ≡ next q → (1 ≤ length q.members) × (length q.members ≤ 2)
  reduce_ends zero sch l q h m e = absurd (omega arith)
  reduce_ends (suc k) sch l q h m e = go (dec_lt 2 (length l)) (reduce_ends k)
    where
      go : Dec (2 < length l) → ((sch : Scheme) (l : List ℕ) (q : WithList) → 1 ≤ length l → length l ≤ k → reduce k n sch l ≡ next q → (1 ≤ length q.members) × (length q.members ≤ 2)) → (1 ≤ length q.members) × (length q.members ≤ 2)
      go (yes t) ih =
          and_then_next (pair_up n sch l) _ q
          (λ p d f. let z = pass_halves sch l p d in ih p.scheme p.members q (omega (arith, z.at_least)) (omega (arith, z.at_most)) f)
          (sym (reduce_more k sch l t) ∙ e)
      go (no t) ih =
          let d : record { scheme = sch; members = l } ≡ q = same_next (sym (reduce_done (suc k) sch l (omega arith)) ∙ e) in
          rw (← d) (h, omega arith)

-- ---- what holds of a scheme and a list, and stays where a pair of the list is joined, stays by passes

module _ (n : ℕ) (P : Scheme → List ℕ → Type 0)
    (joins : (front rest : List ℕ) (sch : Scheme) (a b : ℕ) (p : WithVariable) → P sch (front ++ a ∷ b ∷ rest) → join_pair n sch a b ≡ next p → P p.scheme (front ++ p.variable ∷ rest)) where
  kept_from : (k : ℕ) (front : List ℕ) (sch : Scheme) (l : List ℕ) (q : WithList) → length l ≤ k → P sch (front ++ l) → pair_up n sch l ≡ next q → P q.scheme (front ++ q.members)
  unfolding pair_up
  kept_from k front sch [] q m h e = let d : q ≡ record { scheme = sch; members = [] } = cc in rw d h
  kept_from k front sch (a ∷ []) q m h e = let d : q ≡ record { scheme = sch; members = a ∷ [] } = cc in rw d h
  kept_from zero front sch (a ∷ b ∷ rest) q m h e = absurd (omega arith)
  kept_from (suc k) front sch (a ∷ b ∷ rest) q m h e =
      and_then_next (join_pair n sch a b) _ q
      (λ p d. and_then_next (pair_up n p.scheme rest) _ q
      (λ r f g.
      let s : q ≡ record { scheme = r.scheme; members = p.variable ∷ r.members } = cc in
      rw (s, ← append_snoc front p.variable r.members)
      (kept_from k (front ++ (p.variable ∷ [])) p.scheme rest r (omega arith) (rw append_snoc (joins front rest sch a b p h d)) f)))
      e

  pub pass_kept : (sch : Scheme) (l : List ℕ) (q : WithList) → P sch l → pair_up n sch l ≡ next q → P q.scheme q.members
  pass_kept sch l q h e = kept_from (length l) [] sch l q (omega arith) h e

  pub reduce_kept : (k : ℕ) (sch : Scheme) (l : List ℕ) (q : WithList) → P sch l → reduce k n sch l ≡ next q → P q.scheme q.members
  reduce_kept zero sch l q h e = let d : record { scheme = sch; members = l } ≡ q = same_next (sym (reduce_zero n sch l) ∙ e) in rw (← d) h
  reduce_kept (suc k) sch l q h e = go (dec_lt 2 (length l)) (reduce_kept k)
    where
      go : Dec (2 < length l) → ((sch : Scheme) (l : List ℕ) (q : WithList) → P sch l → reduce k n sch l ≡ next q → P q.scheme q.members) → P q.scheme q.members
      go (yes m) ih =
          and_then_next (pair_up n sch l) _ q (λ p d f. ih p.scheme p.members q (pass_kept sch l p h d) f) (sym (reduce_more n k sch l m) ∙ e)
      go (no m) ih = let d : record { scheme = sch; members = l } ≡ q = same_next (sym (reduce_done n (suc k) sch l (omega arith)) ∙ e) in rw (← d) h
