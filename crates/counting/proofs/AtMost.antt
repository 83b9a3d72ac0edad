-- A term that names k choices makes the builder form at most k − 2 products, so all terms at most the sum; and where both limits have room
-- for so many, it forms a scheme.
use mathlib.Core.Path.{◌≡◌, refl, sym, ◌∙◌}
use mathlib.Core.Bool.{false}
use mathlib.Core.List.{List, [], ◌∷◌, ◌++◌}
use Prim.Native.Nat.{ℕ, zero, suc, ◌+◌, ◌*◌, ◌-◌, ◌≤◌, ◌<◌}
use native.Mathlib.Nat.{add-zero}
use native.Mathlib.Omega.{arith}
use native.Mathlib.Decide.{dec_lt}
use lib.ListN.{length, length-append}
use borrow.Author.Tests.{lt-leb}
use Rattle.register.specs.declared.Register.{Register}
use Rattle.register.specs.Register.{mask}
use Rattle.scheme.specs.declared.Scheme.{Scheme}
use Rattle.scheme.specs.Scheme.{max_products, max_variables, variables, fresh, initial}
use Rattle.builder.specs.Builder.{full, next, WithVariable, WithList, choices_of, join_pair, pair_up, reduce, split_of, build_term, built, follow, build_from, build}
use Rattle.builder.proofs.Steps.{step_cases, next_not_full, and_then_next, and_then_full, same_next, follow_built, no_room, found, found_within, join_found, join_new, join_cases, reduce_done, reduce_zero, reduce_more, pass_kept, reduce_kept}
use Rattle.counting.specs.Counting.{named, products_below}
use Rattle.counting.proofs.Reducing.{reduce_two, split_products}

-- ---- a pair joined is a member less and at most a product more

join_adds : (n : ℕ) (sch : Scheme) (a b : ℕ) (p : WithVariable) → join_pair n sch a b ≡ next p → p.scheme.products ≤ suc sch.products
join_adds n sch a b p e = join_cases n sch a b p e (λ l d. rw d (omega arith)) (λ k f d. rw d (omega arith))

module _ (n most : ℕ) where
  abbrev Under : Scheme → List ℕ → Type 0
  Under sch l = sch.products + length l ≤ most

  under_joins : (front rest : List ℕ) (sch : Scheme) (a b : ℕ) (p : WithVariable) → Under sch (front ++ a ∷ b ∷ rest) → join_pair n sch a b ≡ next p → Under p.scheme (front ++ p.variable ∷ rest)
  under_joins front rest sch a b p h e = omega (arith, join_adds n sch a b p e, length-append front (a ∷ b ∷ rest), length-append front (p.variable ∷ rest))

reduce_adds : (n k : ℕ) (sch : Scheme) (l : List ℕ) (q : WithList) → reduce k n sch l ≡ next q → q.scheme.products ≤ sch.products + (length l - 2)
reduce_adds n k sch l q e = go (dec_lt 2 (length l))
  where
    go : Dec (2 < length l) → q.scheme.products ≤ sch.products + (length l - 2)
    go (yes m) =
        let most = sch.products + length l in
        omega (arith, reduce_kept n (Under n most) (under_joins n most) k sch l q (omega arith) e, reduce_two n k sch l q (omega arith) e)
    go (no m) = let d : record { scheme = sch; members = l } ≡ q = same_next (sym (reduce_done n k sch l (omega arith)) ∙ e) in rw (← d) (omega arith)

pub term_at_most : (n : ℕ) (sch after : Scheme) (m : ℕ) → build_term n sch m ≡ next after → after.products ≤ sch.products + (named n m - 2)
unfolding build_term
term_at_most n sch after m e =
    let l = choices_of n m in
    and_then_next (reduce (length l) n sch l) _ after
    (λ q d f.
    let g : split_of q.scheme q.members ≡ after = same_next f in
    rw (← g) (omega (arith, split_products q.scheme q.members, reduce_adds n (length l) sch l q d)))
    e

-- ---- where so many products are within both limits, no step is full

module _ (n most : ℕ) (few : most ≤ max_products) (narrow : n + most ≤ max_variables) where
  -- a product more may be made
  one_more : (sch : Scheme) → sch.products < most → no_room n sch ≡ false
  one_more sch h = rw (lt-leb max_products sch.products (omega arith), lt-leb max_variables (variables n sch) (omega arith))

  join_room : (sch : Scheme) (a b : ℕ) → sch.products < most → join_pair n sch a b ≡ full → ⊥
  join_room sch a b h e = go (dec_lt (found n sch a b) (variables n sch))
    where
      go : Dec (found n sch a b < variables n sch) → ⊥
      go (yes l) = next_not_full (sym (join_found n sch a b l) ∙ e)
      go (no l) = next_not_full (sym (join_new n sch a b (omega (arith, found_within n sch a b)) (one_more sch h)) ∙ e)

  -- l is what is left of a list of three members or more, f pairs of which are joined
  pass_room : (k f : ℕ) (sch : Scheme) (l : List ℕ) → length l ≤ k → sch.products + (f + length l) ≤ most + 2 → 3 ≤ 2 * f + length l → pair_up n sch l ≡ full → ⊥
  unfolding pair_up
  pass_room k f sch [] s h m e = next_not_full e
  pass_room k f sch (a ∷ []) s h m e = next_not_full e
  pass_room zero f sch (a ∷ b ∷ rest) s h m e = omega arith
  pass_room (suc k) f sch (a ∷ b ∷ rest) s h m e =
      and_then_full (join_pair n sch a b) _ (join_room sch a b (omega arith))
      (λ p d. and_then_full (pair_up n p.scheme rest) _
      (pass_room k (suc f) p.scheme rest (omega arith) (omega (arith, join_adds n sch a b p d)) (omega arith))
      (λ q g. next_not_full))
      e

  reduce_room : (k : ℕ) (sch : Scheme) (l : List ℕ) → sch.products + length l ≤ most + 2 → reduce k n sch l ≡ full → ⊥
  reduce_room zero sch l h e = next_not_full (sym (reduce_zero n sch l) ∙ e)
  reduce_room (suc k) sch l h e = go (dec_lt 2 (length l)) (reduce_room k)
    where
      go : Dec (2 < length l) → ((sch : Scheme) (l : List ℕ) → sch.products + length l ≤ most + 2 → reduce k n sch l ≡ full → ⊥) → ⊥
      go (yes m) ih =
          and_then_full (pair_up n sch l) _ (pass_room (length l) 0 sch l (omega arith) (omega arith) (omega arith))
          (λ p d. ih p.scheme p.members (pass_kept n (Under n (most + 2)) (under_joins n (most + 2)) sch l p h d)) (sym (reduce_more n k sch l m) ∙ e)
      go (no m) ih = next_not_full (sym (reduce_done n (suc k) sch l (omega arith)) ∙ e)

pub term_room : (n : ℕ) (sch : Scheme) (m : ℕ) → sch.products + (named n m - 2) ≤ max_products → variables n sch + (named n m - 2) ≤ max_variables → build_term n sch m ≡ full → ⊥
unfolding build_term
term_room n sch m few narrow e =
    let l = choices_of n m in
    and_then_full (reduce (length l) n sch l) _
    (reduce_room n (sch.products + (length l - 2)) few (omega arith) (length l) sch l (omega arith))
    (λ q d. next_not_full)
    e

-- ---- all terms

module _ (r : Register) where
  built_adds : (k t : ℕ) (sch after : Scheme) → t + k ≡ r.terms → sch.products ≤ products_below r t → build_from r k t sch ≡ built after → after.products ≤ products_below r r.terms
  unfolding build_from
  built_adds zero t sch after l h e = let d : sch ≡ after = cc in rw (← d, ← l, add-zero) h
  built_adds (suc k) t sch after l h e =
      follow_built (build_term r.choices sch (mask r t)) t _ after
      (λ s d f. built_adds k (suc t) s after (omega arith) (omega (arith, term_at_most r.choices sch s (mask r t) d)) f)
      e

  below_rises : (k t : ℕ) → t + k ≡ r.terms → products_below r t ≤ products_below r r.terms
  below_rises zero t l = rw (← l, add-zero) (omega arith)
  below_rises (suc k) t l = omega (arith, below_rises k (suc t) (omega arith))

  module _ (few : products_below r r.terms ≤ max_products) (narrow : r.choices + products_below r r.terms ≤ max_variables) where
    build_room : (k t : ℕ) (sch : Scheme) → t + k ≡ r.terms → sch.products ≤ products_below r t → (after : Scheme) × (build_from r k t sch ≡ built after)
    unfolding build_from follow
    build_room zero t sch l h = (sch, refl)
    build_room (suc k) t sch l h =
        let rises = below_rises k (suc t) (omega arith) in
        step_cases (build_term r.choices sch (mask r t))
        (λ d. absurd (term_room r.choices sch (mask r t) (omega arith) (omega arith) d))
        (λ s d. let b = build_room k (suc t) s (omega arith) (omega (arith, term_at_most r.choices sch s (mask r t) d)) in (b.0, rw d b.1))

pub at_most : (r : Register) (sch : Scheme) → build r ≡ built sch → sch.products ≤ products_below r r.terms
unfolding build fresh
at_most r sch e = built_adds r r.terms 0 initial sch (omega arith) (omega arith) e

pub room : (r : Register) → products_below r r.terms ≤ max_products → r.choices + products_below r r.terms ≤ max_variables → (sch : Scheme) × (build r ≡ built sch)
unfolding build fresh
room r few narrow = build_room r few narrow r.terms 0 initial (omega arith) (omega arith)
