-- Exactly how many products are made: of a term that names k choices k − 2 where no product before it has one of its unions; so of each of
-- several terms that share no choice, since what an earlier one made is within its own mask.
use mathlib.Core.Path.{◌≡◌, refl, sym, ◌∙◌}
use mathlib.Core.Logic.{◌⊎◌, inl, inr, ⊎_elim}
use mathlib.Core.List.{List, [], ◌∷◌}
use Prim.Native.Nat.{ℕ, zero, suc, ◌+◌, ◌-◌, ◌^◌, min, max, ◌≤◌, ◌<◌}
use native.Mathlib.Nat.{add-zero}
use native.Mathlib.Omega.{arith}
use native.Mathlib.Decide.{dec_lt}
use lib.Dec.{T}
use lib.ListN.{length}
use Rattle.sets.specs.Sets.{is_subset}
use Rattle.register.specs.declared.Register.{Register}
use Rattle.register.specs.Register.{mask}
use Rattle.register.specs.Valid.{Valid}
use Rattle.scheme.specs.declared.Scheme.{Scheme}
use Rattle.scheme.specs.Scheme.{variables, fresh, initial, Lengths, with_split}
use Rattle.scheme.specs.Variables.{E}
use Rattle.scheme.proofs.Sets.{E_same}
use Rattle.scheme.proofs.Entries.{initial_within, lengths_within}
use Rattle.builder.specs.Builder.{next, WithList, built, choices_of, reduce, split_of, build_term, build_from, build}
use Rattle.builder.proofs.Steps.{and_then_next, same_next, follow_built, reduce_done, reduce_ends}
use Rattle.builder.proofs.Joining.{split_lengths}
use Rattle.counting.specs.Counting.{named, NoneShared, NoUnionThere, NoneWithin, products_below}
use Rattle.counting.proofs.Reducing.{reduce_two}
use Rattle.counting.proofs.Laminar.{disjoint_empty, within_covered}
use Rattle.counting.proofs.Unions.{no_union_there}
use Rattle.counting.proofs.Passes.{term_laminar}

-- ---- one term

-- passes end with two members, or with one or none where the list has no more
reduce_left : (n k : ℕ) (sch : Scheme) (l : List ℕ) (q : WithList) → length l ≤ k → reduce k n sch l ≡ next q → length q.members ≡ min 2 (length l)
reduce_left n k sch l q h e = go (dec_lt 2 (length l))
  where
    go : Dec (2 < length l) → length q.members ≡ min 2 (length l)
    go (yes m) = omega (arith, reduce_two n k sch l q (omega arith) e, (reduce_ends n k sch l q (omega arith) h e).1)
    go (no m) = let d : record { scheme = sch; members = l } ≡ q = same_next (sym (reduce_done n k sch l (omega arith)) ∙ e) in rw (← d) (omega arith)

-- what a term makes
pub record Made (n m : ℕ) (before after : Scheme) : Type 0 where
  pub lengths : Lengths after
  pub exact : after.products ≡ before.products + (named n m - 2)
  -- a variable is as before, or its set is not empty and within the mask
  pub each : (v : ℕ) → v < variables n after → ((v < variables n before) × (E n after v ≡ E n before v)) ⊎ ((E n after v ≡ 0 → ⊥) × T (is_subset (E n after v) m))

module _ (n m : ℕ) (before : Scheme) where
  -- a split changes no set
  with_more : (sch : Scheme) (a b : ℕ) → Made n m before sch → Made n m before (with_split sch a b)
  with_more sch a b h = record {
    lengths = split_lengths sch a b h.lengths;
    exact = h.exact;
    each = λ v l. rw (← same v) (h.each v l);
  }
    where
      same : (v : ℕ) → E n sch v ≡ E n (with_split sch a b) v
      same v = E_same n sch (with_split sch a b) (suc v) (λ w x y. (refl, refl)) v (omega arith)

  split_made : (sch : Scheme) (l : List ℕ) → Made n m before sch → Made n m before (split_of sch l)
  unfolding split_of
  split_made sch [] h = h
  split_made sch (a ∷ []) h = with_more sch a a h
  split_made sch (a ∷ b ∷ l) h = with_more sch (min a b) (max a b) h

  pub term_made : (after : Scheme) → Lengths before → m < 2 ^ n → NoUnionThere n before m → build_term n before m ≡ next after → Made n m before after
  unfolding build_term
  term_made after lengths names none e =
      and_then_next (reduce (named n m) n before (choices_of n m)) _ after
      (λ q d f.
      let g : split_of q.scheme q.members ≡ after = same_next f in
      let h = term_laminar n m before q lengths names none d in
      rw (← g) (split_made q.scheme q.members (record {
        lengths = h.lengths;
        exact = omega (arith, h.exact, reduce_left n (named n m) before (choices_of n m) q (omega arith) d);
        each = λ v l. ⊎_elim (λ a. inl (a.0, a.1)) (λ a. inr (a.0, within_covered (E n q.scheme) m (E n q.scheme v) q.members h.holds.covers a.1)) (h.placed v l);
      })))
      e

-- ---- all terms

module _ (r : Register) (valid : Valid r) (apart : NoneShared r) where
  -- before term t: no product is within the mask of a term that is left
  record Before (t : ℕ) (sch : Scheme) : Type 0 where
    pub lengths : Lengths sch
    pub exact : sch.products ≡ products_below r t
    pub none : (u : ℕ) → t ≤ u → u < r.terms → NoneWithin r.choices sch (mask r u)

  starts : Before 0 initial
  unfolding fresh
  starts = record { lengths = lengths_within (initial_within r valid.within.choices.few); exact = omega arith; none = λ u l k v a b. absurd (omega arith) }

  term_before : (t : ℕ) (sch after : Scheme) → t < r.terms → Before t sch → build_term r.choices sch (mask r t) ≡ next after → Before (suc t) after
  term_before t sch after l h e = record {
    lengths = made.lengths;
    exact = omega (arith, h.exact, made.exact);
    none = λ u a k v b c s. ⊎_elim (λ x. h.none u (omega arith) k v b x.0 (rw x.1 at s)) (λ x. x.0 (disjoint_empty (mask r t) (mask r u) (E r.choices after v) (apart t u (omega arith) k) x.1 s)) (made.each v c);
  }
    where
      made : Made r.choices (mask r t) sch after
      made = term_made r.choices (mask r t) sch after h.lengths (valid.within.terms.each t l).mask_names (no_union_there r.choices sch (mask r t) (h.none t (omega arith) l)) e

  exactly_from : (k t : ℕ) (sch after : Scheme) → t + k ≡ r.terms → Before t sch → build_from r k t sch ≡ built after → after.products ≡ products_below r r.terms
  unfolding build_from
  exactly_from zero t sch after l h e = let q : sch ≡ after = cc in rw (← q, ← l, add-zero) h.exact
  exactly_from (suc k) t sch after l h e =
      follow_built (build_term r.choices sch (mask r t)) t _ after
      (λ s f g. exactly_from k (suc t) s after (omega arith) (term_before t sch s (omega arith) h f) g)
      e

pub exactly : (r : Register) (sch : Scheme) → Valid r → NoneShared r → build r ≡ built sch → sch.products ≡ products_below r r.terms
unfolding build
exactly r sch valid apart e = exactly_from r valid apart r.terms 0 initial sch (omega arith) (starts r valid apart) e
