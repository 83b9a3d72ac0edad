-- The passes of a term form its unions: each pair that is joined has one of them, so where no product had one before the term, each pair makes
-- a product.
use mathlib.Core.Path.{◌≡◌, refl, sym, ◌∙◌, ap₂}
use mathlib.Core.List.{List, [], ◌∷◌, ◌++◌, map, map-append}
use Prim.Native.Nat.{ℕ, zero, suc, ◌+◌, ◌^◌, ◌<◌}
use native.Mathlib.Omega.{arith}
use native.Mathlib.Decide.{dec_lt}
use lib.ListN.{length, length-map}
use lib.Seq.{append_snoc}
use borrow.Author.Tests.{lt-leb}
use Rattle.integers.specs.Lists.{All}
use Rattle.scheme.specs.declared.Scheme.{Scheme}
use Rattle.scheme.specs.Scheme.{variables, Lengths}
use Rattle.scheme.specs.Variables.{E}
use Rattle.scheme.proofs.Variables.{E_choice}
use Rattle.builder.specs.Builder.{next, WithVariable, WithList, choices_of, join_pair, pair_up, reduce}
use Rattle.builder.specs.Work.{Inside}
use Rattle.builder.proofs.Steps.{and_then_next, same_next, reduce_done, reduce_zero, reduce_more}
use Rattle.builder.proofs.Steady.{All-front, All-back}
use Rattle.builder.proofs.Covers.{choices_below}
use Rattle.counting.specs.Counting.{named, pass, pass_unions, unions_from, NoUnionThere}
use Rattle.counting.proofs.Unions.{Absent, unions_absent}
use Rattle.counting.proofs.Pairs.{Laminar, Joined, laminar_joins, choices_laminar}

-- where the members have the same sets
map_same : (f g : ℕ → ℕ) (n : ℕ) → ((v : ℕ) → v < n → f v ≡ g v) → (l : List ℕ) → All (λ v. v < n) l → map f l ≡ map g l
map_same f g n same [] i = refl
map_same f g n same (v ∷ l) i = ap₂ (λ x xs. x ∷ xs) (same v i.0) (map_same f g n same l i.1)

module _ (n m : ℕ) (before : Scheme) (total : ℕ) where
  abbrev AllAbsent : List ℕ → Type 0
  AllAbsent = All (Absent n m before)

  -- within a pass, `front` is what the pairs before l gave: no product had a union that is still to be formed, of this pass or of the k after it
  record Passing (k : ℕ) (sch : Scheme) (front l : List ℕ) : Type 0 where
    pub laminar : Laminar n m before total sch (front ++ l)
    pub now : AllAbsent (pass_unions (map (E n sch) l))
    pub later : AllAbsent (unions_from k (map (E n sch) front ++ pass (map (E n sch) l)))

  passing_joins : (k : ℕ) (front rest : List ℕ) (sch : Scheme) (x y : ℕ) (p : WithVariable) → Passing k sch front (x ∷ y ∷ rest) → join_pair n sch x y ≡ next p → Passing k p.scheme (front ++ p.variable ∷ []) rest
  passing_joins k front rest sch x y p h e = record {
    laminar = rw append_snoc j.laminar;
    now = rw (← kept rest (All-back _ front (x ∷ y ∷ rest) inside).1.1) h.now.1;
    later =
        rw (map-append, append_snoc, j.union_is, ← kept front (All-front _ front (x ∷ y ∷ rest) inside), ← kept rest (All-back _ front (x ∷ y ∷ rest) inside).1.1)
        h.later;
  }
    where
      j : Joined n m before total front rest sch x y p
      j = laminar_joins n m before total front rest sch x y p h.laminar h.now.0 e

      inside : Inside n sch (front ++ x ∷ y ∷ rest)
      inside = h.laminar.holds.inside

      kept : (l : List ℕ) → Inside n sch l → map (E n sch) l ≡ map (E n p.scheme) l
      kept = map_same (E n sch) (E n p.scheme) (variables n sch) j.same

  -- what a pass leads to
  abbrev Passed : ℕ → Scheme → List ℕ → Type 0
  Passed k sch l = Laminar n m before total sch l × AllAbsent (unions_from k (map (E n sch) l))

  passed : (k : ℕ) (front : List ℕ) (sch : Scheme) (l : List ℕ) (q : WithList) → Passing k sch front l → pair_up n sch l ≡ next q → Passed k q.scheme (front ++ q.members)
  unfolding pair_up
  passed k front sch [] q h e = let d : q ≡ record { scheme = sch; members = [] } = cc in rw d (h.laminar, rw map-append h.later)
  passed k front sch (x ∷ []) q h e = let d : q ≡ record { scheme = sch; members = x ∷ [] } = cc in rw d (h.laminar, rw map-append h.later)
  passed k front sch (x ∷ y ∷ rest) q h e =
      and_then_next (join_pair n sch x y) _ q
      (λ p d. and_then_next (pair_up n p.scheme rest) _ q
      (λ r f g.
      let s : q ≡ record { scheme = r.scheme; members = p.variable ∷ r.members } = cc in
      rw (s, ← append_snoc front p.variable r.members) (passed k (front ++ (p.variable ∷ [])) p.scheme rest r (passing_joins k front rest sch x y p h d) f)))
      e

  -- a pass begins where more than two members are left
  passing : (k : ℕ) (sch : Scheme) (l : List ℕ) → 2 < length l → Passed (suc k) sch l → Passing k sch [] l
  unfolding unions_from
  passing k sch l s h =
      let sets = map (E n sch) l in
      let a : AllAbsent (pass_unions sets ++ unions_from k (pass sets)) = rw (length-map, lt-leb (length l) 2 s) at h.1 in
      record { laminar = h.0; now = All-front _ (pass_unions sets) _ a; later = All-back _ (pass_unions sets) _ a }

  reduce_laminar : (k : ℕ) (sch : Scheme) (l : List ℕ) (q : WithList) → Passed k sch l → reduce k n sch l ≡ next q → Laminar n m before total q.scheme q.members
  reduce_laminar zero sch l q h e = let d : record { scheme = sch; members = l } ≡ q = same_next (sym (reduce_zero n sch l) ∙ e) in rw (← d) h.0
  reduce_laminar (suc k) sch l q h e = go (dec_lt 2 (length l)) (reduce_laminar k)
    where
      go : Dec (2 < length l) → ((sch : Scheme) (l : List ℕ) (q : WithList) → Passed k sch l → reduce k n sch l ≡ next q → Laminar n m before total q.scheme q.members) → Laminar n m before total q.scheme q.members
      go (yes s) ih =
          and_then_next (pair_up n sch l) _ q (λ p d f. ih p.scheme p.members q (passed k [] sch l p (passing k sch l s h) d) f) (sym (reduce_more n k sch l s) ∙ e)
      go (no s) ih = let d : record { scheme = sch; members = l } ≡ q = same_next (sym (reduce_done n (suc k) sch l (omega arith)) ∙ e) in rw (← d) h.0

-- the passes of a whole term
pub term_laminar : (n m : ℕ) (before : Scheme) (q : WithList) → Lengths before → m < 2 ^ n → NoUnionThere n before m → reduce (named n m) n before (choices_of n m) ≡ next q → Laminar n m before (before.products + named n m) q.scheme q.members
term_laminar n m before q lengths names none =
    reduce_laminar n m before (before.products + named n m) (named n m) before (choices_of n m) q
    (choices_laminar n m before lengths names, rw (map_same (E n before) (λ i. 2 ^ i) n (E_choice n before) (choices_of n m) (choices_below n m)) (unions_absent n m before none))
