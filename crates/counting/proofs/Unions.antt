-- The unions of a term are within its mask; so where no product has a set within the mask, none has one of them.
use mathlib.Core.Path.{◌≡◌}
use mathlib.Core.List.{List, [], ◌∷◌, map}
use Prim.Native.Nat.{ℕ, zero, suc, ◌^◌, ◌≤◌, ◌<◌}
use native.Mathlib.Omega.{arith}
use lib.Bits.{bit_or}
use lib.Dec.{T, leb}
use lib.ListN.{length}
use Rattle.integers.specs.Lists.{All}
use Rattle.integers.proofs.Lists.{T_and, All-append, All-map, All-join, cond_cases}
use Rattle.sets.specs.Sets.{is_member, is_subset}
use Rattle.sets.proofs.Sets.{subset_or, subset_one}
use Rattle.scheme.specs.declared.Scheme.{Scheme}
use Rattle.scheme.specs.Scheme.{variables}
use Rattle.scheme.specs.Variables.{E}
use Rattle.builder.specs.Builder.{choices_of}
use Rattle.counting.specs.Counting.{pass, pass_unions, unions_from, term_unions, NoUnionThere, NoneWithin}

module _ (m : ℕ) where
  abbrev Within : ℕ → Type 0
  Within u = T (is_subset u m)

  pass_within : (sets : List ℕ) → All Within sets → All Within (pass sets) × All Within (pass_unions sets)
  pass_within [] h = (tt, tt)
  pass_within (a ∷ []) h = (h, tt)
  pass_within (a ∷ b ∷ rest) h =
      let u : Within (bit_or a b) = rw subset_or ((T_and (is_subset a m) (is_subset b m)).1 (h.0, h.1.0)) in
      let r = pass_within rest h.1.1 in
      ((u, r.0), (u, r.1))

  unions_within : (k : ℕ) (sets : List ℕ) → All Within sets → All Within (unions_from k sets)
  unfolding unions_from
  unions_within zero sets h = tt
  unions_within (suc k) sets h =
      let r = pass_within sets h in
      cond_cases (All Within) (leb (length sets) 2) [] _ (λ _. tt) (λ _. All-append Within (pass_unions sets) _ r.1 (unions_within k (pass sets) r.0))

  lone_within : (l : List ℕ) → All (λ i. T (is_member i m)) l → All Within (map (λ i. 2 ^ i) l)
  lone_within [] h = tt
  lone_within (i ∷ l) h = (rw subset_one h.0, lone_within l h.1)

  term_within : (n : ℕ) → All Within (term_unions n m)
  unfolding choices_of
  term_within n =
      unions_within _ _
      (lone_within (choices_of n m)
      (All-join _ n _ (λ i _. cond_cases (All (λ i. T (is_member i m))) (is_member i m) (i ∷ []) [] (λ t. (t, tt)) (λ _. tt))))

pub no_union_there : (n : ℕ) (sch : Scheme) (m : ℕ) → NoneWithin n sch m → NoUnionThere n sch m
no_union_there n sch m none v a l = All-map (Within m) _ (λ u s e. none v a l (rw e s)) (term_unions n m) (term_within m n)

-- a set within the mask, and of no product that is there
abbrev pub Absent : ℕ → ℕ → Scheme → ℕ → Type 0
Absent n m sch u = T (is_subset u m) × ((v : ℕ) → n ≤ v → v < variables n sch → E n sch v ≡ u → ⊥)

pub unions_absent : (n m : ℕ) (sch : Scheme) → NoUnionThere n sch m → All (Absent n m sch) (term_unions n m)
unions_absent n m sch none = go (term_unions n m) (term_within m n) (λ v a l. none v (omega arith) l)
  where
    go : (sets : List ℕ) → All (Within m) sets → ((v : ℕ) → n ≤ v → v < variables n sch → All (λ u. E n sch v ≡ u → ⊥) sets) → All (Absent n m sch) sets
    go [] h f = tt
    go (u ∷ sets) h f = ((h.0, λ v a l. (f v a l).0), go sets h.1 (λ v a l. (f v a l).1))
