-- The list of a term while its pairs are joined: where the union of a pair was the set of no product before the term, it is the set of no
-- variable that is there, so a product is made.
use mathlib.Core.Path.{◌≡◌, refl, sym, ◌∙◌}
use mathlib.Core.Logic.{◌⊎◌, inl, inr, ⊎_elim}
use mathlib.Core.List.{List, ◌∷◌, ◌++◌}
use Prim.Native.Nat.{ℕ, ◌+◌, ◌^◌, min, max, ◌<◌}
use native.Mathlib.Omega.{arith}
use native.Mathlib.Decide.{ℕ_discrete, dec_lt}
use lib.Bits.{or_comm}
use lib.Dec.{T}
use lib.ListN.{length, length-append}
use lib.Pow.{pow_pos}
use Rattle.integers.specs.Lists.{All}
use Rattle.integers.proofs.Lists.{flag}
use Rattle.sets.specs.Sets.{is_member, is_subset}
use Rattle.sets.proofs.Sets.{subset_one}
use Rattle.sets.proofs.Subsets.{subset_trans}
use Rattle.scheme.specs.declared.Scheme.{Scheme}
use Rattle.scheme.specs.Scheme.{max_products, variables, Lengths, with_product}
use Rattle.scheme.specs.Variables.{E}
use Rattle.scheme.specs.Format.{union_of}
use Rattle.scheme.proofs.Variables.{E_choice}
use Rattle.scheme.proofs.Sets.{E_same}
use Rattle.scheme.proofs.Passes.{room_left}
use Rattle.scheme.proofs.Entries.{grown_agree, grown_set}
use Rattle.builder.specs.Builder.{next, WithVariable, choices_of, join_pair}
use Rattle.builder.specs.Work.{Inside}
use Rattle.builder.proofs.Steps.{found, found_has, join_cases}
use Rattle.builder.proofs.Joining.{sorted, product_lengths}
use Rattle.builder.proofs.Steady.{All-front, All-back}
use Rattle.builder.proofs.Holds.{Holds, holds_joined}
use Rattle.builder.proofs.Unions.{choices_hold}
use Rattle.counting.specs.Counting.{named}
use Rattle.counting.proofs.Unions.{Absent}
use Rattle.counting.proofs.Laminar.{subset_refl, union_left, union_right, WithinOne, within_front, within_back, within_append, within_same, union_within_none, choices_within}

module _ (n m : ℕ) (before : Scheme) where
  -- a variable is as before the term and no union of it has its set, or its set is not empty and within that of a member
  abbrev pub Placed : Scheme → List ℕ → ℕ → Type 0
  Placed sch l v =
      ((v < variables n before) × (E n sch v ≡ E n before v) × (Absent n m before (E n sch v) → ⊥))
      ⊎ ((E n sch v ≡ 0 → ⊥) × WithinOne (E n sch) (E n sch v) l)

  -- and products and members together are as many as at the start
  pub record Laminar (total : ℕ) (sch : Scheme) (l : List ℕ) : Type 0 where
    pub lengths : Lengths sch
    pub holds : Holds n m sch l
    pub exact : sch.products + length l ≡ total
    pub placed : (v : ℕ) → v < variables n sch → Placed sch l v

  module _ (total : ℕ) (front rest : List ℕ) (sch : Scheme) (x y : ℕ) (h : Laminar total sch (front ++ x ∷ y ∷ rest)) where
    -- the union of the pair, where no product before the term has it, is the set of no variable
    union_new : Absent n m before (union_of n sch x y) → (v : ℕ) → v < variables n sch → E n sch v ≡ union_of n sch x y → ⊥
    union_new absent v l e = ⊎_elim (λ a. a.2 (rw e absent)) (λ a. none (rw e at a.1)) (h.placed v l)
      where
        some : All (λ v. E n sch v ≡ 0 → ⊥) (x ∷ y ∷ rest)
        some = All-back (λ v. E n sch v ≡ 0 → ⊥) front (x ∷ y ∷ rest) h.holds.nonempty

        none : WithinOne (E n sch) (union_of n sch x y) (front ++ x ∷ y ∷ rest) → ⊥
        none = union_within_none (E n sch) m front rest x y h.holds.covers some.0 some.1.0

    -- so it makes a product
    module _ (few : sch.products < max_products) where
      abbrev made : Scheme
      made = with_product sch (min x y) (max x y)

      inside : (x < variables n sch) × (y < variables n sch)
      inside = let a = All-back (λ v. v < variables n sch) front (x ∷ y ∷ rest) h.holds.inside in (a.0, a.1.0)

      same : (v : ℕ) → v < variables n sch → E n sch v ≡ E n made v
      same = E_same n sch made (variables n sch) (grown_agree sch (min x y) (max x y) n)

      union_is : E n made (variables n sch) ≡ union_of n sch x y
      union_is =
          grown_set sch (min x y) (max x y) n h.lengths few (omega (arith, inside.0, inside.1)) (omega (arith, inside.0, inside.1))
          ∙ sorted (union_of n sch) (λ u v. or_comm (E n sch u) (E n sch v)) x y

      holds_made : Holds n m made (front ++ variables n sch ∷ rest)
      holds_made = holds_joined front rest x y h.holds made (variables n sch) (omega arith) same (omega arith) union_is

      -- what was within the set of a member still is
      within_made : (e : ℕ) → WithinOne (E n sch) e (front ++ x ∷ y ∷ rest) → WithinOne (E n made) e (front ++ variables n sch ∷ rest)
      within_made e w = go (within_append (E n sch) e front (x ∷ y ∷ rest) w)
        where
          kept : (l : List ℕ) → Inside n sch l → WithinOne (E n sch) e l → WithinOne (E n made) e l
          kept = within_same (E n sch) (E n made) e (variables n sch) same

          joined : T (is_subset e (union_of n sch x y)) → WithinOne (E n made) e (front ++ variables n sch ∷ rest)
          joined s = within_back (E n made) e front (variables n sch ∷ rest) (inl (rw union_is s))

          go : WithinOne (E n sch) e front ⊎ WithinOne (E n sch) e (x ∷ y ∷ rest) → WithinOne (E n made) e (front ++ variables n sch ∷ rest)
          go (inl a) = within_front (E n made) e front (variables n sch ∷ rest) (kept front (All-front _ front (x ∷ y ∷ rest) h.holds.inside) a)
          go (inr (inl s)) = joined (subset_trans e (E n sch x) (union_of n sch x y) s (union_left (E n sch x) (E n sch y)))
          go (inr (inr (inl s))) = joined (subset_trans e (E n sch y) (union_of n sch x y) s (union_right (E n sch x) (E n sch y)))
          go (inr (inr (inr a))) = within_back (E n made) e front (variables n sch ∷ rest) (inr (kept rest (All-back _ front (x ∷ y ∷ rest) h.holds.inside).1.1 a))

      placed_made : (v : ℕ) → v < variables n made → Dec (v ≡ variables n sch) → Placed made (front ++ variables n sch ∷ rest) v
      placed_made v l (yes q) = rw q (inr (some, within_back (E n made) (E n made (variables n sch)) front (variables n sch ∷ rest) (inl (subset_refl (E n made (variables n sch))))))
        where
          some : E n made (variables n sch) ≡ 0 → ⊥
          some = (All-back (λ v. E n made v ≡ 0 → ⊥) front (variables n sch ∷ rest) holds_made.nonempty).0
      placed_made v l (no q) = let k : v < variables n sch = omega arith in rw (← same v k) (⊎_elim (λ a. inl a) (λ a. inr (a.0, within_made (E n sch v) a.1)) (h.placed v k))

      laminar_made : Laminar total made (front ++ variables n sch ∷ rest)
      laminar_made = record {
        lengths = product_lengths sch _ _ h.lengths;
        holds = holds_made;
        exact = omega (arith, h.exact, length-append front (x ∷ y ∷ rest), length-append front (variables n sch ∷ rest));
        placed = λ v l. placed_made v l (ℕ_discrete v (variables n sch));
      }

  -- what joining a pair leads to
  pub record Joined (total : ℕ) (front rest : List ℕ) (sch : Scheme) (x y : ℕ) (p : WithVariable) : Type 0 where
    pub laminar : Laminar total p.scheme (front ++ p.variable ∷ rest)
    pub same : (v : ℕ) → v < variables n sch → E n sch v ≡ E n p.scheme v
    pub union_is : E n p.scheme p.variable ≡ union_of n sch x y

  pub laminar_joins : (total : ℕ) (front rest : List ℕ) (sch : Scheme) (x y : ℕ) (p : WithVariable) → Laminar total sch (front ++ x ∷ y ∷ rest) → Absent n m before (union_of n sch x y) → join_pair n sch x y ≡ next p → Joined total front rest sch x y p
  laminar_joins total front rest sch x y p h absent e =
      join_cases n sch x y p e
      (λ l d. absurd (union_new total front rest sch x y h absent (found n sch x y) l (found_has n sch x y l)))
      (λ k f d.
      let few = (room_left sch.products (variables n sch) f).0 in
      rw d (record { laminar = laminar_made total front rest sch x y h few; same = same total front rest sch x y h few; union_is = union_is total front rest sch x y h few }))

  -- at the start of a term
  pub choices_laminar : Lengths before → m < 2 ^ n → Laminar (before.products + named n m) before (choices_of n m)
  choices_laminar lengths names = record {
    lengths = lengths;
    holds = choices_hold n m before names;
    exact = refl;
    placed = λ v l. placed v l (dec_lt v n);
  }
    where
      placed : (v : ℕ) → v < variables n before → Dec (v < n) → Placed before (choices_of n m) v
      placed v l (yes a) =
          flag (is_member v m)
          (λ e. inr ((λ d. omega (arith, pow_pos v, sym (E_choice n before v a) ∙ d)), choices_within (E n before) n m v a e))
          (λ e. inl (l, refl, λ t. rw (E_choice n before v a, subset_one, e) at t.0))
      placed v l (no a) = inl (l, refl, λ t. t.1 v (omega arith) l refl)
