-- The list of a term: members are variables with nonempty sets, and each choice of the mask is in just one of them.
use mathlib.Core.Path.{◌≡◌, refl, sym, ◌∙◌, ap₂}
use mathlib.Core.Bool.{Bool, true, false, cond, ◌||◌}
use mathlib.Core.List.{List, [], ◌∷◌, ◌++◌}
use Prim.Native.Nat.{ℕ, ◌+◌, min, max, ◌≤◌, ◌<◌}
use native.Mathlib.Omega.{arith}
use lib.Bits.{bit_or, or_comm, or_add_and, and_le_l, and_le_r}
use Rattle.integers.specs.Lists.{All}
use Rattle.integers.proofs.Lists.{All-append, flag}
use Rattle.sets.specs.Sets.{is_member}
use Rattle.sets.proofs.Sets.{member_or, none_empty}
use Rattle.register.specs.declared.Register.{Register}
use Rattle.scheme.specs.declared.Scheme.{Scheme}
use Rattle.scheme.specs.Scheme.{variables, with_product}
use Rattle.scheme.specs.Variables.{E}
use Rattle.scheme.specs.Format.{union_of}
use Rattle.scheme.specs.Valid.{Within}
use Rattle.scheme.proofs.Sets.{E_same, new_at}
use Rattle.scheme.proofs.Passes.{room_left}
use Rattle.scheme.proofs.Entries.{lengths_within, grown_agree, grown_set, product_more}
use Rattle.builder.specs.Builder.{next, WithVariable, join_pair}
use Rattle.builder.specs.Work.{Inside}
use Rattle.builder.proofs.Steps.{found, found_has, found_new, join_cases}
use Rattle.builder.proofs.Joining.{sorted}
use Rattle.builder.proofs.Steady.{All-front, All-back, inside_grown}
use Rattle.builder.proofs.Covers.{held, held_append}

-- ---- sets

-- a union is empty only where both sets are
or_none_empty : (a b : ℕ) → bit_or a b ≡ 0 → a ≡ 0
or_none_empty a b e = omega (arith, or_add_and a b, and_le_l a b, and_le_r a b)

-- of two sets that do not both have a choice
bit_or_lem : (x y : Bool) → cond x 1 0 + cond y 1 0 ≤ 1 → cond (x || y) 1 0 ≡ cond x 1 0 + cond y 1 0
bit_or_lem true true h = absurd (omega arith)
bit_or_lem true false h = refl
bit_or_lem false true h = refl
bit_or_lem false false h = refl

pub bit_small : (x : Bool) → cond x 1 0 ≤ 1
bit_small true = omega arith
bit_small false = omega arith

held_same : (f g : ℕ → ℕ) (i : ℕ) (l : List ℕ) → All (λ v. f v ≡ g v) l → held f i l ≡ held g i l
held_same f g i [] h = refl
held_same f g i (v ∷ l) h = ap₂ (λ x y. cond (is_member i x) 1 0 + y) h.0 (held_same f g i l h.1)

All-both : {A : Type 0} (P Q R : A → Type 0) → ((x : A) → P x → Q x → R x) → (l : List A) → All P l → All Q l → All R l
All-both P Q R f [] h k = tt
All-both P Q R f (x ∷ l) h k = (f x h.0 k.0, All-both P Q R f l h.1 k.1)

-- ---- what holds of the list

pub record Holds (n m : ℕ) (sch : Scheme) (l : List ℕ) : Type 0 where
  pub inside : Inside n sch l
  pub nonempty : All (λ v. E n sch v ≡ 0 → ⊥) l
  pub covers : (i : ℕ) → held (E n sch) i l ≡ cond (is_member i m) 1 0

module _ {n m : ℕ} {sch : Scheme} (front rest : List ℕ) (a b : ℕ) (h : Holds n m sch (front ++ a ∷ b ∷ rest)) where
  there : (a < variables n sch) × (b < variables n sch)
  there = let k = All-back (λ v. v < variables n sch) front (a ∷ b ∷ rest) h.inside in (k.0, k.1.0)

  -- the two do not share a choice
  apart : (i : ℕ) → cond (is_member i (E n sch a)) 1 0 + cond (is_member i (E n sch b)) 1 0 ≤ 1
  apart i = omega (arith, h.covers i, held_append (E n sch) i front (a ∷ b ∷ rest), bit_small (is_member i m))

  pub differ : a ≡ b → ⊥
  differ e =
      (All-back (λ v. E n sch v ≡ 0 → ⊥) front (a ∷ b ∷ rest) h.nonempty).0
      (none_empty (E n sch a) (λ i. flag (is_member i (E n sch a)) (λ t. absurd (omega (arith, rw (← e, t) at (apart i)))) (λ t. t)))

  -- another scheme with the same sets, and a variable of it whose set is the union
  module _ (sch' : Scheme) (x : ℕ) (rises : sch.products ≤ sch'.products) (same : (v : ℕ) → v < variables n sch → E n sch v ≡ E n sch' v)
      (lx : x < variables n sch') (union : E n sch' x ≡ union_of n sch a b) where
    kept : (l : List ℕ) → Inside n sch l → All (λ v. E n sch v ≡ 0 → ⊥) l → All (λ v. E n sch' v ≡ 0 → ⊥) l
    kept l = All-both _ _ _ (λ v k d e. d (same v k ∙ e)) l

    agree : (l : List ℕ) → Inside n sch l → (i : ℕ) → held (E n sch') i l ≡ held (E n sch) i l
    agree l k i = held_same (E n sch') (E n sch) i l (All-both _ _ _ (λ v d _. sym (same v d)) l k k)

    pub holds_joined : Holds n m sch' (front ++ x ∷ rest)
    holds_joined =
        let fi = All-front _ front (a ∷ b ∷ rest) h.inside in
        let ri = (All-back _ front (a ∷ b ∷ rest) h.inside).1.1 in
        let fn = All-front _ front (a ∷ b ∷ rest) h.nonempty in
        let rn = All-back _ front (a ∷ b ∷ rest) h.nonempty in
        record {
          inside = All-append _ front (x ∷ rest) (inside_grown n sch sch' front rises fi) (lx, inside_grown n sch sch' rest rises ri);
          nonempty = All-append _ front (x ∷ rest) (kept front fi fn) ((λ e. rn.0 (or_none_empty _ _ (sym union ∙ e))), kept rest ri rn.1.1);
          covers = λ i.
              let u : cond (is_member i (E n sch' x)) 1 0 ≡ cond (is_member i (E n sch a)) 1 0 + cond (is_member i (E n sch b)) 1 0 =
              rw (union, member_or) (bit_or_lem (is_member i (E n sch a)) (is_member i (E n sch b)) (apart i)) in
              omega (arith, h.covers i, held_append (E n sch) i front (a ∷ b ∷ rest), held_append (E n sch') i front (x ∷ rest), u, agree front fi i, agree rest ri i);
        }

-- ---- and of the scheme

pub record Holding (reg : Register) (m splits : ℕ) (sch : Scheme) (l : List ℕ) : Type 0 where
  pub within : Within reg sch
  pub holds : Holds reg.choices m sch l
  pub splits_kept : sch.splits ≡ splits

module _ (reg : Register) (m splits : ℕ) where
  abbrev n : ℕ
  n = reg.choices

  pub holding_joins : (front rest : List ℕ) (sch : Scheme) (a b : ℕ) (p : WithVariable) → Holding reg m splits sch (front ++ a ∷ b ∷ rest) → join_pair reg.choices sch a b ≡ next p → Holding reg m splits p.scheme (front ++ p.variable ∷ rest)
  holding_joins front rest sch a b p h e =
      join_cases n sch a b p e
      (λ l d. rw d (record {
        within = h.within;
        holds = holds_joined front rest a b h.holds sch (found n sch a b) (omega arith) (λ v _. refl) l (found_has n sch a b l);
        splits_kept = h.splits_kept;
      }))
      (λ k f d. let (few, room) = room_left sch.products (variables n sch) f in rw d (record {
        within =
            product_more reg sch h.within (min a b) (max a b)
            (record {
              few = few;
              room = room;
              fits = record {
                ordered = omega (arith, differ front rest a b h.holds);
                falls = omega (arith, pair.0, pair.1);
                new = λ v l q. new_at n sch _ (found_new n sch a b k) v l (q ∙ sorted_union);
              };
            });
        holds =
            holds_joined front rest a b h.holds (with_product sch (min a b) (max a b)) (variables n sch) (omega arith)
            (E_same n sch (with_product sch (min a b) (max a b)) (variables n sch) (grown_agree sch (min a b) (max a b) n))
            (omega arith)
            (grown_set sch (min a b) (max a b) n (lengths_within h.within) few (omega (arith, pair.0, pair.1)) (omega (arith, pair.0, pair.1)) ∙ sorted_union);
        splits_kept = h.splits_kept;
      }))
    where
      pair : (a < variables n sch) × (b < variables n sch)
      pair = there front rest a b h.holds

      sorted_union : union_of n sch (min a b) (max a b) ≡ union_of n sch a b
      sorted_union = sorted (union_of n sch) (λ x y. or_comm (E n sch x) (E n sch y)) a b
