-- The code's joining of a pair, and its splits, by the definition.
use mathlib.Core.Path.{◌≡◌, refl, sym, ◌∙◌}
use mathlib.Core.Bool.{true, false}
use mathlib.Core.List.{List, [], ◌∷◌}
use Prim.Native.Nat.{ℕ, zero, suc, ◌+◌, ◌-◌, min, max, ◌≤◌, ◌<◌}
use native.Mathlib.Omega.{arith}
use native.Mathlib.Decide.{dec_lt}
use lib.Bits.{or_comm}
use lib.ListN.{length, take, set, get_or, length-set}
use Rattle.integers.proofs.Search.{first_below_same}
use Rattle.scheme.specs.declared.Scheme.{Scheme}
use Rattle.scheme.specs.Scheme.{max_products, max_variables, variables, Lengths, with_product, with_split}
use Rattle.scheme.specs.Sets.{SetsBelow, first_in, union_in}
use Rattle.scheme.proofs.Sets.{union_in_lem}
use Rattle.scheme.proofs.Passes.{room_left}
use Rattle.scheme.proofs.Entries.{grown_sets}
use Rattle.builder.specs.Builder.{full, next, first_with, join_pair, split_of}
use Rattle.builder.specs.Ready.{Ready}
use Rattle.builder.proofs.Steps.{found, no_room, join_found, join_full, join_new}

-- the smaller and the larger of two, where their order does not matter
pub sorted : {A : Type 0} (f : ℕ → ℕ → A) → ((x y : ℕ) → f x y ≡ f y x) → (a b : ℕ) → f (min a b) (max a b) ≡ f a b
sorted f same a b = go (dec_lt b a)
  where
    go : Dec (b < a) → f (min a b) (max a b) ≡ f a b
    go (yes l) = let d : min a b ≡ b = omega arith in let e : max a b ≡ a = omega arith in rw (d, e) (same b a)
    go (no l) = let d : min a b ≡ a = omega arith in let e : max a b ≡ b = omega arith in rw (d, e)

-- one product more, of two variables
pub product_lengths : (s : Scheme) (l r : ℕ) → Lengths s → Lengths (with_product s l r)
product_lengths s l r h = record {
  lefts = length-set s.lefts _ _ ∙ h.lefts;
  rights = length-set s.rights _ _ ∙ h.rights;
  split_lefts = h.split_lefts;
  split_rights = h.split_rights;
}

pub split_lengths : (s : Scheme) (l r : ℕ) → Lengths s → Lengths (with_split s l r)
split_lengths s l r h = record {
  lefts = h.lefts;
  rights = h.rights;
  split_lefts = length-set s.split_lefts _ _ ∙ h.split_lefts;
  split_rights = length-set s.split_rights _ _ ∙ h.split_rights;
}

-- the split of one member or two
pub split_is : (s : Scheme) (list : List ℕ) (count : ℕ) → 1 ≤ count → count ≤ 2 → 2 ≤ length list → split_of s (take count list) ≡ with_split s (min (get_or list 0 0) (get_or list (count - 1) 0)) (max (get_or list 0 0) (get_or list (count - 1) 0))
unfolding split_of
split_is s [] count h k l = absurd (omega arith)
split_is s (a ∷ []) count h k l = absurd (omega arith)
split_is s (a ∷ b ∷ rest) zero h k l = absurd (omega arith)
split_is s (a ∷ b ∷ rest) (suc zero) h k l = let d : min a a ≡ a = omega arith in let e : max a a ≡ a = omega arith in rw (d, e)
split_is s (a ∷ b ∷ rest) (suc (suc zero)) h k l = refl
split_is s (a ∷ b ∷ rest) (suc (suc (suc count))) h k l = absurd (omega arith)

-- where there is a member, it is a split more
pub split_some : {G : Type 0} (s : Scheme) (l : List ℕ) → 1 ≤ length l → ((a b : ℕ) → split_of s l ≡ with_split s a b → G) → G
unfolding split_of
split_some s [] h f = absurd (omega arith)
split_some s (a ∷ []) h f = f a a refl
split_some s (a ∷ b ∷ l) h f = f (min a b) (max a b) refl

module _ {n : ℕ} {s : Scheme} {sets : List ℕ} (ready : Ready n s sets) {a b : ℕ} (la : a < variables n s) (lb : b < variables n s) {union : ℕ} (union_is : union ≡ union_in sets a b) where
  found_is : first_in sets (variables n s) union ≡ found n s a b
  unfolding first_in first_with
  found_is = first_below_same _ _ _ (λ i l. rw (ready.sets_are.below i l, union_is ∙ union_in_lem ready.sets_are a b la lb))

  -- a variable has the union
  pub joins_found : (v : ℕ) → v < variables n s → v ≡ first_in sets (variables n s) union → next (record { scheme = s; variable = v }) ≡ join_pair n s a b
  joins_found v l e = let d : v ≡ found n s a b = e ∙ found_is in rw d (sym (join_found n s a b (rw d at l)))

  module _ (none : first_in sets (variables n s) union ≡ variables n s) where
    -- none has it, and there is no room for a product
    pub joins_full : no_room n s ≡ true → full ≡ join_pair n s a b
    joins_full m = sym (join_full n s a b (sym found_is ∙ none) m)

    -- the product is made
    module _ (m : no_room n s ≡ false) (made : Scheme) (e : made ≡ with_product s (min a b) (max a b)) where
      pub joins_new : next (record { scheme = made; variable = variables n s }) ≡ join_pair n s a b
      joins_new = rw e (sym (join_new n s a b (sym found_is ∙ none) m))

      pub new_ready : Ready n made (set sets (variables n s) union)
      new_ready = rw e (record { few = ready.few; within = room.0; variables_within = omega (arith, room.1); lengths = product_lengths s _ _ ready.lengths; sets_are = sets_are })
        where
          room : (s.products < max_products) × (variables n s < max_variables)
          room = room_left s.products (variables n s) m

          union_same : union_in sets (min a b) (max a b) ≡ union
          union_same = sorted (union_in sets) (λ x y. or_comm (get_or sets x 0) (get_or sets y 0)) a b ∙ sym union_is

          sets_are : SetsBelow n (with_product s (min a b) (max a b)) (n + suc s.products) (set sets (variables n s) union)
          sets_are =
              rw (← union_same)
              (grown_sets s (min a b) (max a b) n ready.lengths room.0 ready.sets_are room.1 (omega arith) (omega arith))
