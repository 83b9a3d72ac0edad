-- The list of a term at the start, its choices, and at the end, when one member or two have the mask.
use mathlib.Core.Path.{◌≡◌, refl, sym, ◌∙◌}
use mathlib.Core.Bool.{Bool, true, false, cond, ◌||◌}
use mathlib.Core.List.{[], ◌∷◌}
use Prim.Native.Nat.{ℕ, ◌+◌, ◌^◌, ◌<◌}
use native.Mathlib.Omega.{arith}
use lib.Pow.{pow_pos}
use Rattle.integers.proofs.Lists.{All-map}
use Rattle.sets.specs.Sets.{is_member}
use Rattle.sets.proofs.Sets.{member_or, same_members}
use Rattle.scheme.specs.declared.Scheme.{Scheme}
use Rattle.scheme.specs.Scheme.{variables}
use Rattle.scheme.specs.Variables.{E}
use Rattle.scheme.specs.Format.{union_of}
use Rattle.scheme.proofs.Variables.{E_choice}
use Rattle.builder.specs.Builder.{choices_of}
use Rattle.builder.proofs.Covers.{held_choices, choices_below}
use Rattle.builder.proofs.Holds.{Holds}

-- ---- the list at the start and at the end

pub choices_hold : (n m : ℕ) (sch : Scheme) → m < 2 ^ n → Holds n m sch (choices_of n m)
choices_hold n m sch l = record {
  inside = All-map (λ v. v < n) (λ v. v < variables n sch) (λ v h. omega arith) (choices_of n m) (choices_below n m);
  nonempty = All-map (λ v. v < n) (λ v. E n sch v ≡ 0 → ⊥) (λ v h e. omega (arith, pow_pos v, sym (E_choice n sch v h) ∙ e)) (choices_of n m) (choices_below n m);
  covers = held_choices (E n sch) n m (E_choice n sch) l;
}

bits_same : (x y z : Bool) → cond x 1 0 + cond y 1 0 ≡ cond z 1 0 → (x || y) ≡ z
bits_same true true true e = refl
bits_same true true false e = absurd (omega arith)
bits_same true false true e = refl
bits_same true false false e = absurd (omega arith)
bits_same false true true e = refl
bits_same false true false e = absurd (omega arith)
bits_same false false true e = absurd (omega arith)
bits_same false false false e = refl

bit_same : (x z : Bool) → ◌≡◌ {A = ℕ} (cond x 1 0) (cond z 1 0) → (x || x) ≡ z
bit_same true true e = refl
bit_same true false e = absurd (omega arith)
bit_same false true e = absurd (omega arith)
bit_same false false e = refl

module _ {n m : ℕ} {sch : Scheme} where
  -- one member has the mask
  pub union_one : (a : ℕ) → Holds n m sch (a ∷ []) → union_of n sch a a ≡ m
  union_one a h =
      same_members (union_of n sch a a) m
      (λ i. member_or i (E n sch a) (E n sch a) ∙ bit_same (is_member i (E n sch a)) (is_member i m) (omega (arith, h.covers i)))

  -- two have it together
  pub union_two : (a b : ℕ) → Holds n m sch (a ∷ b ∷ []) → union_of n sch a b ≡ m
  union_two a b h =
      same_members (union_of n sch a b) m
      (λ i. member_or i (E n sch a) (E n sch b) ∙ bits_same (is_member i (E n sch a)) (is_member i (E n sch b)) (is_member i m) (omega (arith, h.covers i)))
