-- One choice more of a mask.
use mathlib.Core.Path.{◌≡◌, sym}
use mathlib.Core.List.{◌++◌, [], ◌∷◌, append-nil}
use Prim.Native.Nat.{ℕ, ◌+◌, ◌^◌, ◌/◌, ◌%◌}
use native.Mathlib.Numerals.{add-one}
use borrow.Author.Tests.{eq-eqb, ne_eqb}
use Rattle.integers.specs.Lists.{join_below}
use Rattle.sets.specs.Sets.{is_member}
use Rattle.builder.specs.Builder.{choices_of}

module _ (i m : ℕ) where
  -- choice i is in the mask
  pub choices_in : m / 2 ^ i % 2 ≡ 1 → choices_of i m ++ (i ∷ []) ≡ choices_of (i + 1) m
  unfolding choices_of join_below is_member
  choices_in e = rw (add-one, eq-eqb _ _ e)

  -- it is not
  pub choices_out : (m / 2 ^ i % 2 ≡ 1 → ⊥) → choices_of i m ≡ choices_of (i + 1) m
  unfolding choices_of join_below is_member
  choices_out e = rw (add-one, ne_eqb _ _ e) (sym (append-nil _))
