-- Part 2 of the paper's example: its bytes and its record; and the scheme that the builder makes for the example's register.
use mathlib.Core.List.{List, [], ◌∷◌}
use Prim.Native.Nat.{ℕ}
use lib.ListN.{replicate}
use Rattle.scheme.specs.declared.Scheme.{Scheme}

abbrev pub scheme_bytes : List ℕ
scheme_bytes = 0x21 ∷ 0 ∷ 1 ∷ 0x21 ∷ 2 ∷ 3 ∷ 0x22 ∷ 0 ∷ 0 ∷ 0x22 ∷ 1 ∷ 1 ∷ 0x22 ∷ 4 ∷ 4 ∷ 0x2F ∷ []

-- products 3 = (0, 1) and 4 = (2, 3), splits (0, 0), (1, 1), (4, 4)
abbrev pub example_scheme : Scheme
example_scheme = record {
  products = 2;
  splits = 3;
  lefts = 0 ∷ 2 ∷ replicate 30 0;
  rights = 1 ∷ 3 ∷ replicate 30 0;
  split_lefts = 0 ∷ 1 ∷ 4 ∷ replicate 253 0;
  split_rights = 0 ∷ 1 ∷ 4 ∷ replicate 253 0;
  factor = 1;
}

-- the builder's scheme for the example's register: one product, and the last term split in two
abbrev pub built_scheme : Scheme
built_scheme = record {
  products = 1;
  splits = 3;
  lefts = 0 ∷ replicate 31 0;
  rights = 1 ∷ replicate 31 0;
  split_lefts = 0 ∷ 1 ∷ 2 ∷ replicate 253 0;
  split_rights = 0 ∷ 1 ∷ 3 ∷ replicate 253 0;
  factor = 1;
}
