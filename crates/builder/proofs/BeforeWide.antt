-- Of a register with at most 32 choices the builder makes what it made before there could be more, and stops where it did.
use Prim.Native.Nat.{ℕ, zero, suc, ◌≤◌}
use mathlib.Core.Path.{◌≡◌, refl, ap, ap₂}
use mathlib.Core.Bool.{cond}
use mathlib.Core.List.{List, [], ◌∷◌}
use lib.Dec.{leb}
use lib.ListN.{length}
use Rattle.std.proofs.Math.Path.{fun_ext}
use Rattle.register.specs.declared.Register.{Register}
use Rattle.register.specs.Limits.{narrow_choices}
use Rattle.register.specs.Register.{mask}
use Rattle.scheme.specs.declared.Scheme.{Scheme}
use Rattle.scheme.specs.Scheme.{initial}
use Rattle.scheme.proofs.BeforeWide.{products_alone}
use Rattle.builder.specs.Builder.{next, and_then, choices_of, join_pair, pair_up, reduce, build_term, follow, build_from, build}
use Rattle.builder.specs.BeforeWide.{join_pair_before_wide, pair_up_before_wide, reduce_before_wide, build_term_before_wide, build_from_before_wide, build_before_wide}

module _ (n : ℕ) (narrow : n ≤ narrow_choices) where
  join_as_before : (sch : Scheme) (a b : ℕ) → join_pair n sch a b ≡ join_pair_before_wide n sch a b
  unfolding join_pair join_pair_before_wide
  join_as_before sch a b = rw (products_alone n sch.products narrow)

  pass_as_before : (sch : Scheme) (l : List ℕ) → pair_up n sch l ≡ pair_up_before_wide n sch l
  unfolding pair_up pair_up_before_wide
  pass_as_before sch [] = refl
  pass_as_before sch (a ∷ []) = refl
  pass_as_before sch (a ∷ (b ∷ rest)) = ap₂ and_then (join_as_before sch a b) (fun_ext λ p. rw (pass_as_before p.scheme rest))

  reduce_as_before : (k : ℕ) (sch : Scheme) (l : List ℕ) → reduce k n sch l ≡ reduce_before_wide k n sch l
  unfolding reduce reduce_before_wide
  reduce_as_before zero sch l = refl
  reduce_as_before (suc k) sch l = ap (cond (leb (length l) 2) (next (record { scheme = sch; members = l }))) (ap₂ and_then (pass_as_before sch l) (fun_ext λ p. reduce_as_before k p.scheme p.members))

  term_as_before : (sch : Scheme) (m : ℕ) → build_term n sch m ≡ build_term_before_wide n sch m
  unfolding build_term build_term_before_wide
  term_as_before sch m = rw (reduce_as_before (length (choices_of n m)) sch (choices_of n m))

module _ (reg : Register) (narrow : reg.choices ≤ narrow_choices) where
  terms_as_before : (k t : ℕ) (sch : Scheme) → build_from reg k t sch ≡ build_from_before_wide reg k t sch
  unfolding build_from build_from_before_wide
  terms_as_before zero t sch = refl
  terms_as_before (suc k) t sch = ap₂ (λ x rest. follow x t rest) (term_as_before reg.choices narrow sch (mask reg t)) (fun_ext (terms_as_before k (suc t)))

  pub as_before_wide : build reg ≡ build_before_wide reg
  unfolding build build_before_wide
  as_before_wide = terms_as_before reg.terms 0 initial
