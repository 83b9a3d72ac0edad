-- What both halves of the count need: two members stay two, and a split makes no product.
use mathlib.Core.Path.{◌≡◌, refl, sym, ◌∙◌}
use mathlib.Core.List.{List, [], ◌∷◌}
use Prim.Native.Nat.{ℕ, zero, suc, ◌≤◌, ◌<◌}
use native.Mathlib.Omega.{arith}
use native.Mathlib.Decide.{dec_lt}
use lib.ListN.{length}
use Rattle.scheme.specs.declared.Scheme.{Scheme}
use Rattle.builder.specs.Builder.{next, WithList, pair_up, reduce, split_of}
use Rattle.builder.proofs.Steps.{and_then_next, same_next, pass_halves, reduce_done, reduce_zero, reduce_more}

-- passes leave no fewer than two members
pub reduce_two : (n k : ℕ) (sch : Scheme) (l : List ℕ) (q : WithList) → 2 ≤ length l → reduce k n sch l ≡ next q → 2 ≤ length q.members
reduce_two n zero sch l q h e = let d : record { scheme = sch; members = l } ≡ q = same_next (sym (reduce_zero n sch l) ∙ e) in rw (← d) h
reduce_two n (suc k) sch l q h e = go (dec_lt 2 (length l)) (reduce_two n k)
  where
    go : Dec (2 < length l) → ((sch : Scheme) (l : List ℕ) (q : WithList) → 2 ≤ length l → reduce k n sch l ≡ next q → 2 ≤ length q.members) → 2 ≤ length q.members
    go (yes m) ih =
        and_then_next (pair_up n sch l) _ q (λ p d f. ih p.scheme p.members q (omega (arith, (pass_halves n sch l p d).at_least)) f) (sym (reduce_more n k sch l m) ∙ e)
    go (no m) ih = let d : record { scheme = sch; members = l } ≡ q = same_next (sym (reduce_done n (suc k) sch l (omega arith)) ∙ e) in rw (← d) h

pub split_products : (sch : Scheme) (l : List ℕ) → (split_of sch l).products ≡ sch.products
unfolding split_of
split_products sch [] = refl
split_products sch (a ∷ []) = refl
split_products sch (a ∷ b ∷ l) = refl
