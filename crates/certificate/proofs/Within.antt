-- Whether each element of a list passes a test, by its index.
use Prim.Native.Nat.{ℕ}
use native.Mathlib.Nat.{zero-add}
use mathlib.Core.Path.{◌≡◌, sym, ◌∙◌, ap}
use mathlib.Core.Bool.{Bool}
use mathlib.Core.List.{List}
use lib.ListN.{length, get_or}
use Rattle.std.specs.List.{list_all, enumerate_from}
use Rattle.std.proofs.lemmas.List.{get_or_default}
use Rattle.std.proofs.lemmas.List.Sums.{AllPass-from_list_all, list_all-from_AllPass}
use Rattle.std.proofs.lemmas.List.FromFn.{length-enumerate_from, get_or-enumerate_from}
use Rattle.integers.specs.Lists.{all_below}
use Rattle.integers.proofs.Lists.{T_true, flag, all_below_at, all_below_by}
use Rattle.scheme.proofs.Sets.{all_below_same}

pub all_of_list : {X : Type 0} (g : X → Bool) (xs : List X) (d : X) → list_all g xs ≡ all_below (length xs) (λ i. g (get_or xs i d))
all_of_list g xs d =
    flag (list_all g xs)
    (λ t. t ∙ sym ((T_true _).0 (all_below_by (length xs) _ (λ i l. (T_true _).1 (AllPass-from_list_all g xs t i d l)))))
    (λ f. flag (all_below (length xs) (λ i. g (get_or xs i d)))
    (λ t.
    let each = all_below_at (length xs) _ ((T_true _).1 t) in
    list_all-from_AllPass g xs (λ i e l. ap g (get_or_default xs i e d l) ∙ (T_true _).0 (each i l)) ∙ sym t)
    (λ u. f ∙ sym u))

-- of an element with its index
pub all_of_numbered : {X : Type 0} (g : ℕ × X → Bool) (xs : List X) (d : X) → list_all g (enumerate_from 0 xs) ≡ all_below (length xs) (λ i. g (i, get_or xs i d))
all_of_numbered g xs d =
    all_of_list g (enumerate_from 0 xs) (0, d)
    ∙ rw (length-enumerate_from 0 xs) (all_below_same (length xs) _ _ (λ i l. ap g (rw zero-add at (get_or-enumerate_from 0 xs i (0, d) l))))
