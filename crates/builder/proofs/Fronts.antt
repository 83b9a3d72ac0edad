-- A pass over pairs, from its first pair on, with a front before what it comes to.
use mathlib.Core.Path.{◌≡◌, refl, sym, ap}
use mathlib.Core.List.{List, [], ◌∷◌, ◌++◌}
use Prim.Native.Nat.{ℕ}
use lib.Seq.{append_snoc}
use Rattle.scheme.specs.declared.Scheme.{Scheme}
use Rattle.builder.specs.Builder.{Step, full, next, and_then, WithVariable, WithList, join_pair, pair_up}

-- ---- a front before the members that a step comes to

unfoldable pub on_front : List ℕ → Step WithList → Step WithList
on_front front step = and_then step (λ q. next (record { scheme = q.scheme; members = front ++ q.members }))

pub on_none : (x : Step WithList) → on_front [] x ≡ x
unfolding on_front and_then
on_none full = refl
on_none (next q) = refl

pub on_one : (front : List ℕ) (v : ℕ) (x : Step WithList) → on_front front (and_then x (λ q. next (record { scheme = q.scheme; members = v ∷ q.members }))) ≡ on_front (front ++ (v ∷ [])) x
unfolding on_front and_then
on_one front v full = refl
on_one front v (next q) = ap (λ m. next (record { scheme = q.scheme; members = m })) (sym (append_snoc front v q.members))

-- a pass from its first pair on

pub pair_next_lem : (n : ℕ) (sch : Scheme) (a b : ℕ) (rest : List ℕ) (p : WithVariable) → join_pair n sch a b ≡ next p →
    pair_up n sch (a ∷ b ∷ rest) ≡ and_then (pair_up n p.scheme rest) (λ q. next (record { scheme = q.scheme; members = p.variable ∷ q.members }))
unfolding pair_up and_then
pair_next_lem n sch a b rest p e = rw e

pub pair_full : (n : ℕ) (sch : Scheme) (a b : ℕ) (rest : List ℕ) → join_pair n sch a b ≡ full → pair_up n sch (a ∷ b ∷ rest) ≡ full
unfolding pair_up and_then
pair_full n sch a b rest e = rw e
