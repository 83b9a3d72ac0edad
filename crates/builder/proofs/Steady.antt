-- What stays where pairs are joined: that members are variables, and the splits.
use mathlib.Core.Path.{◌≡◌, refl, ◌∙◌}
use mathlib.Core.List.{List, [], ◌∷◌, ◌++◌}
use Prim.Native.Nat.{ℕ, ◌≤◌, ◌<◌}
use native.Mathlib.Omega.{arith}
use Rattle.integers.specs.Lists.{All}
use Rattle.integers.proofs.Lists.{All-map, All-append}
use Rattle.scheme.specs.declared.Scheme.{Scheme}
use Rattle.scheme.specs.Scheme.{variables}
use Rattle.builder.specs.Builder.{next, WithVariable, WithList, join_pair, pair_up, reduce}
use Rattle.builder.specs.Work.{Inside}
use Rattle.builder.proofs.Steps.{join_cases, pass_kept, reduce_kept}

-- ---- the variables and the splits of a scheme and a list

pub record Steady (n splits : ℕ) (sch : Scheme) (l : List ℕ) : Type 0 where
  pub inside : Inside n sch l
  pub splits_kept : sch.splits ≡ splits

pub All-back : {A : Type 0} (P : A → Type 0) (l r : List A) → All P (l ++ r) → All P r
All-back P [] r h = h
All-back P (x ∷ l) r h = All-back P l r h.1

pub All-front : {A : Type 0} (P : A → Type 0) (l r : List A) → All P (l ++ r) → All P l
All-front P [] r h = tt
All-front P (x ∷ l) r h = (h.0, All-front P l r h.1)

-- a variable that is joined to, and how the scheme grew
pub record Grown (n : ℕ) (sch : Scheme) (p : WithVariable) : Type 0 where
  pub rises : sch.products ≤ p.scheme.products
  pub splits_kept : p.scheme.splits ≡ sch.splits
  pub there : p.variable < variables n p.scheme

pub join_grown : (n : ℕ) (sch : Scheme) (a b : ℕ) (p : WithVariable) → join_pair n sch a b ≡ next p → Grown n sch p
join_grown n sch a b p e =
    join_cases n sch a b p e
    (λ l d. rw d (record { rises = omega arith; splits_kept = refl; there = l }))
    (λ k m d. rw d (record { rises = omega arith; splits_kept = refl; there = omega arith }))

pub inside_grown : (n : ℕ) (sch sch' : Scheme) (l : List ℕ) → sch.products ≤ sch'.products → Inside n sch l → Inside n sch' l
inside_grown n sch sch' l h = All-map (λ v. v < variables n sch) (λ v. v < variables n sch') (λ v m. omega arith) l

module _ (n splits : ℕ) where
  steady_joins : (front rest : List ℕ) (sch : Scheme) (a b : ℕ) (p : WithVariable) → Steady n splits sch (front ++ a ∷ b ∷ rest) → join_pair n sch a b ≡ next p → Steady n splits p.scheme (front ++ p.variable ∷ rest)
  steady_joins front rest sch a b p h e =
      let g = join_grown n sch a b p e in
      record {
        inside = All-append (λ v. v < variables n p.scheme) front (p.variable ∷ rest)
            (inside_grown n sch p.scheme front g.rises (All-front _ front _ h.inside))
            (g.there, inside_grown n sch p.scheme rest g.rises (All-back _ front _ h.inside).1.1);
        splits_kept = g.splits_kept ∙ h.splits_kept;
      }

  pub pass_steady : (sch : Scheme) (l : List ℕ) (q : WithList) → Steady n splits sch l → pair_up n sch l ≡ next q → Steady n splits q.scheme q.members
  pass_steady = pass_kept n (Steady n splits) steady_joins

  pub reduce_steady : (k : ℕ) (sch : Scheme) (l : List ℕ) (q : WithList) → Steady n splits sch l → reduce k n sch l ≡ next q → Steady n splits q.scheme q.members
  reduce_steady = reduce_kept n (Steady n splits) steady_joins
