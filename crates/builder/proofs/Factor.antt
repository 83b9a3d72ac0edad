-- The builder leaves the factor as it is, so it is 1, whatever the register is.
use mathlib.Core.Path.{◌≡◌, refl}
use mathlib.Core.List.{List, [], ◌∷◌}
use Prim.Native.Nat.{ℕ, zero, suc}
use native.Mathlib.Omega.{arith}
use lib.ListN.{length}
use Rattle.register.specs.declared.Register.{Register}
use Rattle.register.specs.Register.{mask}
use Rattle.scheme.specs.declared.Scheme.{Scheme}
use Rattle.scheme.specs.Scheme.{fresh, initial}
use Rattle.builder.specs.Builder.{Step, full, next, WithVariable, built, follow, join_pair, choices_of, reduce, split_of, build_term, build_from, build}
use Rattle.builder.proofs.Steps.{and_then_next, same_next, join_cases, reduce_kept}

abbrev One : Scheme → Type 0
One sch = sch.factor ≡ 1

joins : (n : ℕ) (front rest : List ℕ) (sch : Scheme) (a b : ℕ) (p : WithVariable) → One sch → join_pair n sch a b ≡ next p → One p.scheme
joins n front rest sch a b p one e = join_cases n sch a b p e (λ l d. rw d one) (λ k f d. rw d one)

splits : (sch : Scheme) (l : List ℕ) → One sch → One (split_of sch l)
unfolding split_of
splits sch [] one = one
splits sch (a ∷ []) one = one
splits sch (a ∷ (b ∷ rest)) one = one

term : (n m : ℕ) (sch sch' : Scheme) → One sch → build_term n sch m ≡ next sch' → One sch'
unfolding build_term
term n m sch sch' one e =
    let l = choices_of n m in
    and_then_next (reduce (length l) n sch l) _ sch'
    (λ q d f.
    let g : split_of q.scheme q.members ≡ sch' = same_next f in
    rw (← g) (splits q.scheme q.members (reduce_kept n (λ sch l. One sch) (joins n) (length l) sch l q one d)))
    e

module _ (reg : Register) where
  from : (k t : ℕ) (sch sch' : Scheme) → One sch → build_from reg k t sch ≡ built sch' → One sch'
  unfolding build_from follow
  from zero t sch sch' one e = let q : sch ≡ sch' = cc in rw (← q) one
  from (suc k) t sch sch' one e = go (build_term reg.choices sch (mask reg t)) refl (from k (suc t))
    where
      go : (x : Step Scheme) → build_term reg.choices sch (mask reg t) ≡ x → ((sch sch' : Scheme) → One sch → build_from reg k (suc t) sch ≡ built sch' → One sch') → One sch'
      go full q ih = let d = rw q at e in let z : ◌≡◌ {A = ℕ} 0 1 = cc in absurd (omega arith)
      go (next made) q ih = ih made sch' (term reg.choices (mask reg t) sch made one q) (rw q at e)

  pub built_factor : (sch : Scheme) → build reg ≡ built sch → sch.factor ≡ 1
  unfolding build fresh
  built_factor sch e = from reg.terms 0 initial sch refl e
