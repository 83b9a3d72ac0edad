-- What one term, and all terms, lead the code to.
use mathlib.Core.Path.{◌≡◌, refl, sym, ◌∙◌, ap}
use mathlib.Core.List.{List}
use Prim.Native.Nat.{ℕ, suc, ◌+◌, ◌-◌, ◌^◌, ◌≤◌, ◌<◌}
use native.Mathlib.Nat.{sub-zero}
use native.Mathlib.Omega.{arith}
use native.Mathlib.Numerals.{add-one}
use lib.ListN.{length}
use Rattle.integers.proofs.Lists.{All-map}
use Rattle.register.specs.declared.Register.{Register}
use Rattle.register.specs.Register.{mask}
use Rattle.scheme.specs.declared.Scheme.{Scheme}
use Rattle.scheme.specs.Scheme.{variables, fresh, initial, with_split}
use Rattle.scheme.proofs.Sets.{sets_same}
use Rattle.builder.specs.declared.list.Members.{Members}
use Rattle.builder.specs.declared.state.Work.{Work}
use Rattle.builder.specs.Builder.{full, next, and_then, stopped, built, follow, choices_of, split_of, build_term, build_from, build}
use Rattle.builder.specs.Ready.{Ready}
use Rattle.builder.specs.Work.{listed, Inside}
use Rattle.builder.proofs.Steps.{reduce_ends}
use Rattle.builder.proofs.Joining.{split_lengths, split_some}
use Rattle.builder.proofs.Passing.{length_listed}
use Rattle.builder.proofs.Steady.{reduce_steady}
use Rattle.builder.proofs.Reducing.{reduced_step}
use Rattle.builder.proofs.Covers.{choices_below, choices_some}

-- ---- one term

-- the choices of a mask are variables
pub choices_inside : (n m : ℕ) (s : Scheme) → Inside n s (choices_of n m)
choices_inside n m s = All-map (λ v. v < n) (λ v. v < variables n s) (λ v l. omega arith) (choices_of n m) (choices_below n m)

-- one split more keeps what is ready
pub split_ready : {n : ℕ} {s : Scheme} {sets : List ℕ} → Ready n s sets → (l r : ℕ) (made : Scheme) → made ≡ with_split s l r → Ready n made sets
split_ready {n} {s} ready l r made e = rw e (record { few = ready.few; within = ready.within; variables_within = ready.variables_within; lengths = split_lengths s l r ready.lengths; sets_are = sets_same ready.sets_are (with_split s l r) (λ v x y. (refl, refl)) })

module _ (n m : ℕ) (s : Scheme) where
  pub term_full : full ≡ reduced_step n s (choices_of n m) → full ≡ build_term n s m
  unfolding build_term and_then
  term_full e = rw (← e)

  module _ (some : 1 ≤ m) (named : m < 2 ^ n) (short : Scheme) (members : Members)
      (e : next (record { scheme = short; members = listed members }) ≡ reduced_step n s (choices_of n m)) where
    pub term_splits : short.splits ≡ s.splits
    term_splits = (reduce_steady n s.splits (length (choices_of n m)) s (choices_of n m) _ (record { inside = choices_inside n m s; splits_kept = refl }) (sym e)).splits_kept

    pub term_count : (1 ≤ members.count) × (members.count ≤ 2)
    term_count =
        let h = reduce_ends n (length (choices_of n m)) s (choices_of n m) _ (choices_some n m some named) (omega arith) (sym e) in
        (omega (arith, h.0, length_listed members), omega (arith, h.1, length_listed members))

    pub term_ends : (made : Scheme) → made ≡ split_of short (listed members) → next made ≡ build_term n s m
    unfolding build_term and_then
    term_ends made d = rw (d, ← e)

    pub term_more : (made : Scheme) → made ≡ split_of short (listed members) → made.splits ≡ suc s.splits
    term_more made d =
        split_some short (listed members) (omega (arith, term_count.0, length_listed members))
        (λ a b f. rw (d, f) (ap suc term_splits))

-- ---- all terms

pub record Building (reg : Register) (w : Work) (t : ℕ) : Type 0 where
  pub choices_kept : w.choices ≡ reg.choices
  pub splits_are : w.scheme.splits ≡ t
  pub same : build_from reg (reg.terms - t) t w.scheme ≡ build reg

pub building_starts : (reg : Register) (w : Work) → w.choices ≡ reg.choices → w.scheme ≡ initial → Building reg w 0
unfolding build fresh
building_starts reg w c e = record { choices_kept = c; splits_are = rw e; same = rw (e, sub-zero) }

module _ {reg : Register} {w : Work} {t : ℕ} (g : Building reg w t) where
  pub building_ends : reg.terms ≤ t → built w.scheme ≡ build reg
  unfolding build_from
  building_ends l = let e : reg.terms - t ≡ 0 = omega arith in rw e at g.same

  module _ (l : t < reg.terms) where
    here : build_from reg (suc (reg.terms - suc t)) t w.scheme ≡ build reg
    here = let e : reg.terms - t ≡ suc (reg.terms - suc t) = omega arith in rw e at g.same

    pub building_stops : full ≡ build_term reg.choices w.scheme (mask reg t) → stopped t ≡ build reg
    unfolding build_from follow
    building_stops e = rw (← e) at here

    pub building_on : (r : Work) → r.choices ≡ w.choices → next r.scheme ≡ build_term reg.choices w.scheme (mask reg t) → r.scheme.splits ≡ suc w.scheme.splits → Building reg r (t + 1)
    unfolding build_from follow
    building_on r c e d = record {
      choices_kept = c ∙ g.choices_kept;
      splits_are = rw add-one (d ∙ ap suc g.splits_are);
      same = rw add-one (rw (← e) at here);
    }
