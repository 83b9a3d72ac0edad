-- Passes of the code while the list has more than two members.
use mathlib.Core.Path.{◌≡◌, refl, sym, ◌∙◌}
use mathlib.Core.List.{List}
use Prim.Native.Nat.{ℕ, zero, suc, ◌≤◌, ◌<◌}
use native.Mathlib.Omega.{arith}
use lib.ListN.{length}
use Rattle.scheme.specs.declared.Scheme.{Scheme}
use Rattle.builder.specs.declared.list.Members.{Members}
use Rattle.builder.specs.declared.state.Work.{Work}
use Rattle.builder.specs.Builder.{Step, full, next, and_then, WithList, pair_up, reduce}
use Rattle.builder.specs.Work.{listed, Inside}
use Rattle.builder.proofs.Passing.{length_listed}
use Rattle.builder.proofs.Steady.{pass_steady}
use Rattle.builder.proofs.Steps.{pass_halves, reduce_done, reduce_more}

-- the step that all passes lead to
abbrev pub reduced_step : ℕ → Scheme → List ℕ → Step WithList
reduced_step n s l = reduce (length l) n s l

pub record Reducing (n : ℕ) (s : Scheme) (l : List ℕ) (w : Work) (m : Members) : Type 0 where
  pub choices_kept : w.choices ≡ n
  pub inside : Inside n w.scheme (listed m)
  pub fuel : ℕ
  pub enough : m.count ≤ fuel
  pub same : reduce fuel n w.scheme (listed m) ≡ reduced_step n s l

pub reducing_starts : (w : Work) (m : Members) → Inside w.choices w.scheme (listed m) → Reducing w.choices w.scheme (listed m) w m
reducing_starts w m h = record { choices_kept = refl; inside = h; fuel = length (listed m); enough = omega (arith, length_listed m); same = refl }

module _ {n : ℕ} {s : Scheme} {l : List ℕ} {w : Work} {m : Members} (g : Reducing n s l w m) where
  -- no pass is left
  pub reduces_end : m.count ≤ 2 → next (record { scheme = w.scheme; members = listed m }) ≡ reduced_step n s l
  reduces_end h = sym (reduce_done n g.fuel w.scheme (listed m) (omega (arith, length_listed m))) ∙ g.same

  module _ (left : 2 < m.count) where
    more : (k : ℕ) → reduce (suc k) n w.scheme (listed m) ≡ and_then (pair_up n w.scheme (listed m)) (λ p. reduce k n p.scheme p.members)
    more k = reduce_more n k w.scheme (listed m) (omega (arith, length_listed m))

    pub reduces_full : full ≡ pair_up n w.scheme (listed m) → full ≡ reduced_step n s l
    unfolding and_then
    reduces_full e = go g.fuel g.enough g.same
      where
        go : (fuel : ℕ) → m.count ≤ fuel → reduce fuel n w.scheme (listed m) ≡ reduced_step n s l → full ≡ reduced_step n s l
        go zero h f = absurd (omega arith)
        go (suc k) h f = sym (more k ∙ rw (← e)) ∙ f

    module _ (w' : Work) (m' : Members) (passed : next (record { scheme = w'.scheme; members = listed m' }) ≡ pair_up n w.scheme (listed m)) where
      pub reduces_less : m'.count < m.count
      reduces_less =
          let h = pass_halves n w.scheme (listed m) _ (sym passed) in
          omega (arith, h.at_most, length_listed m, length_listed m')

      pub reduces_on : w'.choices ≡ n → Reducing n s l w' m'
      unfolding and_then
      reduces_on c = go g.fuel g.enough g.same
        where
          inside : Inside n w'.scheme (listed m')
          inside = (pass_steady n w.scheme.splits w.scheme (listed m) _ (record { inside = g.inside; splits_kept = refl }) (sym passed)).inside

          go : (fuel : ℕ) → m.count ≤ fuel → reduce fuel n w.scheme (listed m) ≡ reduced_step n s l → Reducing n s l w' m'
          go zero h f = absurd (omega arith)
          go (suc k) h f = record {
            choices_kept = c;
            inside = inside;
            fuel = k;
            enough = omega (arith, reduces_less);
            same = sym (more k ∙ rw (← passed)) ∙ f;
          }
