-- One pass of the code over pairs: what is still to be joined leads to what the whole pass leads to.
use mathlib.Core.Path.{◌≡◌, refl, sym, ◌∙◌, ap, ap₂}
use mathlib.Core.List.{List, [], ◌∷◌, ◌++◌, append-nil}
use Prim.Native.Nat.{ℕ, suc, ◌+◌, ◌*◌, ◌/◌, ◌≤◌, ◌<◌}
use native.Mathlib.Omega.{arith}
use native.Mathlib.Numerals.{add-one}
use lib.ListN.{length, get_or, take, drop, set, drop_of_length-le}
use lib.Seq.{take-suc-set, take-set-lt, drop-set-lt, drop-cons, get_or-take, length-take-le}
use Rattle.scheme.specs.declared.Scheme.{Scheme}
use Rattle.scheme.specs.Scheme.{variables}
use Rattle.builder.specs.declared.list.Members.{Members}
use Rattle.builder.specs.declared.state.Work.{Work}
use Rattle.builder.specs.Builder.{full, next, and_then, join_pair, pair_up}
use Rattle.builder.specs.Work.{listed, Inside}
use Rattle.builder.proofs.Fronts.{on_front, on_none, on_one, pair_next_lem, pair_full}
use Rattle.builder.proofs.Steady.{join_grown, inside_grown}

-- the list that the array begins with is as long as its count
pub length_listed : (m : Members) → length (listed m) ≡ m.count
length_listed m = length-take-le m.count m.entries (omega (arith, m.within, m.long))

-- ---- the loop, over a list of variables of a scheme

pub record Pairing (n : ℕ) (s : Scheme) (m₀ : Members) (w : Work) (m : Members) (i : ℕ) : Type 0 where
  pub choices_kept : w.choices ≡ n
  pub count_is : m.count ≡ m₀.count
  pub half : 2 * i ≤ m₀.count
  pub inside : Inside n w.scheme (drop (2 * i) (listed m))
  pub same : on_front (take i m.entries) (pair_up n w.scheme (drop (2 * i) (listed m))) ≡ pair_up n s (listed m₀)

pub pairing_starts : (w : Work) (m : Members) → Inside w.choices w.scheme (listed m) → Pairing w.choices w.scheme m w m 0
pairing_starts w m h = record {
  choices_kept = refl;
  count_is = refl;
  half = omega arith;
  inside = h;
  same = on_none (pair_up w.choices w.scheme (listed m));
}

module _ {n : ℕ} {s : Scheme} {m₀ : Members} {w : Work} {m : Members} {i : ℕ} (g : Pairing n s m₀ w m i) where
  abbrev first : ℕ
  first = get_or m.entries (2 * i) 0

  abbrev second : ℕ
  second = get_or m.entries (2 * i + 1) 0

  -- ---- a pair is left

  module _ (left : i < m₀.count / 2) where
    abbrev rest : List ℕ
    rest = drop (2 * suc i) (listed m)

    two : drop (2 * i) (listed m) ≡ first ∷ second ∷ rest
    two =
        let e : suc (suc (2 * i)) ≡ 2 * suc i = omega arith in
        drop-cons (listed m) (2 * i) 0 (omega (arith, length_listed m, g.count_is))
        ∙ ap₂ ◌∷◌ (get_or-take m.count m.entries (2 * i) 0 (omega (arith, g.count_is)))
        (drop-cons (listed m) (suc (2 * i)) 0 (omega (arith, length_listed m, g.count_is))
        ∙ ap₂ ◌∷◌ (get_or-take m.count m.entries (suc (2 * i)) 0 (omega (arith, g.count_is)) ∙ rw (← (add-one (2 * i)))) (ap (λ k. drop k (listed m)) e))

    pub pair_inside : (first < variables n w.scheme) × (second < variables n w.scheme)
    pair_inside = let h = rw two at g.inside in (h.0, h.1.0)

    pub passes_full : full ≡ join_pair n w.scheme first second → full ≡ pair_up n s (listed m₀)
    unfolding on_front and_then
    passes_full e = sym (ap (on_front (take i m.entries)) (ap (pair_up n w.scheme) two ∙ pair_full n w.scheme first second rest (sym e))) ∙ g.same

    module _ (w' : Work) (v : ℕ) (e : next (record { scheme = w'.scheme; variable = v }) ≡ join_pair n w.scheme first second) (k : w'.choices ≡ n)
        (m' : Members) (c : m'.count ≡ m.count) (d : m'.entries ≡ set m.entries i v) where
      untouched : drop (2 * suc i) (listed m') ≡ rest
      untouched =
          rw (c, d, take-set-lt m.count m.entries i v (omega (arith, g.count_is)))
          (drop-set-lt (2 * suc i) (listed m) i v (omega arith))

      front : take (suc i) m'.entries ≡ take i m.entries ++ (v ∷ [])
      front = rw d (take-suc-set m.entries i v (omega (arith, m.long, m.within, g.count_is)))

      pub passes_on : Pairing n s m₀ w' m' (i + 1)
      passes_on = record {
        choices_kept = k;
        count_is = c ∙ g.count_is;
        half = omega arith;
        inside = rw (add-one, untouched) (inside_grown n w.scheme w'.scheme rest (join_grown n w.scheme first second _ (sym e)).rises (rw two at g.inside).1.1);
        same =
            rw (add-one, untouched, front)
            (sym (ap (on_front (take i m.entries)) (ap (pair_up n w.scheme) two ∙ pair_next_lem n w.scheme first second rest _ (sym e))
            ∙ on_one (take i m.entries) v (pair_up n w'.scheme rest))
            ∙ g.same);
      }

  -- ---- no pair is left

  -- an odd last member
  pub passes_odd : (k c : ℕ) → k ≡ i → c ≡ suc i → m₀.count / 2 ≤ i → 2 * i < m₀.count → next (record { scheme = w.scheme; members = take c (set m.entries k (get_or m.entries (2 * k) 0)) }) ≡ pair_up n s (listed m₀)
  unfolding on_front and_then pair_up
  passes_odd k c d e h l = rw (d, e, front) (sym (ap (on_front (take i m.entries)) (ap (pair_up n w.scheme) one)) ∙ g.same)
    where
      front : take (suc i) (set m.entries i first) ≡ take i m.entries ++ (first ∷ [])
      front = take-suc-set m.entries i first (omega (arith, m.long, m.within, g.count_is))

      one : drop (2 * i) (listed m) ≡ first ∷ []
      one =
          drop-cons (listed m) (2 * i) 0 (omega (arith, length_listed m, g.count_is))
          ∙ ap₂ ◌∷◌ (get_or-take m.count m.entries (2 * i) 0 (omega (arith, g.count_is))) (drop_of_length-le (listed m) {i = suc (2 * i)} (omega (arith, length_listed m, g.count_is)))

  pub passes_even : (c : ℕ) → c ≡ i → m₀.count ≤ 2 * i → next (record { scheme = w.scheme; members = take c m.entries }) ≡ pair_up n s (listed m₀)
  unfolding on_front and_then pair_up
  passes_even c e h = rw e (sym (ap (on_front (take i m.entries)) (ap (pair_up n w.scheme) none) ∙ ap (λ x. next (record { scheme = w.scheme; members = x })) (append-nil (take i m.entries))) ∙ g.same)
    where
      none : drop (2 * i) (listed m) ≡ []
      none = drop_of_length-le (listed m) {i = 2 * i} (omega (arith, length_listed m, g.count_is))
