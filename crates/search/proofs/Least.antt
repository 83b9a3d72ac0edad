-- The walk finds the least cost of the full plans that pass a test, and of those with that cost the smallest number. Over any sum
-- that is at most the cost of every full plan under the partial plan, and is the cost at a full plan.
use mathlib.Core.Path.{◌≡◌, sym, ◌∙◌, ap, subst}
use mathlib.Core.Bool.{Bool, true, false, true≢false}
use mathlib.Core.Logic.{⊎_elim, ◌↔◌}
use Prim.Native.Nat.{ℕ, zero, suc, ◌+◌, ◌*◌, ◌-◌, ◌^◌, ◌≤◌, ◌<◌}
use native.Mathlib.Nat.{pow-suc}
use native.Mathlib.Omega.{arith}
use native.Mathlib.Decide.{dec_lt}
use lib.IntN.{ℤ}
use lib.Dec.{T}
use lib.Signed.{le_z, ◌≤ℤ◌, ◌<ℤ◌}
use Rattle.integers.proofs.Parts.{orders}
use Rattle.integers.proofs.Order.{≤ℤ_trans, ≤ℤ_or_>}
use Rattle.integers.proofs.Lists.{flag, and_both}
use Rattle.integers.proofs.Entries.{below_or_last}
use Rattle.search.specs.Walk.{Best, start, visited, better, is_left, walk}
use Rattle.search.proofs.Walks.{walk_left, walk_full, walk_unfit, walk_on}

-- a comparison that held, and one that did not

le_z-true : (a b : ℤ) → le_z a b ≡ true → a ≤ℤ b
le_z-true a b e = record { le = subst T (sym e) tt }

le_z-false : (a b : ℤ) → le_z a b ≡ false → b <ℤ a
le_z-false a b e = ⊎_elim (λ l. absurd (subst T e l.le)) (λ l. l) (≤ℤ_or_> a b)

-- the best of the plans below a number that pass a test, by their costs
pub record Least (fits : ℕ → Bool) (cost : ℕ → ℤ) (end : ℕ) (w : Best) : Type 0 where
  pub plan_below : w.plan < end
  pub plan_fits : fits w.plan ≡ true
  pub cost_is : w.cost ≡ cost w.plan
  pub least : (p : ℕ) → p < end → fits p ≡ true → w.cost ≤ℤ cost p
  pub smallest : (p : ℕ) → p < end → fits p ≡ true → cost p ≡ w.cost → w.plan ≤ p

-- no plan below a number passes the test
abbrev pub NoneFits : (ℕ → Bool) → ℕ → Type 0
NoneFits fits end = (p : ℕ) → p < end → fits p ≡ false

-- a full plan that passes has been met and is the best of those below a number, or none below it passes
pub record Sofar (fits : ℕ → Bool) (cost : ℕ → ℤ) (end : ℕ) (w : Best) : Type 0 where
  pub none : w.met ≡ false → NoneFits fits end
  pub some : w.met ≡ true → Least fits cost end w

module _ (sum : ℕ → ℕ → ℤ) (fits : ℕ → Bool) (cost : ℕ → ℤ)
    (bound : (d q x : ℕ) → x < 2 ^ d → sum d (q * 2 ^ d) ≤ℤ cost (q * 2 ^ d + x))
    (full : (p : ℕ) → sum 0 p ≡ cost p) where
  visit : (end : ℕ) (w : Best) → Sofar fits cost end w → Sofar fits cost end (visited w)
  visit end w s = record {
    none = s.none;
    some = λ e. let l = s.some e in record { plan_below = l.plan_below; plan_fits = l.plan_fits; cost_is = l.cost_is; least = l.least; smallest = l.smallest };
  }

  -- no full plan below a partial plan that is left is cheaper
  left : (d q : ℕ) (w : Best) → Sofar fits cost (q * 2 ^ d) w → is_left (sum d (q * 2 ^ d)) w ≡ true → Sofar fits cost (q * 2 ^ d + 2 ^ d) (visited w)
  left d q w s e =
      let (m, c) = and_both w.met _ e in
      let l = s.some m in
      record {
        none = λ n. absurd (true≢false (sym m ∙ n));
        some = λ _. record {
          plan_below = omega (arith, l.plan_below);
          plan_fits = l.plan_fits;
          cost_is = l.cost_is;
          least = λ p h f. dear l (le_z-true _ _ c) p h f (dec_lt p (q * 2 ^ d));
          smallest = λ p h f k. small l p f k (dec_lt p (q * 2 ^ d));
        };
      }
    where
      dear : Least fits cost (q * 2 ^ d) w → w.cost ≤ℤ sum d (q * 2 ^ d) → (p : ℕ) → p < q * 2 ^ d + 2 ^ d → fits p ≡ true → Dec (p < q * 2 ^ d) → w.cost ≤ℤ cost p
      dear l c p h f (yes b) = l.least p b f
      dear l c p h f (no b) =
          let f : q * 2 ^ d + (p - q * 2 ^ d) ≡ p = omega arith in
          ≤ℤ_trans _ _ _ c (rw f at (bound d q (p - q * 2 ^ d) (omega arith)))

      small : Least fits cost (q * 2 ^ d) w → (p : ℕ) → fits p ≡ true → cost p ≡ w.cost → Dec (p < q * 2 ^ d) → w.plan ≤ p
      small l p f k (yes b) = l.smallest p b f k
      small l p f k (no b) = omega (arith, l.plan_below)

  -- a full plan that passes and is not left is cheaper than those before it that pass
  cheaper : (p : ℕ) (w : Best) → Sofar fits cost p w → is_left (sum 0 p) w ≡ false → fits p ≡ true → Sofar fits cost (p + 1) (better p (sum 0 p) (visited w))
  cheaper p w s e passes = record {
    none = λ n. absurd (true≢false n);
    some = λ _. record {
      plan_below = omega arith;
      plan_fits = passes;
      cost_is = full p;
      least = λ k h i. ⊎_elim (λ b. (before k b i).0) (λ (f : k ≡ p). omega (arith, orders, full p, ap cost f)) (below_or_last k p (omega arith));
      smallest = λ k h i c. ⊎_elim (λ b. absurd ((before k b i).1 c)) (λ f. omega arith) (below_or_last k p (omega arith));
    };
  }
    where
      before : (k : ℕ) → k < p → fits k ≡ true → (sum 0 p ≤ℤ cost k) × (cost k ≡ sum 0 p → ⊥)
      before k b i = flag w.met
          (λ m.
          let l = (s.some m).least k b i in
          let c : sum 0 p <ℤ w.cost = le_z-false _ _ (rw m at e) in
          (omega (arith, orders), λ f. omega (arith, orders)))
          (λ m. absurd (true≢false (sym i ∙ s.none m k b)))

  -- a full plan that does not pass changes nothing
  unfit : (p : ℕ) (w : Best) → Sofar fits cost p w → fits p ≡ false → Sofar fits cost (p + 1) (visited w)
  unfit p w s e = record {
    none = λ m k h. ⊎_elim (λ b. s.none m k b) (λ (f : k ≡ p). ap fits f ∙ e) (below_or_last k p (omega arith));
    some = λ m.
        let l = s.some m in
        record {
          plan_below = omega (arith, l.plan_below);
          plan_fits = l.plan_fits;
          cost_is = l.cost_is;
          least = λ k h i. l.least k (earlier k h i) i;
          smallest = λ k h i c. l.smallest k (earlier k h i) i c;
        };
  }
    where
      earlier : (k : ℕ) → k < p + 1 → fits k ≡ true → k < p
      earlier k h i = ⊎_elim (λ b. b) (λ (f : k ≡ p). absurd (true≢false (sym i ∙ ap fits f ∙ e))) (below_or_last k p (omega arith))

  pub walk_least : (d q : ℕ) (w : Best) → Sofar fits cost (q * 2 ^ d) w → Sofar fits cost (q * 2 ^ d + 2 ^ d) (walk sum fits d (q * 2 ^ d) w)
  walk_least zero q w s = flag (is_left (sum 0 (q * 1)) w)
      (λ e. rw (walk_left sum fits 0 (q * 1) w e) (left 0 q w s e))
      (λ e. flag (fits (q * 1))
      (λ f. rw (walk_full sum fits (q * 1) w e f) (cheaper (q * 1) w s e f))
      (λ f. rw (walk_unfit sum fits (q * 1) w f) (unfit (q * 1) w s f)))
  walk_least (suc d) q w s = flag (is_left (sum (suc d) (q * 2 ^ suc d)) w)
      (λ e. rw (walk_left sum fits (suc d) (q * 2 ^ suc d) w e) (left (suc d) q w s e))
      (λ e.
      let a : 2 * q * 2 ^ d ≡ q * 2 ^ suc d = rw (pow-suc 2 d) (omega arith) in
      let b : (2 * q + 1) * 2 ^ d ≡ q * 2 ^ suc d + 2 ^ d = rw (pow-suc 2 d) (omega arith) in
      let c : q * 2 ^ suc d + 2 ^ d + 2 ^ d ≡ q * 2 ^ suc d + 2 ^ suc d = omega (arith, pow-suc 2 d) in
      let first = rw a at (walk_least d (2 * q) (visited w) (rw a (visit _ w s))) in
      let second = rw b at (walk_least d (2 * q + 1) (walk sum fits d (q * 2 ^ suc d) (visited w)) (rw b first)) in
      rw (walk_on sum fits d (q * 2 ^ suc d) w e, ← c) second)

  -- from the empty partial plan

  search_sofar : (n : ℕ) → Sofar fits cost (2 ^ n) (walk sum fits n 0 start)
  search_sofar n =
      let z : 0 * 2 ^ n ≡ 0 = omega arith in
      let f : 0 * 2 ^ n + 2 ^ n ≡ 2 ^ n = omega arith in
      rw (f, z) at (walk_least n 0 start (record { none = λ e p l. absurd (omega arith); some = λ e. absurd (true≢false (sym e)) }))

  -- where a full plan that passes is met, it is the best of all that pass; none is met just where none passes

  pub search_least : (n : ℕ) → (walk sum fits n 0 start).met ≡ true → Least fits cost (2 ^ n) (walk sum fits n 0 start)
  search_least n = (search_sofar n).some

  pub search_met : (n p : ℕ) → p < 2 ^ n → fits p ≡ true → (walk sum fits n 0 start).met ≡ true
  search_met n p l f = flag (walk sum fits n 0 start).met (λ e. e) (λ e. absurd (true≢false (sym f ∙ (search_sofar n).none e p l)))

  pub search_none : (n : ℕ) → ((walk sum fits n 0 start).met ≡ false) ↔ NoneFits fits (2 ^ n)
  search_none n = (
    (search_sofar n).none,
    (λ none. flag (walk sum fits n 0 start).met (λ e. let l = search_least n e in absurd (true≢false (sym l.plan_fits ∙ none _ l.plan_below))) (λ e. e)),
  )
