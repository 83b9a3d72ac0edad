-- Whether a tank may be fed at a minute: the test is the condition; and a look at the windows one after the other.
use Prim.Native.Nat.{ℕ, suc, ◌<◌, ◌≤◌}
use native.Mathlib.Omega.{arith}
use mathlib.Core.Path.{◌≡◌, sym, ◌∙◌, ap}
use mathlib.Core.Logic.{◌↔◌, inl, inr, ⊎_elim}
use mathlib.Core.Bool.{Bool, true, false, false≢true, not, or-true, or-false, ◌&&◌}
use mathlib.Core.List.{List}
use lib.Dec.{eqb, leb, ltb}
use lib.ListN.{get_or}
use borrow.Author.Tests.{eqb-true, ltb-true, leb-true, eq-eqb, ne_eqb, lt-ltb, le-leb}
use Rattle.integers.specs.Lists.{any_below}
use Rattle.integers.proofs.Lists.{flag, or_either, and_both}
use Rattle.integers.proofs.Any.{any_found, any_at, any_none, any_front}
use Rattle.register.specs.Format.{may_feed}
use Rattle.register.specs.Valid.{MayFeed}

module _ (tanks froms tos : List ℕ) (tank minute : ℕ) where
  -- window j is the tank's
  abbrev own : ℕ → Bool
  own j = eqb (get_or tanks j 0) tank

  -- and holds the minute
  abbrev pub holds : ℕ → Bool
  holds j = own j && leb (get_or froms j 0) minute && ltb minute (get_or tos j 0)

  module _ (k : ℕ) where
    abbrev windows : ℕ → ℕ × ℕ × ℕ
    windows j = (get_or tanks j 0, get_or froms j 0, get_or tos j 0)

    pub may_iff : (may_feed k tanks froms tos tank minute ≡ true) ↔ MayFeed k windows tank minute
    may_iff = (to, from)
      where
        to : may_feed k tanks froms tos tank minute ≡ true → MayFeed k windows tank minute
        to t =
            ⊎_elim
            (λ a. inl λ j l e. false≢true (ap not (sym (any_at k own j l (eq-eqb _ tank e))) ∙ a))
            (λ b.
            let s = any_found k holds b in
            let c = and_both _ _ s.passes in
            let d = and_both _ _ c.0 in
            inr (record { window = s.index; there = s.below; own = eqb-true _ tank d.0; from = leb-true _ minute d.1; to = ltb-true minute _ c.1 }))
            (or_either _ _ t)

        from : MayFeed k windows tank minute → may_feed k tanks froms tos tank minute ≡ true
        from (inl h) = rw (any_none k own (λ j l. ne_eqb _ tank (h j l)))
        from (inr s) = rw (any_at k holds s.window s.there (rw (eq-eqb _ tank s.own, le-leb _ minute s.from, lt-ltb minute _ s.to)), or-true)

  -- ---- a look at one window after the other

  -- no window before j holds the minute for the tank; `none` says whether none of them is the tank's
  pub record Looked (none : Bool) (j : ℕ) : Type 0 where
    pub none_is : none ≡ not (any_below j own)
    pub outside : any_below j holds ≡ false

  -- windows of lower tanks need no look
  pub looked_starts : (passed : ℕ) → ((j : ℕ) → j < passed → get_or tanks j 0 < tank) → Looked true passed
  looked_starts passed h =
      let other : (j : ℕ) → j < passed → own j ≡ false = λ j l. ne_eqb _ tank (λ e. omega (arith, h j l, e)) in
      record { none_is = sym (ap not (any_none passed own other)); outside = any_none passed holds (λ j l. rw (other j l)) }

  pub looked_more : {none : Bool} {j : ℕ} → Looked none j → holds j ≡ false → Looked (none && not (own j)) (suc j)
  looked_more {none} {j} k h = record {
    none_is = rw k.none_is (flag (any_below j own) (λ t. rw t) (λ t. rw t));
    outside = rw (k.outside, h);
  }

  pub looked_inside : (n j : ℕ) → j < n → holds j ≡ true → true ≡ may_feed n tanks froms tos tank minute
  looked_inside n j l t = sym (rw (any_at n holds j l t, or-true))

  -- nor do windows of higher tanks
  pub looked_past : {none : Bool} {j : ℕ} (n : ℕ) → Looked none j → j ≤ n → ((i : ℕ) → j ≤ i → i < n → tank < get_or tanks i 0) → none ≡ may_feed n tanks froms tos tank minute
  looked_past {none} {j} n k l h =
      let other : (i : ℕ) → j ≤ i → i < n → own i ≡ false = λ i a b. ne_eqb _ tank (λ e. omega (arith, h i a b, e)) in
      rw (any_front j n own l other, any_front j n holds l (λ i a b. rw (other i a b)), k.outside, k.none_is, or-false (not (any_below j own)))
