-- Terms listed one by one.
use mathlib.Core.Path.{◌≡◌, sym, ◌∙◌, ap₂}
use mathlib.Core.Bool.{Bool, true, false, cond}
use mathlib.Core.List.{List}
use mathlib.Core.Logic.{⊎_elim}
use Prim.Native.Nat.{ℕ, ◌+◌, ◌*◌, ◌≤◌, ◌<◌}
use native.Mathlib.Nat.{add-zero}
use native.Mathlib.Numerals.{add-one}
use native.Mathlib.Omega.{arith}
use lib.ListN.{length, get_or, set}
use lib.Seq.{get_or-set_same, get_or-set_other}
use lib.IntN.{ℤ, pos, nat_abs, ◌+ℤ◌, +ℤ_idr}
use Rattle.integers.specs.Sum.{sum_below}
use Rattle.integers.proofs.Sum.{sum_below-zero, sum_below-suc, sum_below_cong}
use Rattle.integers.proofs.Entries.{below_or_last}
use Rattle.register.specs.Limits.{max_terms, max_coefficient}
use Rattle.search.specs.Lent.{Terms, mask_of, coefficient_of, Small, Listed, ListedUnder, AllListed, Kept}

-- an entry more stays behind those that are kept
pub kept_next : {A : Type 0} (d : A) (from at : ℕ) (first now : List A) (v : A) → from ≤ at → Kept d from first now → Kept d from first (set now at v)
kept_next d from at first now v l h p m = get_or-set_other now at p v d (omega arith) ∙ h p m

module _ (takes : ℕ → Bool) (r : Terms) (from : ℕ) where
  pub listed_none : (masks : List ℕ) (coefficients : List ℤ) → Listed takes r 0 from masks coefficients 0
  listed_none masks coefficients = record { few = omega arith; small = λ j l. absurd (omega arith); sums = λ f. sum_below-zero _ ∙ sym (sum_below-zero _) }

  -- one term more, in the next place
  module _ (w : Small r) (masks : List ℕ) (coefficients : List ℤ) (t count : ℕ) (room : from + count < length masks) (room' : from + count < length coefficients) where
    abbrev next_masks : List ℕ
    next_masks = set masks (from + count) (mask_of r t)

    abbrev next_coefficients : List ℤ
    next_coefficients = set coefficients (from + count) (coefficient_of r t)

    mask_before : (j : ℕ) → j < count → get_or next_masks (from + j) 0 ≡ get_or masks (from + j) 0
    mask_before j l = get_or-set_other masks (from + count) (from + j) (mask_of r t) 0 (omega arith)

    coefficient_before : (j : ℕ) → j < count → get_or next_coefficients (from + j) (pos 0) ≡ get_or coefficients (from + j) (pos 0)
    coefficient_before j l = get_or-set_other coefficients (from + count) (from + j) (coefficient_of r t) (pos 0) (omega arith)

    mask_new : get_or next_masks (from + count) 0 ≡ mask_of r t
    mask_new = get_or-set_same masks (from + count) (mask_of r t) 0 room

    coefficient_new : get_or next_coefficients (from + count) (pos 0) ≡ coefficient_of r t
    coefficient_new = get_or-set_same coefficients (from + count) (coefficient_of r t) (pos 0) room'

    pub listed_next : (b : Bool) → b ≡ takes t → Listed takes r t from masks coefficients count →
        Listed takes r (t + 1) from next_masks next_coefficients (count + cond b 1 0)
    listed_next b e h = go b e
      where
        before : (f : ℤ → ℕ → ℤ) → sum_below count (λ j. f (get_or next_coefficients (from + j) (pos 0)) (get_or next_masks (from + j) 0))
            ≡ sum_below t (λ i. cond (takes i) (f (coefficient_of r i) (mask_of r i)) (pos 0))
        before f = sum_below_cong count _ _ (λ j l. ap₂ f (coefficient_before j l) (mask_before j l)) ∙ h.sums f

        within : (j : ℕ) → j < count → nat_abs (get_or next_coefficients (from + j) (pos 0)) ≤ max_coefficient
        within j l = rw (coefficient_before j l) (h.small j l)

        go : (b : Bool) → b ≡ takes t → Listed takes r (t + 1) from next_masks next_coefficients (count + cond b 1 0)
        go true e = record {
          few = omega (arith, h.few);
          small = λ j l. ⊎_elim (λ (b : j < count). within j b) (λ (i : j ≡ count). rw (i, coefficient_new) (w.coefficients_within t)) (below_or_last j count (omega arith));
          sums = λ f. rw (add-one, add-one t, sum_below-suc, sum_below-suc t, ← e, coefficient_new, mask_new) (ap₂ ◌+ℤ◌ (before f) (λ i. f (coefficient_of r t) (mask_of r t)));
        }
        go false e = record {
          few = omega (arith, h.few);
          small = λ j l. within j (omega arith);
          sums = λ f. rw (add-zero, add-one, sum_below-suc, ← e) (before f ∙ sym (+ℤ_idr _));
        }

  -- the list stays where its places do
  pub listed_kept : (masks masks' : List ℕ) (coefficients coefficients' : List ℤ) (end terms count : ℕ) → from + terms ≤ end → Kept 0 end masks masks' → Kept (pos 0) end coefficients coefficients' →
      Listed takes r terms from masks coefficients count → Listed takes r terms from masks' coefficients' count
  listed_kept masks masks' coefficients coefficients' end terms count l h k e = record {
    few = e.few;
    small = λ j q. rw (k (from + j) (omega (arith, e.few))) (e.small j q);
    sums = λ f. sum_below_cong count _ _ (λ j q. ap₂ f (k (from + j) (omega (arith, e.few))) (h (from + j) (omega (arith, e.few)))) ∙ e.sums f;
  }

-- one choice more
module _ (r : Terms) (m : Small r) (masks masks' : List ℕ) (coefficients coefficients' : List ℤ) (counts : List ℕ) (k count : ℕ) where
  pub all_next : k < length counts → AllListed r k masks coefficients counts → Kept 0 (k * max_terms) masks masks' → Kept (pos 0) (k * max_terms) coefficients coefficients' →
      ListedUnder r r.count k masks' coefficients' count → AllListed r (k + 1) masks' coefficients' (set counts k count)
  all_next room all h h' new i l =
      ⊎_elim
      (λ (b : i < k). rw (get_or-set_other counts k i count 0 (omega arith))
      (listed_kept _ r (i * max_terms) masks masks' coefficients coefficients' (k * max_terms) r.count (get_or counts i 0) (omega (arith, m.count_within)) h h' (all i b)))
      (λ (e : i ≡ k). rw (e, get_or-set_same counts k count 0 room) new)
      (below_or_last i k (omega arith))
