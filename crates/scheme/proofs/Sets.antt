-- The array of sets: one more entry, a scheme that grows, and the tests that look at it.
use mathlib.Core.Path.{◌≡◌, refl, sym, ◌∙◌, ap}
use mathlib.Core.Bool.{Bool, true, false}
use mathlib.Core.List.{List}
use Prim.Native.Nat.{ℕ, zero, suc, ◌+◌, ◌≤◌, ◌<◌}
use native.Mathlib.Omega.{arith}
use native.Mathlib.Decide.{ℕ_discrete}
use lib.ListN.{get_or, set, replicate, length-set}
use lib.Seq.{get_or-set_same, get_or-set_other}
use lib.Dec.{eqb, eqb_refl, T_not}
use borrow.Author.Tests.{ne_eqb}
use Rattle.integers.specs.Lists.{all_below}
use Rattle.integers.proofs.Lists.{flag, T_true, all_below_at, all_below_by}
use Rattle.integers.proofs.Entries.{replicate_rest}
use Rattle.scheme.specs.declared.Scheme.{Scheme}
use Rattle.scheme.specs.Scheme.{max_variables, left, right, variables}
use Rattle.scheme.specs.Variables.{E}
use Rattle.scheme.specs.Format.{union_of, is_new}
use Rattle.scheme.specs.Sets.{SetsBelow, none_is, union_in}
use Rattle.scheme.proofs.Variables.{up_to_at, up_to_same, upward_product}

-- the products below a bound have the same operands
abbrev pub Agree : ℕ → Scheme → Scheme → ℕ → Type 0
Agree n s s' c = (w : ℕ) → n ≤ w → w < c → (left n s w ≡ left n s' w) × (right n s w ≡ right n s' w)

-- and then the variables below it the same sets
pub E_same : (n : ℕ) (s s' : Scheme) (c : ℕ) → Agree n s s' c → (v : ℕ) → v < c → E n s v ≡ E n s' v
unfolding E
E_same n s s' c h v l =
    sym (up_to_at n s _ _ c v l) ∙ ap (λ below. get_or below v 1) (up_to_same n s s' _ _ c h) ∙ up_to_at n s' _ _ c v l

-- the set of a product whose operands are smaller
pub E_next : (n : ℕ) (s : Scheme) (v : ℕ) → n ≤ v → left n s v < v → right n s v < v → E n s v ≡ union_of n s (left n s v) (right n s v)
unfolding E
E_next n s = upward_product n s _ _

-- the operands of the product that has k before it
pub left_at : (n : ℕ) (s : Scheme) (k : ℕ) → left n s (n + k) ≡ get_or s.lefts k 0
left_at n s k = ap (λ i. get_or s.lefts i 0) (omega arith)

pub right_at : (n : ℕ) (s : Scheme) (k : ℕ) → right n s (n + k) ≡ get_or s.rights k 0
right_at n s k = ap (λ i. get_or s.rights i 0) (omega arith)

-- ---- the array

-- of no variable
pub sets_none : (n : ℕ) (s : Scheme) → SetsBelow n s 0 (replicate max_variables 0)
sets_none n s = record {
  long = refl;
  below = λ v l. absurd (omega arith);
  past = λ v l. replicate_rest max_variables v 0;
}

module _ {n : ℕ} {s : Scheme} {c : ℕ} {sets : List ℕ} (h : SetsBelow n s c sets) where
  -- one more
  pub sets_put : (x : ℕ) → c < max_variables → x ≡ E n s c → SetsBelow n s (suc c) (set sets c x)
  sets_put x l e = record {
    long = length-set sets c x ∙ h.long;
    below = λ v m. below v m (ℕ_discrete v c);
    past = λ v m. get_or-set_other sets c v x 0 (λ d. omega arith) ∙ h.past v (omega arith);
  }
    where
      below : (v : ℕ) → v < suc c → Dec (v ≡ c) → get_or (set sets c x) v 0 ≡ E n s v
      below v m (yes d) = rw d (get_or-set_same sets c x 0 (omega (arith, h.long)) ∙ e)
      below v m (no d) = get_or-set_other sets c v x 0 d ∙ h.below v (omega arith)

  -- the union of two variables
  pub union_in_lem : (l r : ℕ) → l < c → r < c → union_in sets l r ≡ union_of n s l r
  union_in_lem l r a b = rw (h.below l a, h.below r b)

  -- of a scheme with the same products so far
  pub sets_same : (s' : Scheme) → Agree n s s' c → SetsBelow n s' c sets
  sets_same s' a = record {
    long = h.long;
    below = λ v l. h.below v l ∙ E_same n s s' c a v l;
    past = h.past;
  }

  -- the product of two of them
  pub sets_product : (l r : ℕ) → left n s c ≡ l → right n s c ≡ r → c < max_variables → n ≤ c → l < c → r < c → SetsBelow n s (suc c) (set sets c (union_in sets l r))
  sets_product l r d e k m a b =
      sets_put _ k (union_in_lem l r a b ∙ rw (← d, ← e) (sym (E_next n s c m (rw d a) (rw e b))))

-- ---- tests

pub all_below_same : (n : ℕ) (f g : ℕ → Bool) → ((i : ℕ) → i < n → f i ≡ g i) → all_below n f ≡ all_below n g
unfolding all_below
all_below_same zero f g h = refl
all_below_same (suc n) f g h = rw (all_below_same n f g (λ i l. h i (omega arith)), h n (omega arith))

pub all_below_not : (n : ℕ) (f : ℕ → Bool) (i : ℕ) → i < n → f i ≡ false → all_below n f ≡ false
all_below_not n f i l e =
    flag (all_below n f)
    (λ t. absurd (rw e at (all_below_at n f ((T_true _).1 t) i l)))
    (λ t. t)

pub new_in : (n : ℕ) (s : Scheme) (sets : List ℕ) → SetsBelow n s (variables n s) sets → (union : ℕ) → none_is sets (variables n s) union ≡ is_new n s union
unfolding none_is is_new
new_in n s sets h union = all_below_same (variables n s) _ _ (λ v l. rw (h.below v l))

-- a set that is new is no variable's
pub new_at : (n : ℕ) (s : Scheme) (union : ℕ) → is_new n s union ≡ true → (v : ℕ) → v < variables n s → E n s v ≡ union → ⊥
unfolding is_new
new_at n s union e v l d =
    T_not (eqb (E n s v) union) (all_below_at (variables n s) _ ((T_true _).1 e) v l) (rw d (eqb_refl union))

pub at_new : (n : ℕ) (s : Scheme) (union : ℕ) → ((v : ℕ) → v < variables n s → E n s v ≡ union → ⊥) → is_new n s union ≡ true
unfolding is_new
at_new n s union h = (T_true _).0 (all_below_by (variables n s) _ (λ v l. rw (ne_eqb _ _ (h v l)) tt))
