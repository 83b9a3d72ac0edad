-- The form of a row as the code adds it: choice by choice, then the variable times the row's total.
use Prim.Native.Nat.{ℕ, zero, suc, ◌*◌, ◌≤◌, ◌<◌}
use mathlib.Core.Path.{◌≡◌, refl, sym, ◌∙◌, ap}
use mathlib.Core.List.{List, [], ◌∷◌, ◌++◌}
use native.Mathlib.Nat.{mul-le-mul}
use native.Mathlib.Decide.{ℕ_discrete}
use native.Mathlib.Omega.{arith}
use lib.IntN.{ℤ, pos, neg_ℤ, nat_abs, ◌*ℤ◌, *ℤ-zero, +ℤ_idr}
use lib.ListN.{get_or, set}
use lib.Seq.{set-get_or}
use Rattle.integers.specs.Lists.{join_below}
use Rattle.forms.specs.declared.SquareTable.{SquareTable}
use Rattle.forms.specs.Form.{Form, mono, place, times}
use Rattle.forms.specs.Store.{add_at, add_form, Room, Adds, max_before_monomial, max_before_form}
use Rattle.forms.proofs.Form.{below-[], below_∷, below_join, below_times}
use Rattle.forms.proofs.Store.{norm1, norm1-[], norm1_∷, norm1_join, norm1_times, add_form-append}
use Rattle.forms.proofs.Times.{times-append}
use Rattle.forms.proofs.Added.{room_after}
use Rattle.register.specs.Limits.{max_choices}
use Rattle.certificate.specs.Limits.{max_row_multiplier}
use Rattle.certificate.specs.RowForm.{row_form}

-- nothing is added by a number 0

add_0 : (k : ℕ) (t : List ℤ) → add_at k (pos 0) t ≡ t
add_0 k t = ap (set t k) (+ℤ_idr (get_or t k (pos 0))) ∙ set-get_or t k (pos 0)

module _ (a : ℕ → ℤ) (i : ℕ) (m : ℤ) where
  -- of the first j choices
  abbrev pub first_of : ℕ → Form
  first_of j = join_below j (λ k. mono (place i) (place k) (a k) ∷ [])

  abbrev pub first : ℕ → Form
  first j = times m (first_of j)

  pub first_none : [] ≡ first 0
  unfolding times join_below
  first_none = refl

  -- one choice more
  pub first_next : (j : ℕ) → first j ++ (mono (place i) (place j) (m *ℤ a j) ∷ []) ≡ first (suc j)
  unfolding times join_below
  first_next j = sym (times-append m (first_of j) (mono (place i) (place j) (a j) ∷ []))

  -- choices whose entries are 0 add nothing
  first_rest : (side k n : ℕ) (t : List ℤ) → k ≤ n → ((j : ℕ) → k ≤ j → j < n → a j ≡ pos 0) → add_form side (first n) t ≡ add_form side (first k) t
  unfolding add_form
  first_rest side k zero t l none = let e : k ≡ 0 = omega arith in rw e refl
  first_rest side k (suc n) t l none = go (ℕ_discrete k (suc n)) (λ h. first_rest side k n t h (λ j b c. none j b (omega arith)))
    where
      go : Dec (k ≡ suc n) → (k ≤ n → add_form side (first n) t ≡ add_form side (first k) t) → add_form side (first (suc n)) t ≡ add_form side (first k) t
      go (yes e) before = rw e refl
      go (no d) before =
          ap (λ f. add_form side f t) (sym (first_next n))
          ∙ add_form-append side (first n) _ t
          ∙ rw (none n (omega arith) (omega arith), *ℤ-zero, add_0, add_0) (before (omega arith))

  -- and the total
  first_all : (n : ℕ) (b : ℤ) → first n ++ (mono 0 (place i) (m *ℤ neg_ℤ b) ∷ []) ≡ times m (row_form n a b i)
  unfolding times row_form
  first_all n b = sym (times-append m (first_of n) (mono 0 (place i) (neg_ℤ b) ∷ []))

  -- what the code adds: the choices that have entries, and the total
  pub adds_all : {t u : SquareTable} (k n : ℕ) (b : ℤ) → k ≤ n → ((j : ℕ) → k ≤ j → j < n → a j ≡ pos 0) → Adds (first k ++ (mono 0 (place i) (m *ℤ neg_ℤ b) ∷ [])) t u → Adds (times m (row_form n a b i)) t u
  adds_all {t} k n b l none d = record {
    same_reference = d.same_reference;
    same_side = d.same_side;
    holds =
        d.holds
        ∙ add_form-append t.side (first k) _ t.numbers.now
        ∙ ap (add_form t.side (mono 0 (place i) (m *ℤ neg_ℤ b) ∷ [])) (sym (first_rest t.side k n t.numbers.now l none))
        ∙ sym (add_form-append t.side (first n) _ t.numbers.now)
        ∙ ap (λ f. add_form t.side f t.numbers.now) (first_all n b);
  }

  -- there is room for one more
  pub first_room : {t u : SquareTable} (j : ℕ) → Adds (first j) t u → j < t.side → place i < t.side → j ≤ max_choices → nat_abs m ≤ max_row_multiplier → ((k : ℕ) → k < j → nat_abs (a k) ≤ 128) → Room max_before_form t → Room max_before_monomial u
  first_room j d l k few low small h =
      room_after h d (below_times m (below_join j (λ x y. below_∷ k (omega arith) below-[]))) max_before_monomial
      (omega (arith, norm1_times m (first_of j), mul-le-mul low total))
    where
      total : norm1 (first_of j) ≤ 256 * max_choices
      total = omega (arith, norm1_join j 256 (λ k. mono (place i) (place k) (a k) ∷ []) (λ x y. omega (arith, norm1_∷ (mono (place i) (place x) (a x)) [], norm1-[], small x y)))
