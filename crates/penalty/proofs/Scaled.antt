-- A scale times g, term by term: as a form, how large it is, the table to which it is added, and its numbers as the code has
-- them.
use Prim.Native.Nat.{ℕ, ◌+◌, ◌*◌, ◌≤◌, ◌<◌}
use mathlib.Core.Path.{◌≡◌, refl, ◌∙◌, ap}
use mathlib.Core.Bool.{Bool, true, false, cond}
use mathlib.Core.List.{[], ◌∷◌}
use native.Mathlib.Omega.{arith}
use native.Mathlib.Numerals.{add-one}
use lib.Dec.{eqb}
use lib.IntN.{ℤ, nat_abs, ◌*ℤ◌}
use mir.Syntax.{w32, w64}
use mir.Val.{SFits, to_z, of_z}
use Rattle.integers.specs.Lists.{join_below}
use Rattle.integers.proofs.Join.{join_cong}
use Rattle.integers.proofs.Order.{nat_abs-*-≤}
use Rattle.integers.proofs.Machine.{fits_signed, read_signed, cast_read}
use Rattle.forms.specs.Form.{Form, mono, place, times}
use Rattle.forms.specs.declared.SquareTable.{SquareTable}
use Rattle.forms.specs.Store.{Room, Adds, max_before_monomial, max_before_form}
use Rattle.forms.proofs.Store.{norm1}
use Rattle.forms.proofs.Added.{adds_then, adds_same, room_after}
use Rattle.forms.proofs.Times.{times_join}
use Rattle.register.specs.declared.Register.{Register}
use Rattle.register.specs.Limits.{max_base, max_coefficient}
use Rattle.register.specs.Register.{coefficient}
use Rattle.register.specs.Valid.{Within}
use Rattle.scheme.specs.declared.Scheme.{Scheme}
use Rattle.scheme.specs.Scheme.{side, split_left, split_right}
use Rattle.scheme.specs.Function.{term, term_of, g}
use Rattle.scheme.specs.Valid.{Valid}
use Rattle.scheme.proofs.Table.{terms_below, norm1_terms}
use Rattle.penalty.specs.Multiple.{max_multiple}

-- ---- the form

pub times-term : (k : ℤ) (l r : ℕ) (c : ℤ) → times k (term l r c) ≡ term l r (k *ℤ c)
unfolding times term
times-term k l r c = go (eqb l r)
  where
    go : (b : Bool) → times k (cond b (mono 0 (place l) c ∷ []) (mono (place l) (place r) c ∷ [])) ≡ cond b (mono 0 (place l) (k *ℤ c) ∷ []) (mono (place l) (place r) (k *ℤ c) ∷ [])
    go true = refl
    go false = refl

pub times-g : (k : ℤ) (c : ℕ → ℤ) (r : Register) (s : Scheme) →
    times k (g c r s) ≡ mono 0 0 (k *ℤ r.base) ∷ join_below r.terms (term_of (λ t. k *ℤ c t) s)
unfolding times g
times-g k c r s =
    ap (λ f. mono 0 0 (k *ℤ r.base) ∷ f)
    (times_join k r.terms (term_of c s) ∙ join_cong r.terms _ _ (λ t l. times-term k (split_left s t) (split_right s t) (c t)))

-- ---- how large it is

module _ (k : ℤ) (r : Register) (s : Scheme) (small : nat_abs k ≤ max_multiple) (within : Within r) where
  pub scaled_small : (t : ℕ) → t < r.terms → nat_abs (k *ℤ coefficient r t) ≤ max_multiple * max_coefficient
  scaled_small t l = nat_abs-*-≤ k (coefficient r t) max_multiple max_coefficient small (within.terms.each t l).coefficient_within

  -- the first terms
  pub scaled_norm : (n : ℕ) → n ≤ r.terms → norm1 (join_below n (term_of (λ t. k *ℤ coefficient r t) s)) ≤ max_multiple * max_coefficient * 2 * n
  scaled_norm n l = norm1_terms (λ t. k *ℤ coefficient r t) r s (max_multiple * max_coefficient) scaled_small n l

-- ---- a table to which it is added

-- the first t terms
abbrev pub first_terms : ℤ → Register → Scheme → ℕ → Form
first_terms k r s t = join_below t (term_of (λ t. k *ℤ coefficient r t) s)

module _ (k : ℤ) (r : Register) (s : Scheme) (t : ℕ) {before now : SquareTable} (a : Adds (first_terms k r s t) before now) where
  -- the table after t terms has room for one more
  pub terms_room : Within r → Valid r s → before.side ≡ side r.choices s → Room max_before_form before → nat_abs k ≤ max_multiple → t ≤ r.terms → Room max_before_monomial now
  terms_room within valid e h small l =
      room_after h a (rw e (terms_below (λ t. k *ℤ coefficient r t) r s valid t l)) max_before_monomial
      (omega (arith, scaled_norm k r s small within t l, within.terms.few))

  pub terms_turn : (x : ℤ) {after : SquareTable} → x ≡ k *ℤ coefficient r t → Adds (term (split_left s t) (split_right s t) x) now after → Adds (first_terms k r s (t + 1)) before after
  unfolding join_below
  terms_turn x e b = adds_same (adds_then a b) (rw (e, add-one))

-- ---- its numbers as the code has them

-- a scale times a number of 32 bits, which the code has as y
pub record Product (k x y : ℤ) : Type 0 where
  pub fits : SFits w64 (k *ℤ to_z w64 (of_z w64 y))
  pub reads : to_z w64 (of_z w64 (k *ℤ to_z w64 (of_z w64 y))) ≡ k *ℤ x
  pub low : nat_abs (k *ℤ x) ≤ max_multiple * max_base

pub product : (k x y : ℤ) → y ≡ to_z w32 (of_z w32 x) → nat_abs k ≤ max_multiple → nat_abs x ≤ max_base → Product k x y
product k x y e a b = record {
  fits = rw same (fits_signed w64 (k *ℤ x) (omega (arith, low)));
  reads = rw same (read_signed w64 (k *ℤ x) (omega (arith, low)));
  low = low;
}
  where
    low : nat_abs (k *ℤ x) ≤ max_multiple * max_base
    low = nat_abs-*-≤ k x max_multiple max_base a b

    same : k *ℤ to_z w64 (of_z w64 y) ≡ k *ℤ x
    same = ap (λ z. k *ℤ to_z w64 (of_z w64 z)) e ∙ ap (λ z. k *ℤ z) (cast_read w32 w64 x (omega arith) (fits_signed w32 x (omega arith)))
