-- What each variable is given is given by its operands: the law of `upward`, and with it of E.
use mathlib.Core.Path.{◌≡◌, refl, ◌∙◌, ap}
use mathlib.Core.List.{[], ◌∷◌, ◌++◌}
use Prim.Native.Nat.{ℕ, zero, suc, ◌+◌, ◌^◌, ◌≤◌, ◌<◌}
use native.Mathlib.Nat.{le_refl}
use native.Mathlib.Numerals.{add-one}
use native.Mathlib.Decide.{le_ind, dec_lt}
use native.Mathlib.Omega.{arith}
use lib.ListN.{length, get_or, length-append, get_or-append}
use lib.Seq.{get_or_at}
use lib.Bits.{bit_or}
use borrow.Author.Tests.{lt-ltb, le-ltb}
use Rattle.scheme.specs.Scheme.{left, right, variables}
use Rattle.scheme.specs.Valid.{Products}
use Rattle.scheme.specs.Variables.{next, up_to, upward, E}
use Rattle.scheme.specs.declared.Scheme.{Scheme}

module _ {A : Type 0} (n : ℕ) (s : Scheme) (choice : ℕ → A) (product : ℕ → A → A → A) where
  up_to-length : (v : ℕ) → length (up_to n s choice product v) ≡ v
  unfolding up_to
  up_to-length zero = refl
  up_to-length (suc v) = length-append (up_to n s choice product v) _ ∙ ap (λ x. x + 1) (up_to-length v) ∙ add-one v

  -- the lists agree
  pub up_to_at : (w v : ℕ) → v < w → get_or (up_to n s choice product w) v (choice 0) ≡ upward n s choice product v
  unfolding up_to upward
  up_to_at w v = le_ind (λ w. get_or (up_to n s choice product w) v (choice 0) ≡ upward n s choice product v) refl step w
    where
      step : (m : ℕ) → v < m → get_or (up_to n s choice product m) v (choice 0) ≡ upward n s choice product v → get_or (up_to n s choice product (suc m)) v (choice 0) ≡ upward n s choice product v
      step m l e = get_or-append (up_to n s choice product m) _ (choice 0) v (rw up_to-length l) ∙ e

  last : (v : ℕ) → upward n s choice product v ≡ next n s choice product (up_to n s choice product v) v
  unfolding up_to upward
  last v = get_or_at (up_to n s choice product v) _ [] (choice 0) v (up_to-length v)

  pub upward_choice : (i : ℕ) → i < n → upward n s choice product i ≡ choice i
  upward_choice i l = last i ∙ rw (lt-ltb i n l)

  pub upward_product : (v : ℕ) → n ≤ v → left n s v < v → right n s v < v → upward n s choice product v ≡ product v (upward n s choice product (left n s v)) (upward n s choice product (right n s v))
  upward_product v l a b = last v ∙ rw (le-ltb v n l, up_to_at v (left n s v) a, up_to_at v (right n s v) b)

-- the products from v on do not matter to the variables below v: a scheme may still grow
pub up_to_same : {A : Type 0} (n : ℕ) (s s' : Scheme) (choice : ℕ → A) (product : ℕ → A → A → A) (v : ℕ) →
    ((w : ℕ) → n ≤ w → w < v → (left n s w ≡ left n s' w) × (right n s w ≡ right n s' w)) →
    up_to n s choice product v ≡ up_to n s' choice product v
unfolding up_to
up_to_same n s s' choice product zero h = refl
up_to_same n s s' choice product (suc v) h =
    rw (up_to_same n s s' choice product v (λ w l m. h w l (omega arith)))
    (ap (λ x. up_to n s' choice product v ++ (x ∷ [])) (go (dec_lt v n)))
  where
    go : Dec (v < n) → next n s choice product (up_to n s' choice product v) v ≡ next n s' choice product (up_to n s' choice product v) v
    go (yes l) = rw (lt-ltb v n l)
    go (no l) = let e = h v (omega arith) (omega arith) in rw (e.0, e.1)

pub E_choice : (n : ℕ) (s : Scheme) (i : ℕ) → i < n → E n s i ≡ 2 ^ i
unfolding E
E_choice n s = upward_choice n s _ _

-- ---- where the operands of each product are smaller

module _ (n : ℕ) (s : Scheme) (products : Products n s) where
  pub left_falls : (v : ℕ) → n ≤ v → v < variables n s → left n s v < v
  left_falls v l m = omega (arith, (products v l m).ordered, (products v l m).falls)

  pub E_product : (v : ℕ) → n ≤ v → v < variables n s → E n s v ≡ bit_or (E n s (left n s v)) (E n s (right n s v))
  unfolding E
  E_product v l m = upward_product n s _ _ v l (left_falls v l m) (products v l m).falls

  -- what holds of the choices, and of a product where it holds of its operands, holds of every variable
  module _ (P : ℕ → Type 0) (choice : (i : ℕ) → i < n → P i) (product : (v : ℕ) → n ≤ v → v < variables n s → P (left n s v) → P (right n s v) → P v) where
    below : (d v : ℕ) → v < d → v < variables n s → P v
    below zero v l m = absurd (omega arith)
    below (suc d) v l m = go (dec_lt v n) (below d)
      where
        go : Dec (v < n) → ((w : ℕ) → w < d → w < variables n s → P w) → P v
        go (yes i) ih = choice v i
        go (no i) ih =
            let a : n ≤ v = omega arith in
            let x : left n s v < v = left_falls v a m in
            let y : right n s v < v = (products v a m).falls in
            product v a m (ih (left n s v) (omega arith) (omega arith)) (ih (right n s v) (omega arith) (omega arith))

    pub variable_ind : (v : ℕ) → v < variables n s → P v
    variable_ind v = below (suc v) v (le_refl (suc v))
