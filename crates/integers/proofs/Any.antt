-- A test that passes at some number below a bound.
use Prim.Native.Nat.{ℕ, zero, suc, ◌≤◌, ◌<◌}
use native.Mathlib.Omega.{arith}
use native.Mathlib.Decide.{ℕ_discrete}
use mathlib.Core.Path.{◌≡◌, refl}
use mathlib.Core.Logic.{⊎_elim}
use mathlib.Core.Bool.{Bool, true, false, false≢true, or-true, or-false}
use Rattle.integers.specs.Lists.{any_below}
use Rattle.integers.proofs.Lists.{or_either}
use Rattle.integers.proofs.Entries.{below_or_last}

-- where it passes
pub record Found (n : ℕ) (f : ℕ → Bool) : Type 0 where
  pub index : ℕ
  pub below : index < n
  pub passes : f index ≡ true

pub any_found : (n : ℕ) (f : ℕ → Bool) → any_below n f ≡ true → Found n f
any_found zero f e = absurd (false≢true e)
any_found (suc n) f e =
    ⊎_elim
    (λ a. let p = any_found n f a in record { index = p.index; below = omega (arith, p.below); passes = p.passes })
    (λ b. record { index = n; below = omega arith; passes = b })
    (or_either _ _ e)

pub any_at : (n : ℕ) (f : ℕ → Bool) (i : ℕ) → i < n → f i ≡ true → any_below n f ≡ true
any_at zero f i l t = absurd (omega arith)
any_at (suc n) f i l t = ⊎_elim (λ (k : i < n). rw (any_at n f i k t)) (λ (e : i ≡ n). rw (rw e at t, or-true)) (below_or_last i n l)

pub any_none : (n : ℕ) (f : ℕ → Bool) → ((i : ℕ) → i < n → f i ≡ false) → any_below n f ≡ false
any_none zero f h = refl
any_none (suc n) f h = rw (any_none n f (λ i l. h i (omega arith)), h n (omega arith))

-- it passes nowhere from j on
pub any_front : (j n : ℕ) (f : ℕ → Bool) → j ≤ n → ((i : ℕ) → j ≤ i → i < n → f i ≡ false) → any_below n f ≡ any_below j f
any_front j zero f l h = let e : j ≡ 0 = omega arith in rw e
any_front j (suc n) f l h = go (ℕ_discrete j (suc n)) (λ k. any_front j n f k (λ i a b. h i a (omega arith)))
  where
    go : Dec (j ≡ suc n) → (j ≤ n → any_below n f ≡ any_below j f) → any_below (suc n) f ≡ any_below j f
    go (yes e) before = rw e
    go (no d) before = rw (h n (omega arith) (omega arith), or-false (any_below n f)) (before (omega arith))
