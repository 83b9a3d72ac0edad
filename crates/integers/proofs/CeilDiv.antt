-- Division of an integer by a positive number, rounded up.
use mathlib.Core.Path.{◌≡◌}
use mathlib.Core.Logic.{⊎_elim}
use Prim.Native.Nat.{ℕ, suc, ◌+◌, ◌*◌, ◌-◌, ◌/◌, ◌%◌, ◌≤◌, ◌<◌}
use native.Mathlib.Nat.{div-add-mod', mod-lt, div-le_self, div-lt_iff_lt-mul, mul-le-mul_left, mul-le-mul_right}
use native.Mathlib.Omega.{arith}
use lib.IntN.{ℤ, pos, negsuc, neg_ℤ, ◌-ℤ◌, ◌*ℤ◌, nat_abs}
use lib.Signed.{◌≤ℤ◌, ◌<ℤ◌, clash_ℤ}
use Rattle.integers.specs.CeilDiv.{ceil_div, IsCeilDiv}
use Rattle.integers.proofs.Diff.{diff₂, diffs}
use Rattle.integers.proofs.Order.{≤ℤ_or_>, ≤ℤ_trans, nat_abs_neg}

-- so it is where (r − 1) s < t ≤ r s
pub ceil_between : (t : ℤ) (s : ℕ) (r : ℤ) → t ≤ℤ (r *ℤ pos s) → (r *ℤ pos s -ℤ pos s) <ℤ t → IsCeilDiv t s r
ceil_between t s r above below =
    record {
      above = above;
      least = λ q h. ⊎_elim (λ l. l) (λ l. clash_ℤ below (≤ℤ_trans _ _ _ h (one_less r q l))) (≤ℤ_or_> r q);
    }
  where
    one_less : (r q : ℤ) → q <ℤ r → (q *ℤ pos s) ≤ℤ (r *ℤ pos s -ℤ pos s)
    one_less = diff₂ _ λ p q t u. simp diffs λ l. omega (arith, mul-le-mul_right s l)

module _ (s : ℕ) (positive : 0 < s) where
  -- the definition meets its characterisation
  pub ceil_div_is : (t : ℤ) → IsCeilDiv t s (ceil_div t s)
  unfolding ceil_div
  ceil_div_is (pos t) = go ((t + (s - 1)) / s) ((t + (s - 1)) % s) (div-add-mod' (t + (s - 1)) s) (mod-lt (t + (s - 1)) positive)
    where
      go : (n m : ℕ) → n * s + m ≡ t + (s - 1) → m < s → IsCeilDiv (pos t) s (pos n)
      go n m e l = let h = near n m e l in ceil_between (pos t) s (pos n) h.0 h.1
        where
          near : (n m : ℕ) → n * s + m ≡ t + (s - 1) → m < s → (pos t ≤ℤ (pos n *ℤ pos s)) × ((pos n *ℤ pos s -ℤ pos s) <ℤ pos t)
          near n m = simp diffs (omega arith)
  ceil_div_is (negsuc t) = go (suc t / s) (suc t % s) (div-add-mod' (suc t) s) (mod-lt (suc t) positive)
    where
      go : (n m : ℕ) → n * s + m ≡ suc t → m < s → IsCeilDiv (negsuc t) s (neg_ℤ (pos n))
      go n m e l = let h = near n m e l in ceil_between (negsuc t) s (neg_ℤ (pos n)) h.0 h.1
        where
          near : (n m : ℕ) → n * s + m ≡ suc t → m < s → (negsuc t ≤ℤ (neg_ℤ (pos n) *ℤ pos s)) × ((neg_ℤ (pos n) *ℤ pos s -ℤ pos s) <ℤ negsuc t)
          near n m = simp diffs (omega arith)

-- it is no larger than what is divided
pub nat_abs-ceil_div : (t : ℤ) (s : ℕ) → 1 ≤ s → nat_abs (ceil_div t s) ≤ nat_abs t
unfolding ceil_div
nat_abs-ceil_div (pos t) s l =
    let below : (t + (s - 1)) / s < suc t = (div-lt_iff_lt-mul {x = t + (s - 1)} {y = suc t} l).1 (omega (arith, mul-le-mul_left t l)) in
    omega arith
nat_abs-ceil_div (negsuc t) s l = rw nat_abs_neg (div-le_self (suc t) s)
