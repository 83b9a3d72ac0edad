-- The filling that a plan induces is a point of the relaxation, with D = 1.
use Prim.Native.Nat.{ℕ}
use native.Mathlib.Omega.{arith}
use Rattle.integers.specs.Integer.{bit}
use Rattle.integers.proofs.Lists.{bit_low, bit_high, and_left, and_right, and_above}
use Rattle.scheme.specs.declared.Scheme.{Scheme}
use Rattle.scheme.specs.Scheme.{left, right}
use Rattle.scheme.specs.Filling.{induced}
use Rattle.scheme.specs.Valid.{Products}
use Rattle.scheme.proofs.Filling.{induced_consistent}
use Rattle.residual.specs.Relaxed.{Relaxed}

pub induced_relaxed : (n : ℕ) (s : Scheme) (plan : ℕ) → Products n s → Relaxed n s 1 (λ v. bit (induced n s plan v))
induced_relaxed n s plan products =
    let z = induced n s plan in
    record {
      positive = omega arith;
      low = λ i h. bit_low (z i);
      high = λ i h. bit_high (z i);
      below_left = λ k h l. rw (induced_consistent n s plan products k h l) (and_left (z (left n s k)) (z (right n s k)));
      below_right = λ k h l. rw (induced_consistent n s plan products k h l) (and_right (z (left n s k)) (z (right n s k)));
      above = λ k h l. rw (induced_consistent n s plan products k h l) (and_above (z (left n s k)) (z (right n s k)));
    }
