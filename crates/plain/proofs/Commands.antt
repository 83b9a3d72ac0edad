-- The commands of our own certificate: at most two for each variable, and each allowed.
use Prim.Native.Nat.{ℕ, zero, suc, ◌*◌, ◌≤◌, ◌<◌}
use mathlib.Core.Path.{◌≡◌, refl}
use mathlib.Core.Bool.{Bool, true, false, cond}
use mathlib.Core.List.{List, [], ◌∷◌}
use native.Mathlib.Omega.{arith}
use lib.Dec.{eqb}
use lib.IntN.{ℤ, pos, negsuc, nat_abs}
use lib.ListN.{length, length-append}
use Rattle.integers.specs.Lists.{All, join_below}
use Rattle.integers.proofs.Lists.{cond_cases}
use Rattle.register.specs.declared.Register.{Register}
use Rattle.scheme.specs.declared.Scheme.{Scheme}
use Rattle.scheme.specs.Scheme.{variables}
use Rattle.certificate.specs.Limits.{max_multiplier}
use Rattle.certificate.specs.Within.{Allowed}
use Rattle.plain.specs.Plain.{half_row_sum, linear_left, unless_zero, cancelling, plain}
use Rattle.certificate.proofs.Commands.{command, command_31, command_38, command_39}

-- ---- how many commands

length_join : {A : Type 0} (n b : ℕ) (f : ℕ → List A) → ((i : ℕ) → length (f i) ≤ b) → length (join_below n f) ≤ b * n
unfolding join_below
length_join zero b f h = omega arith
length_join (suc n) b f h = omega (arith, length-append (join_below n f) (f n), length_join n b f h, h n)

-- one, or none where the multiplier is 0

pub length-unless_zero : (kind i m : ℕ) → length (unless_zero kind i m) ≡ cond (eqb m 0) 0 1
unfolding unless_zero
length-unless_zero kind i m = go (eqb m 0)
  where
    go : (b : Bool) → length (cond b [] (command kind i m ∷ [])) ≡ cond b 0 1
    go true = refl
    go false = refl

pub length-cancelling : (i : ℕ) (x : ℤ) → length (cancelling i x) ≡ cond (eqb (nat_abs x) 0) 0 1
unfolding cancelling
length-cancelling i (pos m) = length-unless_zero _ i m
length-cancelling i (negsuc m) = length-unless_zero _ i (suc m)

pub one_at_most : (b : Bool) → cond b 0 1 ≤ 1
one_at_most true = omega arith
one_at_most false = omega arith

-- at most two commands for each variable
pub plain_count : (c : ℕ → ℤ) (r : Register) (s : Scheme) → length (plain c r s).multipliers ≤ 2 * variables r.choices s
unfolding plain
plain_count c r s =
    let N = variables r.choices s in
    let first = join_below N (λ i. unless_zero 0x31 i (half_row_sum c r s i)) in
    let second = join_below N (λ i. cancelling i (linear_left c r s i)) in
    omega (
      arith,
      length-append first second,
      length_join N 1 (λ i. unless_zero 0x31 i (half_row_sum c r s i)) (λ i. rw (length-unless_zero 0x31 i (half_row_sum c r s i)) (one_at_most (eqb (half_row_sum c r s i) 0))),
      length_join N 1 (λ i. cancelling i (linear_left c r s i)) (λ i. rw (length-cancelling i (linear_left c r s i)) (one_at_most (eqb (nat_abs (linear_left c r s i)) 0))),
    )

-- ---- they are allowed

module _ (r : Register) (s : Scheme) where
  abbrev N : ℕ
  N = variables r.choices s

  allowed_unless_zero : (kind i m : ℕ) → Allowed r s (command kind i m) → All (Allowed r s) (unless_zero kind i m)
  unfolding unless_zero
  allowed_unless_zero kind i m ok = cond_cases (All (Allowed r s)) (eqb m 0) [] (command kind i m ∷ []) (λ _. tt) (λ _. (ok, tt))

  pub allowed_31 : (i m : ℕ) → i < N → m ≤ max_multiplier → All (Allowed r s) (unless_zero 0x31 i m)
  allowed_31 i m h l = allowed_unless_zero 0x31 i m (command_31 r s i m h l)

  allowed_38 : (i m : ℕ) → i < N → m ≤ max_multiplier → All (Allowed r s) (unless_zero 0x38 i m)
  allowed_38 i m h l = allowed_unless_zero 0x38 i m (command_38 r s i m h l)

  allowed_39 : (i m : ℕ) → i < N → m ≤ max_multiplier → All (Allowed r s) (unless_zero 0x39 i m)
  allowed_39 i m h l = allowed_unless_zero 0x39 i m (command_39 r s i m h l)

  pub allowed_cancelling : (i : ℕ) (x : ℤ) → i < N → nat_abs x ≤ max_multiplier → All (Allowed r s) (cancelling i x)
  unfolding cancelling
  allowed_cancelling i (pos m) h l = allowed_38 i m h l
  allowed_cancelling i (negsuc m) h l = allowed_39 i (suc m) h l
