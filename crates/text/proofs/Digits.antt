-- The digits of a number: how many a bound allows doesn't matter once it is above the number, and the last digit stands last.
use Prim.Native.Nat.{ℕ, zero, suc, ◌+◌, ◌/◌, ◌%◌, ◌<◌, ◌≤◌}
use native.Mathlib.Omega.{arith}
use mathlib.Core.Path.{◌≡◌, refl, sym, ap, ◌∙◌}
use mathlib.Core.Bool.{true, false, true≢false}
use mathlib.Core.List.{[], ◌∷◌, ◌++◌}
use lib.Dec.{ltb}
use lib.ListN.{length, length-append}
use lib.Signed.{lt_z}
use lib.IntN.{ℤ, pos, negsuc, nat_abs}
use borrow.Author.Tests.{lt-ltb, le-ltb, ltb-true, ltb-false}
use Rattle.integers.proofs.Lists.{flag}
use Rattle.text.specs.Text.{digits_to, digits, decimal}
use Rattle.text.specs.Fields.{sign}

to_one : (k n : ℕ) → n < 10 → digits_to (suc k) n ≡ (48 + n) ∷ []
unfolding digits_to
to_one k n l = rw (lt-ltb n 10 l, digits_to)

to_more : (k n : ℕ) → 10 ≤ n → digits_to (suc k) n ≡ digits_to k (n / 10) ++ ((48 + n % 10) ∷ [])
unfolding digits_to
to_more k n l = rw (le-ltb n 10 l, digits_to)

enough : (j k n : ℕ) → n < j → n < k → digits_to j n ≡ digits_to k n
enough zero k n a b = absurd (omega arith)
enough (suc j) zero n a b = absurd (omega arith)
enough (suc j) (suc k) n a b =
    flag (ltb n 10)
    (λ t. let l = ltb-true n 10 t in to_one j n l ∙ sym (to_one k n l))
    (λ f. let l = ltb-false n 10 f in to_more j n l ∙ ap (λ d. d ++ ((48 + n % 10) ∷ [])) (enough j k (n / 10) (omega arith) (omega arith)) ∙ sym (to_more k n l))

-- one digit
pub digits_one : (n : ℕ) → n < 10 → digits n ≡ (48 + n) ∷ []
unfolding digits
digits_one n l = to_one n n l

-- the last digit after the others
pub digits_more : (n : ℕ) → 10 ≤ n → digits n ≡ digits (n / 10) ++ ((48 + n % 10) ∷ [])
unfolding digits
digits_more n l = to_more n n l ∙ ap (λ d. d ++ ((48 + n % 10) ∷ [])) (enough n (suc (n / 10)) (n / 10) (omega arith) (omega arith))

-- how many

length_one : (n : ℕ) → n < 10 → length (digits n) ≡ 1
length_one n l = ap length (digits_one n l)

pub length_more : (n : ℕ) → 10 ≤ n → length (digits n) ≡ length (digits (n / 10)) + 1
length_more n l = ap length (digits_more n l) ∙ length-append (digits (n / 10)) ((48 + n % 10) ∷ [])

-- no more than those of a number above it
mono : (k m n : ℕ) → n < k → m ≤ n → length (digits m) ≤ length (digits n)
mono zero m n l h = absurd (omega arith)
mono (suc k) m n l h =
    flag (ltb n 10)
    (λ t. let b = ltb-true n 10 t in omega (arith, length_one m (omega arith), length_one n b))
    (λ t. let b = ltb-false n 10 t in
    flag (ltb m 10)
    (λ u. omega (arith, length_one m (ltb-true m 10 u), length_more n b))
    (λ u. omega (arith, length_more m (ltb-false m 10 u), length_more n b, mono k (m / 10) (n / 10) (omega arith) (omega arith))))

pub digits_mono : (m n : ℕ) → m ≤ n → length (digits m) ≤ length (digits n)
digits_mono m n l = mono (suc n) m n (omega arith) l

-- ---- a number with its sign

pub decimal_sign : (z : ℤ) → decimal z ≡ sign z ++ digits (nat_abs z)
unfolding decimal sign
decimal_sign (pos n) = refl
decimal_sign (negsuc n) = refl

-- by the test that the code makes

pub sign_below : (z : ℤ) → lt_z z (pos 0) ≡ true → sign z ≡ 0x2D ∷ []
unfolding sign
sign_below (pos n) e = absurd (omega (arith, ltb-true n 0 e))
sign_below (negsuc n) e = refl

pub sign_none : (z : ℤ) → lt_z z (pos 0) ≡ false → sign z ≡ []
unfolding sign
sign_none (pos n) e = refl
sign_none (negsuc n) e = absurd (true≢false e)
