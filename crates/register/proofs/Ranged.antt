-- The coefficients of a register's terms, also past the count: the low one is at most the high one, and both are within the limit. Where
-- no term has a range they are one, and the bytes of the terms are those of `12` and `15` alone.
use Prim.Native.Nat.{ℕ, ◌<◌, ◌≤◌}
use native.Mathlib.Omega.{arith}
use mathlib.Core.Path.{◌≡◌, refl, sym, ◌∙◌}
use mathlib.Core.Bool.{Bool, false, false≢true}
use lib.Dec.{ltb}
use lib.IntN.{ℤ, pos, nat_abs}
use lib.Signed.{◌≤ℤ◌, ≤ℤ_refl}
use borrow.Author.Tests.{ltb-true, ltb-false}
use Rattle.integers.specs.Lists.{join_below}
use Rattle.integers.proofs.Lists.{flag}
use Rattle.integers.proofs.Any.{any_at}
use Rattle.integers.proofs.Join.{join_cong}
use Rattle.register.specs.declared.Register.{Register}
use Rattle.register.specs.Limits.{max_coefficient}
use Rattle.register.specs.Register.{mask, coefficient, high, is_range, has_range}
use Rattle.register.specs.Valid.{Within}
use Rattle.register.specs.Encoding.{encode_known, encode_terms_by}

module _ (r : Register) (w : Within r) where
  -- by whether there is such a term: past the count both coefficients are 0
  by_count : (Q : (low high : ℤ) → Type 0) (t : ℕ) → (t < r.terms → Q (coefficient r t) (high r t)) → Q (pos 0) (pos 0) → Q (coefficient r t) (high r t)
  by_count Q t there past =
      flag (ltb t r.terms)
      (λ l. there (ltb-true t r.terms l))
      (λ l. let k = ltb-false t r.terms l in rw (w.terms.coefficients.rest t k, w.terms.highs.rest t k) past)

  pub low_high : (t : ℕ) → coefficient r t ≤ℤ high r t
  low_high t = by_count (λ a b. a ≤ℤ b) t (λ l. (w.terms.each t l).ordered) (≤ℤ_refl (pos 0))

  pub low_small : (t : ℕ) → nat_abs (coefficient r t) ≤ max_coefficient
  low_small t = by_count (λ a b. nat_abs a ≤ max_coefficient) t (λ l. (w.terms.each t l).coefficient_within) (omega arith)

  pub high_small : (t : ℕ) → nat_abs (high r t) ≤ max_coefficient
  high_small t = by_count (λ a b. nat_abs b ≤ max_coefficient) t (λ l. (w.terms.each t l).high_within) (omega arith)

  module _ (none : has_range r ≡ false) where
    pub unranged : (t : ℕ) → is_range r t ≡ false
    unranged t =
        flag (ltb t r.terms)
        (λ l. flag (is_range r t) (λ e. absurd (false≢true (sym none ∙ any_at r.terms (is_range r) t (ltb-true t r.terms l) e))) (λ e. e))
        (λ l. w.terms.ranged.rest t (ltb-false t r.terms l))

    pub high_is : (t : ℕ) → high r t ≡ coefficient r t
    high_is t = by_count (λ a b. b ≡ a) t (λ l. ((w.terms.each t l).known (unranged t)).0) refl

    pub terms_bytes : (wide : ℕ → Bool) → encode_terms_by wide r ≡ join_below r.terms (λ t. encode_known (wide t) (mask r t) (coefficient r t))
    terms_bytes wide = join_cong r.terms _ _ (λ t l. rw (unranged t))
