-- With another factor of the scheme our own certificate has the same bytes, and the call answers as before.
use mathlib.Core.Path.{◌≡◌, refl, ap}
use mathlib.Core.List.{List}
use Prim.Native.Nat.{ℕ}
use lib.IntN.{ℤ}
use Rattle.wire.specs.Outcome.{accepts, answer_by}
use Rattle.wire.specs.Writer.{refused_answer, bytes_answer, with_front}
use Rattle.register.specs.declared.Register.{Register}
use Rattle.scheme.specs.declared.Scheme.{Scheme}
use Rattle.scheme.specs.Scheme.{with_factor}
use Rattle.scheme.specs.Function.{g}
use Rattle.scheme.specs.Answer.{open_parts}
use Rattle.bound.proofs.OtherFactor.{opened_with_factor}
use Rattle.plain.specs.Plain.{half_row_sum, linear_left, subtracted_constant, plain}
use Rattle.plain.specs.Encoding.{encode_plain}
use Rattle.plain.specs.Answer.{own_bytes, plain_answer, plain_buffer}

module _ (reg : Register) (s : Scheme) (f : ℕ) where
  plain_with_factor : (c : ℕ → ℤ) → plain c reg (with_factor s f) ≡ plain c reg s
  unfolding plain half_row_sum linear_left subtracted_constant g
  plain_with_factor c = refl

  own_with_factor : (plan : ℕ) → own_bytes reg (with_factor s f) plan ≡ own_bytes reg s plan
  unfolding encode_plain
  own_with_factor plan = rw (plain_with_factor _) refl

-- ---- the call: where part 2 is read as a scheme, and in other bytes as the same with another factor

module _ (register t u : List ℕ) (reg : Register) (s : Scheme) (f : ℕ) (one : open_parts register t ≡ accepts (reg, s)) (other : open_parts register u ≡ accepts (reg, with_factor s f)) (plan lent : List ℕ) where
  pub answer_with_factor : plain_answer register u plan lent ≡ plain_answer register t plan lent
  unfolding plain_answer
  answer_with_factor =
      opened_with_factor register t u reg s f one other plan
      (answer_by refused_answer (λ (r, sch, p). bytes_answer (own_bytes r sch p) lent))
      (λ p. ap (λ x. bytes_answer x lent) (own_with_factor reg s f p))

  pub buffer_with_factor : plain_buffer register u plan lent ≡ plain_buffer register t plan lent
  unfolding plain_buffer
  buffer_with_factor =
      opened_with_factor register t u reg s f one other plan
      (answer_by (λ number part at. lent) (λ (r, sch, p). with_front (own_bytes r sch p) lent))
      (λ p. ap (λ x. with_front x lent) (own_with_factor reg s f p))
