-- The answer of the call and its buffer, by what the test of the two numbers gives.
use Prim.Native.Nat.{ℕ}
use mathlib.Core.Path.{◌≡◌}
use mathlib.Core.List.{List}
use Rattle.integers.proofs.Lists.{flag}
use Rattle.wire.specs.Outcome.{answer_by}
use Rattle.wire.specs.Writer.{refused_answer, bytes_answer, with_front}
use Rattle.costliest.specs.Costliest.{is_refused, costliest_bytes}
use Rattle.costliest.specs.Work.{admitted}
use Rattle.costliest.specs.Answer.{costliest_answer, costliest_buffer}

module _ (m d : ℕ) (lent : List ℕ) where
  pub answer_from : answer_by refused_answer (λ s. bytes_answer (costliest_bytes s.0 s.1) lent) (admitted m d) ≡ costliest_answer m d lent
  unfolding costliest_answer
  answer_from = flag (is_refused m d) (λ e. rw e) (λ e. rw e)

  pub buffer_from : answer_by (λ number part at. lent) (λ s. with_front (costliest_bytes s.0 s.1) lent) (admitted m d) ≡ costliest_buffer m d lent
  unfolding costliest_buffer
  buffer_from = flag (is_refused m d) (λ e. rw e) (λ e. rw e)
