-- What a listing call answers and leaves, from what reading the job gave, whatever its lines of a register and a plan.
use Prim.Native.Nat.{ℕ, ◌≤◌, ◌<◌}
use mathlib.Core.Path.{◌≡◌, sym, ap, ◌∙◌}
use mathlib.Core.Bool.{true}
use mathlib.Core.List.{List, ◌++◌}
use native.Mathlib.Omega.{arith}
use lib.Dec.{ltb}
use lib.IntN.{ℤ}
use lib.ListN.{length, drop}
use borrow.Author.Tests.{lt-ltb, le-ltb}
use Rattle.integers.proofs.Lists.{flag}
use Rattle.forms.specs.Table.{table_numbers}
use Rattle.job.specs.Outcome.{outcome, table_after}
use Rattle.wire.specs.declared.WriterAnswer.{WriterAnswer}
use Rattle.wire.specs.Writer.{refused_answer, written_answer, bytes_answer, with_front}
use Rattle.wire.proofs.Written.{written_front}
use Rattle.wire.proofs.Writer.{HandedBack, bytes_short, bytes_fit, bytes_back}
use Rattle.listing.specs.Listing.{PlanLines, listed}
use Rattle.listing.specs.Answer.{listing_room, answer_with, buffer_with, listing_table}

-- ---- bytes and a lent buffer

module _ (bytes lent : List ℕ) where
  abbrev Leaves : WriterAnswer → List ℕ → Type 0
  Leaves a out = (a ≡ bytes_answer bytes lent) × (out ≡ with_front bytes lent)

  pub no_room : length lent < length bytes → Leaves (refused_answer 11 0 0) lent
  no_room l = bytes_short bytes lent l

  pub copied : length bytes ≤ length lent → Leaves (written_answer (length bytes)) (bytes ++ drop (length bytes) lent)
  copied fit = let w = bytes_fit bytes lent fit in (w.0, sym (written_front lent bytes fit) ∙ w.1)

-- ---- the call

module _ (lines : PlanLines) (job : List ℕ) (table : List ℤ) (buffer : List ℕ) where
  abbrev Answered : WriterAnswer → List ℤ → List ℕ → Type 0
  Answered a table' buffer' = (a ≡ answer_with lines job table buffer) × ((table' ≡ listing_table job table) × (buffer' ≡ buffer_with lines job table buffer))

  pub short_table : length table < table_numbers → Answered (refused_answer 11 0 0) table buffer
  unfolding answer_with listing_table buffer_with
  short_table l = let t = lt-ltb (length table) table_numbers l in (rw t, (rw t, rw t))

  pub long_table : table_numbers ≤ length table → (bytes : List ℕ) → bytes ≡ listed lines (outcome job) → (a : WriterAnswer) (table' : List ℤ) (buffer' : List ℕ) →
      table' ≡ table_after job table → (a ≡ bytes_answer bytes buffer) × (buffer' ≡ with_front bytes buffer) → Answered a table' buffer'
  unfolding answer_with listing_table buffer_with
  long_table l bytes e a table' buffer' d w =
      let t = le-ltb (length table) table_numbers l in
      (w.0 ∙ rw (t, e), (d ∙ rw t, w.1 ∙ rw (t, e)))

  -- where the call answers 0, it hands the lines back
  pub handed_back : (answer_with lines job table buffer).number ≡ 0 → HandedBack (listed lines (outcome job)) buffer (answer_with lines job table buffer) (buffer_with lines job table buffer)
  unfolding answer_with buffer_with
  handed_back z = flag (ltb (length table) table_numbers) short λ t. bytes_back (listed lines (outcome job)) buffer _ _ (rw t) (rw t) z
    where
      short : ltb (length table) table_numbers ≡ true → HandedBack (listed lines (outcome job)) buffer (answer_with lines job table buffer) (buffer_with lines job table buffer)
      short t =
          let w : answer_with lines job table buffer ≡ refused_answer 11 0 0 = rw t in
          let n : ◌≡◌ {A = ℕ} 11 0 = ap (λ x. x.number) (sym w) ∙ z in
          absurd (omega arith)

  -- a buffer that has room for every listing
  pub enough : table_numbers ≤ length table → listing_room ≤ length buffer → length (listed lines (outcome job)) ≤ listing_room →
      (answer_with lines job table buffer ≡ written_answer (length (listed lines (outcome job)))) × (buffer_with lines job table buffer ≡ listed lines (outcome job) ++ drop (length (listed lines (outcome job))) buffer)
  unfolding answer_with buffer_with
  enough l m k =
      let t = le-ltb (length table) table_numbers l in
      let fit : length (listed lines (outcome job)) ≤ length buffer = omega arith in
      let w = bytes_fit (listed lines (outcome job)) buffer fit in
      (rw t (sym w.0), rw t (sym w.1 ∙ written_front buffer (listed lines (outcome job)) fit))
