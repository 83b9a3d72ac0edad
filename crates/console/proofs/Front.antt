-- Lines at the front of a text, and their count.
use Prim.Native.Nat.{ℕ, ◌≤◌}
use native.Mathlib.Omega.{arith}
use mathlib.Core.Path.{◌≡◌, ◌∙◌, ap}
use mathlib.Core.List.{List, ◌++◌}
use lib.IntN.{ℤ}
use lib.ListN.{length, drop, length-append}
use Rattle.wire.specs.declared.WriterAnswer.{WriterAnswer}
use Rattle.forms.specs.Table.{table_numbers}
use Rattle.job.specs.Outcome.{outcome}
use Rattle.listing.specs.Listing.{PlanLines, listed}
use Rattle.listing.specs.Answer.{listing_room, answer_with, buffer_with}
use Rattle.listing.proofs.Answers.{enough}

-- the lines, and then what stood there
pub front : (lines text : List ℕ) (n : ℕ) (out : List ℕ) → n ≡ length lines → out ≡ lines ++ drop (length lines) text →
    (n ≡ length lines) × ((out ≡ lines ++ drop n text) × (n ≤ length out))
front lines text n out e d =
    let rest = drop n text in
    let o : out ≡ lines ++ rest = rw e d in
    (e, (o, rw o (omega (arith, e, length-append lines rest))))

-- so a listing call's lines, whichever they are, where the table is long enough and the text has room
pub listed_front : (lines : PlanLines) (job : List ℕ) (table : List ℤ) (text : List ℕ) (a : WriterAnswer) (out : List ℕ) → table_numbers ≤ length table → listing_room ≤ length text →
    a ≡ answer_with lines job table text → out ≡ buffer_with lines job table text → length (listed lines (outcome job)) ≤ listing_room →
    (a.count ≡ length (listed lines (outcome job))) × ((out ≡ listed lines (outcome job) ++ drop a.count text) × (a.count ≤ length out))
listed_front lines job table text a out l m e d short =
    let w = enough lines job table text l m short in
    front (listed lines (outcome job)) text a.count out (ap (λ a. a.count) (e ∙ w.0)) (d ∙ w.1)
