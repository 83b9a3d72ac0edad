-- What the two listing calls answer, and the table and the buffer after them.
use Rattle.std.specs.Prelude.{ℕ, ◌+◌, ◌*◌, ◌-◌, ◌^◌, cond, List, ltb, ℤ, negsuc, length}
use Rattle.wire.specs.declared.WriterAnswer.{WriterAnswer}
use Rattle.wire.specs.Writer.{refused_answer, bytes_answer, with_front}
use Rattle.forms.specs.Table.{table_numbers}
use Rattle.register.specs.Limits.{max_choices, max_tank, long_day}
use Rattle.job.specs.Outcome.{outcome, table_after}
use Rattle.listing.specs.Listing.{PlanLines, choice_line, fed_line, plan_lines, supplier_lines, bound_line, listed}

-- no listing has more bytes: a `T` and an `F` line of the highest numbers for each choice, and a `B` line of −2^63, the longest
-- number of 64 bits. A supplier's is shorter, as a `C` line is shorter than that `T` line

abbrev pub longest_number : ℤ
longest_number = negsuc (2 ^ 63 - 1)

unfoldable pub longest_listing : ℕ
longest_listing = max_choices * (length (choice_line max_choices max_tank (long_day - 1)) + length (fed_line max_tank (long_day - 1))) + length (bound_line longest_number longest_number longest_number)

-- so a buffer of so many bytes is enough (`longest_fits` in proofs/Lengths)
abbrev pub listing_room : ℕ
listing_room = 4_096

-- a text for a lent table and a lent buffer: the only refusal is 11, part and position 0. A table below 4,225 numbers is found before
-- all else, so before a job is read, a short buffer after that

abbrev pub lent_answer : List ℕ → List ℤ → List ℕ → WriterAnswer
lent_answer text table buffer = cond (ltb (length table) table_numbers) (refused_answer 11 0 0) (bytes_answer text buffer)

abbrev pub lent_buffer : List ℕ → List ℤ → List ℕ → List ℕ
lent_buffer text table buffer = cond (ltb (length table) table_numbers) buffer (with_front text buffer)

-- of the job's bytes, the lent table and the lent buffer, for a farm or for a supplier by the lines

unfoldable pub answer_with : PlanLines → List ℕ → List ℤ → List ℕ → WriterAnswer
answer_with lines job table buffer = lent_answer (listed lines (outcome job)) table buffer

unfoldable pub buffer_with : PlanLines → List ℕ → List ℤ → List ℕ → List ℕ
buffer_with lines job table buffer = lent_buffer (listed lines (outcome job)) table buffer

-- the table after either call
unfoldable pub listing_table : List ℕ → List ℤ → List ℤ
listing_table job table = cond (ltb (length table) table_numbers) table (table_after job table)

-- the farm's call

abbrev pub listing_answer : List ℕ → List ℤ → List ℕ → WriterAnswer
listing_answer = answer_with plan_lines

abbrev pub listing_buffer : List ℕ → List ℤ → List ℕ → List ℕ
listing_buffer = buffer_with plan_lines

-- the supplier's

abbrev pub supplier_answer : List ℕ → List ℤ → List ℕ → WriterAnswer
supplier_answer = answer_with supplier_lines

abbrev pub supplier_buffer : List ℕ → List ℤ → List ℕ → List ℕ
supplier_buffer = buffer_with supplier_lines
