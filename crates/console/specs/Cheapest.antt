-- The lines of a register's cheapest plan: `F` for each fed choice and `S`, or only `R` for a refusal.
use Rattle.std.specs.Prelude.{ℕ, ◌+◌, ◌*◌, ◌-◌, ◌^◌, cond, List, [], ◌∷◌, ◌++◌, eqb, ℤ, pos, length}
use Rattle.text.specs.Text.{line}
use Rattle.register.specs.declared.Register.{Register}
use Rattle.register.specs.Limits.{max_choices, max_tank, long_day}
use Rattle.register.specs.Format.{register_by_itself}
use Rattle.register.specs.Answer.{register_answer}
use Rattle.search.specs.declared.SearchAnswer.{SearchAnswer}
use Rattle.search.specs.Answer.{search_answer}
use Rattle.listing.specs.Listing.{fed_line, fed_lines, refusal_line}
use Rattle.listing.specs.Answer.{longest_number, listing_room}

-- S: cost, visits
abbrev pub search_line : ℤ → ℕ → List ℕ
search_line cost visits = line 0x53 (cost ∷ pos visits ∷ [])

-- of what the search call answers: the plan's `F` lines, with the register's tanks and minutes, and the `S` line, or an `R` line
unfoldable pub search_lines : Register → SearchAnswer → List ℕ
search_lines r answer =
    cond (eqb answer.number 0)
    (fed_lines r answer.plan ++ search_line answer.cost answer.visits)
    (refusal_line answer.number answer.position)

-- of the bytes of part 1 and the limit: what the search call answers, and the register that the register call answers
unfoldable pub cheapest_lines : List ℕ → ℕ → List ℕ
cheapest_lines register limit = search_lines (register_answer (register_by_itself register)).register (search_answer register limit)

-- no such lines have more bytes: an `F` line of the highest numbers for each choice, and an `S` line of −2^63, the longest number
-- of 64 bits, and of the highest number of 32 bits
unfoldable pub longest_search : ℕ
longest_search = max_choices * length (fed_line max_tank (long_day - 1)) + length (search_line longest_number (2 ^ 32 - 1))

-- so the room of a listing is enough (`longest_fits` in proofs/Lengths)
abbrev pub cheapest_room : ℕ
cheapest_room = listing_room
