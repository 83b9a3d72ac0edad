-- The text has room for the lines of every answer.
use Prim.Native.Nat.{ℕ, ◌≤◌, ◌<◌, ◌^◌}
use native.Mathlib.Decide.{ℕ_discrete}
use native.Mathlib.Omega.{arith}
use mathlib.Core.Path.{◌≡◌, ◌∙◌, ap}
use mathlib.Core.List.{List, ◌++◌}
use lib.ListN.{length, drop}
use mir.Syntax.{w8, w32, w64}
use mir.Val.{Fits, SFits}
use borrow.Author.Rules.{rules}
use Rattle.register.specs.declared.RegisterAnswer.{RegisterAnswer}
use Rattle.register.specs.Format.{register_by_itself}
use Rattle.register.specs.Answer.{register_answer}
use Rattle.register.specs.Valid.{Within}
use Rattle.register.proofs.Entries.{fresh_within}
use Rattle.register.proofs.Opened.{opened_refused, opened}
use Rattle.search.specs.declared.SearchAnswer.{SearchAnswer}
use Rattle.search.specs.Answer.{search_answer}
use Rattle.console.specs.Cheapest.{search_lines, cheapest_lines, cheapest_room}
use Rattle.console.proofs.Lengths.{lines_short, longest_fits}
use Rattle.console.proofs.Prefix.{answer_position, reach_is}
use Rattle.console.proofs.cheapest_lines.Goals as goal

-- the register that is answered is within the limits, also where it is refused
within : (s : List ℕ) (first : RegisterAnswer) → first ≡ register_answer (register_by_itself s) → Within first.register
within s first e = by (ℕ_discrete first.number 0)
  where
    by : Dec (first.number ≡ 0) → Within first.register
    by (yes h) = (opened s first e h).valid.within
    by (no h) = rw (e, opened_refused s first e h) fresh_within

-- the lines are those of the two answers
lines : (s : List ℕ) (limit : ℕ) (first : RegisterAnswer) (answer : SearchAnswer) → first ≡ register_answer (register_by_itself s) → answer ≡ search_answer s limit →
    search_lines first.register answer ≡ cheapest_lines s limit
unfolding cheapest_lines
lines s limit first answer e d = rw (e, d)

-- a refusal's position
near : (s : List ℕ) (limit : ℕ) (answer : SearchAnswer) → answer ≡ search_answer s limit → answer.position < 2 ^ 32
near s limit answer d = omega (arith, ap (λ (a : SearchAnswer). a.position) d, answer_position s limit, reach_is)

-- the text has room
room : (s : List ℕ) (limit : ℕ) (first : RegisterAnswer) (answer : SearchAnswer) → first ≡ register_answer (register_by_itself s) → answer ≡ search_answer s limit →
    Fits w8 answer.number → SFits w64 answer.cost → Fits w32 answer.visits → length (search_lines first.register answer) ≤ cheapest_room
room s limit first answer e d n cost v =
    omega (arith, longest_fits, lines_short first.register answer (within s first e) (omega arith) (near s limit answer d) cost (omega arith))

pub put_search-requires-clause-choices_le_max_choices : goal.put_search-requires-clause-choices_le_max_choices
put_search-requires-clause-choices_le_max_choices c = let f = c.feedcheck_register-read in (within _ f.result f.ensures).choices.few

pub put_search-requires-clause-position_bound : goal.put_search-requires-clause-position_bound
put_search-requires-clause-position_bound c = let a = c.feedcheck_search-answer in omega (arith, near _ _ a.result a.ensures)

pub put_search-requires-clause-room : goal.put_search-requires-clause-room
put_search-requires-clause-room c =
    let f = c.feedcheck_register-read in
    let a = c.feedcheck_search-answer in
    let number : Fits w8 a.result.number = search rules in
    let cost : SFits w64 a.result.cost = search rules in
    let visits : Fits w32 a.result.visits = search rules in
    omega (arith, ap length c.empty-listing.ensures, room _ _ f.result a.result f.ensures a.ensures number cost visits)

pub write_to-requires : goal.write_to-requires
write_to-requires c =
    let f = c.feedcheck_register-read in
    let a = c.feedcheck_search-answer in
    let number : Fits w8 a.result.number = search rules in
    let cost : SFits w64 a.result.cost = search rules in
    let visits : Fits w32 a.result.visits = search rules in
    let empty : c.put_search.new.listing ≡ search_lines f.result.register a.result = c.put_search.ensures ∙ rw c.empty-listing.ensures in
    omega (arith, ap length empty, room _ _ f.result a.result f.ensures a.ensures number cost visits)

pub returns : goal.returns
returns c =
    let f = c.feedcheck_register-read in
    let a = c.feedcheck_search-answer in
    let w = c.write_to.ensures in
    let all : c.put_search.new.listing ≡ cheapest_lines c.args.register.now c.args.limit =
    c.put_search.ensures ∙ rw c.empty-listing.ensures (lines _ _ f.result a.result f.ensures a.ensures) in
    record { value = w.value ∙ ap length all; text_after = w.buffer_after ∙ ap (λ l. l ++ drop c.write_to.result c.args.text.now) all; within = w.within }
