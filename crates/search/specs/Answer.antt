-- What the search call answers.
use Rattle.std.specs.Prelude.{ℕ, cond, List, ltb, ℤ, pos, Result, Ok, Err}
use Rattle.wire.specs.declared.refusals.Refusal.{Refusal}
use Rattle.wire.specs.Outcome.{Outcome, refuses, accepts, and_then, answer_by}
use Rattle.wire.specs.Results.{number_of}
use Rattle.register.specs.declared.Register.{Register}
use Rattle.register.specs.Register.{coefficient}
use Rattle.register.specs.Opening.{open_register}
use Rattle.search.specs.declared.Found.{Found}
use Rattle.search.specs.declared.SearchAnswer.{SearchAnswer}
use Rattle.plan.specs.Fits.{fits}
use Rattle.search.specs.Sum.{sum}
use Rattle.search.specs.Walk.{Best, start, walk}

-- the walk from the empty partial plan on, all choices undecided; c t is the coefficient of term t
unfoldable pub search : (ℕ → ℤ) → Register → Best
search c r = walk (sum c r) (fits r) r.choices 0 start

-- 14 where the visits are more than the limit, and then 16 where no plan fits. No command causes them: part and position are 0
abbrev pub within_limit : ℕ → Best → Outcome Best
within_limit limit w = cond (ltb limit w.visits) (refuses 14 0 0) (cond w.met (accepts w) (refuses 16 0 0))

-- of the bytes of part 1, a run by itself, and the limit: first what refuses the register
abbrev pub search_outcome : List ℕ → ℕ → Outcome Best
search_outcome register limit = and_then (open_register register) λ reg. within_limit limit (search (coefficient reg) reg)

-- number, part and position of a refusal, other fields 0; or zeros, the plan, its cost and the visits

abbrev pub refused_search : ℕ → ℕ → ℕ → SearchAnswer
refused_search number part at = record { number = number; part = part; position = at; plan = 0; cost = pos 0; visits = 0 }

abbrev pub accepted_search : Best → SearchAnswer
accepted_search w = record { number = 0; part = 0; position = 0; plan = w.plan; cost = w.cost; visits = w.visits }

unfoldable pub search_answer : List ℕ → ℕ → SearchAnswer
search_answer register limit = answer_by refused_search accepted_search (search_outcome register limit)

-- what is answered of a search, as the code has it: no command causes its refusals

abbrev pub found_search : Found → SearchAnswer
found_search found = record { number = 0; part = 0; position = 0; plan = found.plan; cost = found.cost; visits = found.visits }

abbrev pub told_search : Result Found Refusal → SearchAnswer
told_search (Ok found) = found_search found
told_search (Err refusal) = refused_search (number_of refusal) 0 0
