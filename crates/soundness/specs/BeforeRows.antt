-- The cost and the search before registers had rows. The cost: no 15. The search: a walk without a test of full plans, and no 16; what a
-- walk has come to (`Best`), the sum at a partial plan and the test for leaving are those of today. So are the forms of the answers, and what
-- came later, `15`, `41` and more than 32 choices. For a register without rows both are still so.
use Rattle.std.specs.Prelude.{ℕ, zero, suc, ◌+◌, ◌^◌, ◌≤◌, ◌≡◌, cond, List, ltb, ℤ}
use Rattle.wire.specs.Number.{Bytes}
use Rattle.wire.specs.Outcome.{Outcome, refuses, accepts, given, and_then, answer_by}
use Rattle.register.specs.declared.Register.{Register}
use Rattle.register.specs.Register.{coefficient}
use Rattle.register.specs.Encoding.{SaysRow, SaysRange}
use Rattle.register.specs.BeforeRows.{by_itself_before_rows}
use Rattle.plan.specs.declared.CostAnswer.{CostAnswer}
use Rattle.plan.specs.Plan.{cost}
use Rattle.plan.specs.Answer.{refused_cost, accepted_cost}
use Rattle.plan.specs.BeforeRows.{plan_by_itself_before_rows}
use Rattle.search.specs.declared.SearchAnswer.{SearchAnswer}
use Rattle.search.specs.Sum.{sum}
use Rattle.search.specs.Walk.{Best, start, visited, better, is_left}
use Rattle.search.specs.Answer.{search, refused_search, accepted_search}
use Rattle.soundness.specs.Calls.{CostCall, SearchCall}
use Rattle.soundness.specs.Parts.{Part1}
use Rattle.soundness.specs.Acceptance.{search_accepted}
use Rattle.soundness.specs.Demand3.{register_of}

-- ---- the rule

-- from the partial plan with d choices undecided and `fed` fed, by the sum at each. It is visited; where it is not left, a full plan
-- becomes the best, and of another choice d − 1 is decided, unfed and then fed
unfoldable pub walk_before_rows : (ℕ → ℕ → ℤ) → (d fed : ℕ) → Best → Best
walk_before_rows sum zero fed w = cond (is_left (sum 0 fed) w) (visited w) (better fed (sum 0 fed) (visited w))
walk_before_rows sum (suc d) fed w = cond (is_left (sum (suc d) fed) w) (visited w) (walk_before_rows sum d (fed + 2 ^ d) (walk_before_rows sum d fed (visited w)))

-- the walk from the empty partial plan on, all choices undecided; c t is the coefficient of term t
unfoldable pub search_before_rows : (ℕ → ℤ) → Register → Best
search_before_rows c r = walk_before_rows (sum c r) r.choices 0 start

-- ---- the answer

-- 14 where the visits are more than the limit. No command causes it: part and position are 0
abbrev pub within_limit_before_rows : ℕ → Best → Outcome Best
within_limit_before_rows limit w = cond (ltb limit w.visits) (refuses 14 0 0) (accepts w)

-- of the bytes of part 1, read as before there were rows, and the limit: first what refuses the register
abbrev pub search_outcome_before_rows : List ℕ → ℕ → Outcome Best
search_outcome_before_rows register limit =
    and_then (given 1 (by_itself_before_rows register)) λ reg. within_limit_before_rows limit (search_before_rows (coefficient reg) reg)

unfoldable pub search_answer_before_rows : List ℕ → ℕ → SearchAnswer
search_answer_before_rows register limit = answer_by refused_search accepted_search (search_outcome_before_rows register limit)

-- part 1, and a limit that the visits of the rule do not pass: the plan that the rule comes to, its cost and the visits
pub record OfSearchBeforeRows (register : List ℕ) (limit plan : ℕ) (z : ℤ) (visits : ℕ) : Type 0 where
  pub reg : Register
  pub part_1 : Part1 register reg
  pub plan_is : plan ≡ (search_before_rows (coefficient reg) reg).plan
  pub cost_is : z ≡ (search_before_rows (coefficient reg) reg).cost
  pub visits_are : visits ≡ (search_before_rows (coefficient reg) reg).visits
  pub within : visits ≤ limit

-- ---- the cost

-- of the bytes of part 1 and those of part 4, each read as before there were rows: first what refuses the register, then what refuses the
-- plan
abbrev pub cost_outcome_before_rows : List ℕ → List ℕ → Outcome ℤ
cost_outcome_before_rows register plan =
    and_then (given 1 (by_itself_before_rows register)) λ reg. and_then (given 4 (plan_by_itself_before_rows reg plan)) λ p. accepts (cost (coefficient reg) reg p)

unfoldable pub cost_answer_before_rows : List ℕ → List ℕ → CostAnswer
cost_answer_before_rows register plan = answer_by refused_cost accepted_cost (cost_outcome_before_rows register plan)

-- ---- the promises

pub record CostAsBeforeRows (cost_call : CostCall) : Type 0 where
  -- bytes that say no row, and no range, which came later, are answered as they were, with every plan: refused as part 1 is or as part 4
  -- is, or given the cost; but for `15`, `41` and more than 32 choices, which came later too and are read as today
  pub answers : (register plan : List ℕ) → (SaysRow register → ⊥) → (SaysRange register → ⊥) → cost_call register plan ≡ cost_answer_before_rows register plan
  -- where the register has no row, 15 is never answered
  pub never_15 : (register plan : List ℕ) → Bytes register → Bytes plan → (register_of register).rows ≡ 0 → (cost_call register plan).number ≡ 15 → ⊥

pub record SearchAsBeforeRows (search_call : SearchCall) : Type 0 where
  -- without rows the rule comes to what it did, in plan, cost, visits, and in whether a full plan has been met
  pub rule : (c : ℕ → ℤ) (reg : Register) → reg.rows ≡ 0 → search c reg ≡ search_before_rows c reg
  -- bytes that say no row, and no range, are answered as they were, with every limit: refused as part 1 is, or 14, or given the plan; but
  -- for `15` and more than 32 choices
  pub answers : (register : List ℕ) (limit : ℕ) → (SaysRow register → ⊥) → (SaysRange register → ⊥) → search_call register limit ≡ search_answer_before_rows register limit
  -- where the register has no row, 16 is never answered
  pub never_16 : (register : List ℕ) (limit : ℕ) → Bytes register → (register_of register).rows ≡ 0 → (search_call register limit).number ≡ 16 → ⊥
  -- a register without rows is accepted as it was: all such bytes and limits, and only such
  pub all : (register : List ℕ) (limit plan : ℕ) (z : ℤ) (visits : ℕ) → (p : OfSearchBeforeRows register limit plan z visits) → p.reg.rows ≡ 0 →
      search_call register limit ≡ search_accepted plan z visits
  pub only : (register : List ℕ) (limit plan : ℕ) (z : ℤ) (visits : ℕ) → Bytes register → (register_of register).rows ≡ 0 →
      search_call register limit ≡ search_accepted plan z visits → OfSearchBeforeRows register limit plan z visits
