-- R-3, the cheapest plan: what a farm is promised of it, as a predicate of any search call, any cost call and any check. The rule is
-- `search` in `search/specs`. A register that is right is answered what the rule comes to (`Acceptance`), or 14 or 16 (`Refusals`).
-- The register is the one that our reader answers, as in `Demand3`. Of a term with a range the search takes the low coefficient, and the
-- cost call and the check those that a plan chooses: that the cost found is what the cost call answers, and at least the bound of every
-- certificate, is said of registers without a range (`costed_known`, `bounds`). Of others `RangesKept.costed` has that the bound is at most
-- what the cost call answers.
use Rattle.std.specs.Prelude.{ℕ, suc, ◌^◌, ◌≤◌, ◌<◌, ◌≡◌, ◌↔◌, false, List, T, ℤ, pos, ◌≤ℤ◌}
use Rattle.sets.specs.Sets.{is_member}
use Rattle.wire.specs.Number.{Bytes}
use Rattle.register.specs.declared.Register.{Register}
use Rattle.register.specs.Register.{coefficient, has_range}
use Rattle.plan.specs.Plan as P
use Rattle.plan.specs.Fits.{Fits}
use Rattle.plan.specs.Chosen.{chosen}
use Rattle.plan.specs.Encoding.{Encodes}
use Rattle.search.specs.declared.SearchAnswer.{SearchAnswer}
use Rattle.search.specs.Sum.{possible, negative, term_sum, sum}
use Rattle.search.specs.Answer.{search}
use Rattle.soundness.specs.Calls.{CostCall, CheckCall, SearchCall}
use Rattle.soundness.specs.Parts.{Part1, NoneFit}
use Rattle.soundness.specs.Acceptance.{cost_accepted}
use Rattle.soundness.specs.Demand3.{register_of, Plan, cost, FitsPlan}
use Rattle.soundness.specs.Windows.{KeepsWindows}
use Rattle.soundness.specs.DayLengths.{FeedsOfDay}

-- how many partial plans the rule visits
abbrev pub visits_of : Register → ℕ
visits_of reg = (search (coefficient reg) reg).visits

-- 14: part and position are 0, and so is all else
abbrev pub limit_passed : SearchAnswer
limit_passed = record { number = 14; part = 0; position = 0; plan = 0; cost = pos 0; visits = 0 }

-- 16: the same
abbrev pub none_fits : SearchAnswer
none_fits = record { number = 16; part = 0; position = 0; plan = 0; cost = pos 0; visits = 0 }

-- ---- the answer

-- what an answer says that is no refusal
pub record Cheapest (cost_call : CostCall) (register : List ℕ) (limit : ℕ) (a : SearchAnswer) : Type 0 where
  pub part_1 : Bytes register → Part1 register (register_of register)
  -- the plan is one of the register's and fits its rows, and the cost is its cost, with the low coefficients
  pub plan : Plan register
  pub plan_is : plan.fed ≡ a.plan
  pub fits : Fits (register_of register) a.plan
  pub cost_is : cost register plan ≡ a.cost
  -- no plan of the register that fits costs less, and one that fits and costs as much has no smaller number
  pub least : (other : Plan register) → FitsPlan register other → a.cost ≤ℤ cost register other
  pub smallest : (other : Plan register) → FitsPlan register other → cost register other ≡ a.cost → a.plan ≤ other.fed
  -- it feeds inside the windows of each tank, and only in minutes of the day
  pub keeps : KeepsWindows (register_of register) a.plan
  pub of_day : FeedsOfDay (register_of register) a.plan
  -- the cost call takes the plan's bytes, and answers its cost with the coefficients that it chooses, which is this one where no term has a
  -- range; for no bytes that it accepts it answers less
  pub costed : (bytes : List ℕ) → Encodes (register_of register) a.plan bytes → cost_call register bytes ≡ cost_accepted (P.cost (chosen (register_of register) a.plan) (register_of register) a.plan)
  pub costed_known : has_range (register_of register) ≡ false → (bytes : List ℕ) → Encodes (register_of register) a.plan bytes → cost_call register bytes ≡ cost_accepted a.cost
  pub costed_least : (bytes : List ℕ) → (cost_call register bytes).number ≡ 0 → a.cost ≤ℤ (cost_call register bytes).cost
  -- the visits are those of the rule: at least one, at most 2 to the power (n + 1), less 1, and no more than the limit
  pub visits_are : a.visits ≡ visits_of (register_of register)
  pub visits_some : 1 ≤ a.visits
  pub visits_few : suc a.visits ≤ 2 ^ suc (register_of register).choices
  pub visits_within : a.visits ≤ limit

-- of a register without rows: the same over every plan, as it stood before there were rows
pub record CheapestEvery (cost_call : CostCall) (register : List ℕ) (limit : ℕ) (a : SearchAnswer) : Type 0 where
  pub cheapest : Cheapest cost_call register limit a
  pub least : (other : Plan register) → a.cost ≤ℤ cost register other
  pub smallest : (other : Plan register) → cost register other ≡ a.cost → a.plan ≤ other.fed

pub record SearchSound (search_call : SearchCall) (cost_call : CostCall) (check_call : CheckCall) : Type 0 where
  pub cheapest : (register : List ℕ) (limit : ℕ) → (search_call register limit).number ≡ 0 → Cheapest cost_call register limit (search_call register limit)
  -- 14 just where the visits of the rule are more than the limit; as many as the limit are accepted
  pub past_limit : (register : List ℕ) (reg : Register) (limit : ℕ) → Part1 register reg → (search_call register limit ≡ limit_passed) ↔ (limit < visits_of reg)
  -- the empty partial plan is always visited: the limit 0 is always passed
  pub limit_0 : (register : List ℕ) (reg : Register) → Part1 register reg → search_call register 0 ≡ limit_passed
  -- a limit of 2 to the power (n + 1), less 1, is never passed: with up to 31 choices some limit of 32 bits is enough, where some
  -- plan fits
  pub enough : (register : List ℕ) (reg : Register) (limit : ℕ) → Part1 register reg → (some : P.Plan reg.choices) → Fits reg some.fed →
      2 ^ suc reg.choices ≤ suc limit → (search_call register limit).number ≡ 0
  -- 16 just where no plan fits and the visits of the rule are within the limit
  pub none : (register : List ℕ) (reg : Register) (limit : ℕ) → Part1 register reg → (search_call register limit ≡ none_fits) ↔ (NoneFit reg × (visits_of reg ≤ limit))
  -- where no plan fits, nothing is ever left: the visits are the most that there can be
  pub none_visits : (reg : Register) → NoneFit reg → suc (visits_of reg) ≡ 2 ^ suc reg.choices
  -- so with 32 choices or more, and no plan that fits, they pass every limit of 32 bits: 16 is not answered then
  pub none_32 : (register : List ℕ) (reg : Register) (limit : ℕ) → Part1 register reg → 32 ≤ reg.choices → NoneFit reg → limit < 2 ^ 32 → search_call register limit ≡ limit_passed
  -- without rows every plan counts, and a limit of 2 to the power (n + 1), less 1, is enough for every register, as before there were rows.
  -- With 32 choices or more no limit of 32 bits is that high, so none is sure to be enough
  pub cheapest_every : (register : List ℕ) (limit : ℕ) → (register_of register).rows ≡ 0 → (search_call register limit).number ≡ 0 →
      CheapestEvery cost_call register limit (search_call register limit)
  pub enough_every : (register : List ℕ) (reg : Register) (limit : ℕ) → Part1 register reg → reg.rows ≡ 0 → 2 ^ suc reg.choices ≤ suc limit → (search_call register limit).number ≡ 0
  -- no certificate that the check accepts with a register without a range has a bound above the cost found
  pub bounds : (register scheme certificate plan : List ℕ) (table : List ℤ) (limit : ℕ) → has_range (register_of register) ≡ false →
      (check_call register scheme certificate plan table).0.number ≡ 0 → (search_call register limit).number ≡ 0 →
      (check_call register scheme certificate plan table).0.bound ≤ℤ (search_call register limit).cost

-- ---- the sum at a partial plan, of no call in particular: the choices below d are undecided, the others are decided, fed where they
-- are in `fed`, which has none below d

-- what a term with coefficient c and mask m adds, by the choices that it names
pub record TermSaid (d fed : ℕ) (c : ℤ) (m : ℕ) : Type 0 where
  -- all of them decided fed
  pub wholly_fed : ((i : ℕ) → T (is_member i m) → T (is_member i fed)) → term_sum c m fed (possible d fed) ≡ c
  -- one undecided, and none decided unfed
  pub undecided : (i : ℕ) → i < d → T (is_member i m) → ((j : ℕ) → d ≤ j → T (is_member j m) → T (is_member j fed)) → term_sum c m fed (possible d fed) ≡ negative c
  -- one decided unfed
  pub unfed : (i : ℕ) → d ≤ i → T (is_member i m) → (T (is_member i fed) → ⊥) → term_sum c m fed (possible d fed) ≡ pos 0

-- a plan under the partial plan: it decides the others alike
pub record Under (d fed plan : ℕ) : Type 0 where
  pub undecided : (i : ℕ) → i < d → is_member i fed ≡ false
  pub decided : (i : ℕ) → d ≤ i → is_member i plan ≡ is_member i fed

-- with any coefficients no plan under a partial plan costs less than the sum there, and at a full plan the sum is the cost: where the
-- sum is at least the best cost so far, nothing under it is cheaper
pub record SumSound : Type 0 where
  pub said : (d fed : ℕ) → ((i : ℕ) → i < d → is_member i fed ≡ false) → (c : ℤ) (m : ℕ) → TermSaid d fed c m
  pub under : (c : ℕ → ℤ) (r : Register) (d fed plan : ℕ) → Under d fed plan → sum c r d fed ≤ℤ P.cost c r plan
  pub full : (c : ℕ → ℤ) (r : Register) (plan : ℕ) → sum c r 0 plan ≡ P.cost c r plan
