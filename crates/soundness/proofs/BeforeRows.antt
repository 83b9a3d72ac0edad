-- Without rows the cost and the search are what they were before there were any, of our calls.
use Prim.Native.Nat.{ℕ, zero, suc, ◌+◌, ◌^◌}
use native.Mathlib.Omega.{arith}
use mathlib.Core.Path.{◌≡◌, refl, sym, ◌∙◌, ap}
use mathlib.Core.Logic.{◌⊎◌, inl, inr}
use mathlib.Core.Bool.{Bool, true, cond, not, ◌||◌, or-false}
use mathlib.Core.List.{List}
use lib.IntN.{ℤ}
use lib.Pow.{pow_pos}
use Rattle.wire.specs.Number.{Bytes}
use Rattle.wire.specs.Part.{Reading, refused, accepted}
use Rattle.wire.specs.Rows.{Progress}
use Rattle.wire.specs.Outcome.{accepts, given, and_then, answer_by}
use Rattle.wire.specs.Refused.{RefusedByItself}
use Rattle.register.specs.declared.Register.{Register}
use Rattle.register.specs.Register.{fresh, coefficient}
use Rattle.register.specs.Format.{register_rows, register_part, register_by_itself}
use Rattle.register.specs.Encoding.{SaysRow, SaysRange}
use Rattle.register.specs.Answer.{register_answer}
use Rattle.register.specs.BeforeRows.{by_itself_before_rows}
use Rattle.register.proofs.Accept.{encoding_accepted}
use Rattle.register.proofs.SaysRow.{no_rows}
use Rattle.register.proofs.BeforeRows.{as_before_rows}
use Rattle.register.proofs.BeforeRanges.{as_before_ranges}
use Rattle.plan.specs.Fits.{fits}
use Rattle.plan.specs.Plan.{cost}
use Rattle.plan.specs.Format.{plan_by_itself}
use Rattle.plan.specs.BeforeRows.{plan_by_itself_before_rows}
use Rattle.plan.specs.Answer.{refused_cost, accepted_cost, cost_answer}
use Rattle.plan.proofs.Fits.{register_fits, every_fits}
use Rattle.plan.proofs.BeforeRows.{plan_as_before_rows}
use Rattle.search.specs.declared.SearchAnswer.{SearchAnswer}
use Rattle.search.specs.Sum.{sum}
use Rattle.search.specs.Walk.{Best, start, visited, better, is_left, walk}
use Rattle.search.specs.Answer.{search, within_limit, refused_search, accepted_search, search_answer}
use Rattle.search.proofs.Cheapest.{found_met}
use Rattle.soundness.specs.Calls.{cost_call, search_call}
use Rattle.soundness.specs.Parts.{Part1}
use Rattle.soundness.specs.Acceptance.{OfSearch}
use Rattle.soundness.specs.Demand3.{register_of}
use Rattle.soundness.specs.Refusals.{InRegister, PastLimit, NoneFits}
use Rattle.soundness.specs.BeforeRows.{walk_before_rows, search_before_rows, within_limit_before_rows, search_answer_before_rows, OfSearchBeforeRows, SearchAsBeforeRows, cost_answer_before_rows, CostAsBeforeRows}
use Rattle.soundness.proofs.BeforeRanges.{cost_before}
use Rattle.soundness.proofs.Acceptance.{acceptance}
use Rattle.soundness.proofs.Refusals.{search_refusals}
use Rattle.soundness.proofs.Misfit.{never, register_never, only_misfit}

-- ---- the rule

-- where every full plan passes the test, the walk is the one without it
module _ (sum : ℕ → ℕ → ℤ) (fits : ℕ → Bool) (all : (plan : ℕ) → fits plan ≡ true) where
  walk_same : (d fed : ℕ) (w : Best) → walk sum fits d fed w ≡ walk_before_rows sum d fed w
  unfolding walk walk_before_rows
  walk_same zero fed w =
      let left : Bool = is_left (sum 0 fed) w in
      ap (λ b. cond b (visited w) (better fed (sum 0 fed) (visited w))) (ap (λ f. left || not f) (all fed) ∙ or-false left)
  walk_same (suc d) fed w =
      ap (cond (is_left (sum (suc d) fed) w) (visited w)) (ap (walk sum fits d (fed + 2 ^ d)) (walk_same d fed (visited w)) ∙ walk_same d (fed + 2 ^ d) _)

-- where a full plan is met, 16 does not come
held : (limit : ℕ) (w : Best) → w.met ≡ true → within_limit limit w ≡ within_limit_before_rows limit w
held limit w m = rw m

module _ (r : Register) (none : r.rows ≡ 0) where
  passes : (plan : ℕ) → fits r plan ≡ true
  passes plan = (register_fits r plan).1 (every_fits r none plan)

  rule : (c : ℕ → ℤ) → search c r ≡ search_before_rows c r
  unfolding search search_before_rows
  rule c = walk_same (sum c r) (fits r) passes r.choices 0 start

  -- a full plan is met
  met : (search (coefficient r) r).met ≡ true
  met = found_met (coefficient r) r 0 (pow_pos r.choices) (passes 0)

  limited : (limit : ℕ) → within_limit limit (search (coefficient r) r) ≡ within_limit_before_rows limit (search_before_rows (coefficient r) r)
  limited limit = held limit (search (coefficient r) r) met ∙ ap (within_limit_before_rows limit) (rule (coefficient r))

-- ---- the answer

module _ (t : List ℕ) (limit : ℕ) (none : SaysRow t → ⊥) where
  -- of what reading leads to
  of_reading : (x : Reading (Progress Register)) → register_by_itself t ≡ x →
      answer_by refused_search accepted_search (and_then (given 1 x) λ reg. within_limit limit (search (coefficient reg) reg))
      ≡ answer_by refused_search accepted_search (and_then (given 1 x) λ reg. within_limit_before_rows limit (search_before_rows (coefficient reg) reg))
  unfolding fresh
  of_reading (refused n at) e = refl
  of_reading (accepted p end) e = ap (answer_by refused_search accepted_search) (limited p.parsed (ap (λ w. w.0) (no_rows t none e)) limit)

  answers : (SaysRange t → ⊥) → search_answer t limit ≡ search_answer_before_rows t limit
  unfolding search_answer search_answer_before_rows
  answers no_range = let e = as_before_rows t none no_range in rw e (of_reading (by_itself_before_rows t) e)

-- the register that is right is the one answered
right_is : (t : List ℕ) (r : Register) → Part1 t r → register_of t ≡ r
right_is t r p = ap (λ x. (register_answer x).register) (encoding_accepted t r p.conditions p.bytes)

never_16 : (t : List ℕ) (limit : ℕ) → Bytes t → (register_of t).rows ≡ 0 → (search_call t limit).number ≡ 16 → ⊥
never_16 t limit b none e = go (search_refusals t b limit (λ z. omega arith)).3
  where
    a : SearchAnswer
    a = search_call t limit

    in_register : RefusedByItself register_part t a.number a.position → ⊥
    in_register (inl r) = never a.number _ register_rows (register_never a.number (omega arith)) (omega arith) t a.position r
    in_register (inr (z, _)) = omega arith

    go : InRegister a.number a.part a.position t ⊎ (PastLimit a.number a.part a.position t limit ⊎ NoneFits a.number a.part a.position t limit) → ⊥
    go (inl f) = in_register f.refused
    go (inr (inl f)) = omega (arith, f.number_is)
    go (inr (inr f)) =
        let r = f.before.reg in
        f.none 0 (pow_pos r.choices) (every_fits r (rw (right_is t r f.before.part_1) at none) 0)

-- ---- acceptance

module _ (t : List ℕ) (limit plan : ℕ) (z : ℤ) (visits : ℕ) where
  -- of a register without rows, what is accepted is said alike
  to_today : (p : OfSearchBeforeRows t limit plan z visits) → p.reg.rows ≡ 0 → OfSearch t limit plan z visits
  to_today p none =
      let e = sym (rule p.reg none (coefficient p.reg)) in
      record {
        reg = p.reg;
        part_1 = p.part_1;
        plan_is = p.plan_is ∙ ap (λ w. w.plan) e;
        fits = every_fits p.reg none plan;
        cost_is = p.cost_is ∙ ap (λ w. w.cost) e;
        visits_are = p.visits_are ∙ ap (λ w. w.visits) e;
        within = p.within;
      }

  from_today : (p : OfSearch t limit plan z visits) → p.reg.rows ≡ 0 → OfSearchBeforeRows t limit plan z visits
  from_today p none =
      let e = rule p.reg none (coefficient p.reg) in
      record {
        reg = p.reg;
        part_1 = p.part_1;
        plan_is = p.plan_is ∙ ap (λ w. w.plan) e;
        cost_is = p.cost_is ∙ ap (λ w. w.cost) e;
        visits_are = p.visits_are ∙ ap (λ w. w.visits) e;
        within = p.within;
      }

pub search_as_before_rows : SearchAsBeforeRows search_call
search_as_before_rows = record {
  rule = λ c r none. rule r none c;
  answers = answers;
  never_16 = never_16;
  all = λ t limit plan z visits p none. acceptance.of_search.all t limit plan z visits (to_today t limit plan z visits p none);
  only = λ t limit plan z visits b none e.
      let p = acceptance.of_search.only t limit plan z visits b e in
      from_today t limit plan z visits p (rw (right_is t p.reg p.part_1) at none);
}

-- ---- the cost

module _ (t plan : List ℕ) (none : SaysRow t → ⊥) where
  cost_of_reading : (x : Reading (Progress Register)) → register_by_itself t ≡ x →
      answer_by refused_cost accepted_cost (and_then (given 1 x) λ reg. and_then (given 4 (plan_by_itself reg plan)) λ p. accepts (cost (coefficient reg) reg p))
      ≡ answer_by refused_cost accepted_cost (and_then (given 1 x) λ reg. and_then (given 4 (plan_by_itself_before_rows reg plan)) λ p. accepts (cost (coefficient reg) reg p))
  unfolding fresh
  cost_of_reading (refused n at) e = refl
  cost_of_reading (accepted p end) e =
      ap (λ x. answer_by refused_cost accepted_cost (and_then (given 4 x) λ q. accepts (cost (coefficient p.parsed) p.parsed q)))
      (plan_as_before_rows p.parsed (ap (λ w. w.0) (no_rows t none e)) plan)

  -- without ranges too, each plan having the register's own coefficients
  cost_answers : (SaysRange t → ⊥) → cost_answer t plan ≡ cost_answer_before_rows t plan
  unfolding cost_answer_before_rows
  cost_answers no_range =
      let e = as_before_rows t none no_range in
      cost_before t plan no_range ∙ rw (← as_before_ranges t no_range, e) (cost_of_reading (by_itself_before_rows t) e)

never_15 : (t plan : List ℕ) → Bytes t → Bytes plan → (register_of t).rows ≡ 0 → (cost_call t plan).number ≡ 15 → ⊥
never_15 t plan b b' none e =
    let m = only_misfit t plan b b' e in
    m.misfit (every_fits m.reg (rw (right_is t m.reg m.part_1) at none) m.fed)

pub cost_as_before_rows : CostAsBeforeRows cost_call
cost_as_before_rows = record { answers = cost_answers; never_15 = never_15 }
