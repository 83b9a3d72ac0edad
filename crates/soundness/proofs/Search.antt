-- The cheapest plan, of our calls.
use Prim.Native.Nat.{ℕ, suc, ◌^◌, ◌≤◌, ◌<◌}
use native.Mathlib.Omega.{arith}
use mathlib.Core.Path.{◌≡◌, refl, sym, ◌∙◌, ap, subst}
use mathlib.Core.Logic.{◌↔◌}
use mathlib.Core.Bool.{false, true≢false}
use mathlib.Core.List.{List}
use lib.IntN.{ℤ}
use lib.Pow.{pow_pos, pow_mono}
use lib.ListN.{length}
use lib.Signed.{◌≤ℤ◌, ≤ℤ_refl}
use Rattle.integers.proofs.Lists.{flag}
use Rattle.integers.proofs.Order.{≤ℤ_trans}
use Rattle.wire.specs.Part.{accepted}
use Rattle.wire.proofs.Accepting.{reached}
use Rattle.register.specs.declared.Register.{Register}
use Rattle.register.specs.Register.{coefficient, has_range}
use Rattle.register.specs.Format.{register_by_itself}
use Rattle.register.specs.Answer.{register_answer}
use Rattle.register.specs.Valid as R
use Rattle.register.proofs.Accept.{encoding_accepted, accepted_iff}
use Rattle.register.proofs.Opened.{Opened}
use Rattle.register.proofs.Ranged.{low_high}
use Rattle.plan.specs.Plan as P
use Rattle.plan.specs.Fits.{Fits, fits}
use Rattle.plan.specs.Chosen.{chosen}
use Rattle.plan.specs.Valid.{Valid}
use Rattle.plan.specs.Encoding.{Encodes}
use Rattle.plan.specs.Answer.{accepted_cost, cost_answer}
use Rattle.plan.proofs.Accept.{whole_accepted}
use Rattle.plan.proofs.Coefficients.{chosen_known}
use Rattle.plan.proofs.Ranges.{cost_same, cost_most}
use Rattle.plan.proofs.Answers.{costed, costed_valid}
use Rattle.plan.proofs.Fits.{register_fits, every_fits}
use Rattle.bound.specs.Bound.{bound}
use Rattle.bound.specs.Check.{check_answer}
use Rattle.bound.proofs.Accept.{whole_valid}
use Rattle.bound.proofs.Answers.{checked}
use Rattle.bound.proofs.Bound.{plan_bound}
use Rattle.search.specs.Walk.{Best}
use Rattle.search.specs.Answer.{search, search_answer}
use Rattle.search.proofs.Bound.{sum_full}
use Rattle.search.proofs.Under.{under_sum}
use Rattle.search.proofs.Members.{term_fed, term_undecided, term_unfed}
use Rattle.search.proofs.Least.{Least, NoneFits}
use Rattle.search.proofs.Cheapest.{found_least, found_met, found_none, none_visits, found_visits}
use Rattle.search.proofs.Searched.{Searched, searched, within_limit, limit_iff, none_iff}
use Rattle.search.proofs.Searched as Rule
use Rattle.soundness.specs.Calls.{search_call, cost_call, check_call}
use Rattle.soundness.specs.Parts.{Part1, NoneFit}
use Rattle.soundness.specs.Demand3.{register_of}
use Rattle.soundness.proofs.Windows.{keeps}
use Rattle.soundness.proofs.DayLengths.{feeds_of_day}
use Rattle.soundness.specs.Search.{visits_of, limit_passed, none_fits, Cheapest, CheapestEvery, SearchSound, SumSound}

-- the register that is read is the one answered
read_is : (t : List ℕ) (reg : Register) → register_by_itself t ≡ accepted (reached 0x1F reg) (length t) → register_of t ≡ reg
read_is t reg e = ap (λ x. (register_answer x).register) e

-- the cost call, of a register that is read and a plan of its choices
cost_read : (t bytes : List ℕ) (reg : Register) (plan : ℕ) → Opened t reg → Valid reg plan → Encodes reg plan bytes →
    cost_answer t bytes ≡ accepted_cost (P.cost (chosen reg plan) reg plan)
unfolding cost_answer
cost_read t bytes reg plan o l e = rw (o.reads, whole_accepted reg o.valid.within.choices.few plan bytes l e)

-- ---- the low coefficients, and those that a plan chooses

module _ (r : Register) (v : R.Valid r) where
  -- a plan costs the least at the low ones
  low_least : (plan : ℕ) → P.cost (coefficient r) r plan ≤ℤ P.cost (chosen r plan) r plan
  low_least = cost_most r (coefficient r) (λ t l. (≤ℤ_refl (coefficient r t), low_high r v.within t))

  -- and the same at both, whichever plan chooses, where no term has a range
  low_same : has_range r ≡ false → (fed plan : ℕ) → P.cost (chosen r fed) r plan ≡ P.cost (coefficient r) r plan
  low_same none fed = cost_same (chosen r fed) (coefficient r) r (λ t l. chosen_known r v.within fed none t)

-- ---- an answer that is no refusal

module _ (t : List ℕ) (limit : ℕ) (z : (search_answer t limit).number ≡ 0) where
  -- what the rule comes to

  abbrev reg : Register
  reg = register_of t

  abbrev w : Best
  w = search (coefficient reg) reg

  found : Searched t limit reg
  found = searched t limit z

  best : Least (fits reg) (P.cost (coefficient reg) reg) (2 ^ reg.choices) w
  best = found_least (coefficient reg) reg found.met

  best_valid : Valid reg w.plan
  best_valid = record { inside = best.plan_below; fits = (register_fits reg w.plan).0 best.plan_fits }

  least : (plan : ℕ) → Valid reg plan → w.cost ≤ℤ P.cost (coefficient reg) reg plan
  least plan v = best.least plan v.inside ((register_fits reg plan).1 v.fits)

  -- no less is answered for any plan, by whichever call reads the register
  least_read : (r : Register) → reg ≡ r → (plan : ℕ) → Valid r plan → w.cost ≤ℤ P.cost (coefficient r) r plan
  least_read r e plan = subst (λ r. Valid r plan → w.cost ≤ℤ P.cost (coefficient r) r plan) e (least plan)

  cost_least : (bytes : List ℕ) → (cost_answer t bytes).number ≡ 0 → w.cost ≤ℤ (cost_answer t bytes).cost
  cost_least bytes n =
      let c = costed t bytes n in
      let p = c.read.parsed in
      rw c.answers (≤ℤ_trans _ _ _ (least_read c.reg (read_is t c.reg c.first.reads) p (costed_valid t bytes c)) (low_least c.reg c.first.valid p))

  cheapest : Cheapest cost_call t limit (search_answer t limit)
  cheapest =
      let v = found_visits (coefficient reg) reg in
      rw found.answers (record {
        part_1 = λ b. record { conditions = found.first.valid; bytes = ((accepted_iff t reg b).0 found.first.reads).1 };
        plan = record { fed = w.plan; inside = best.plan_below };
        plan_is = refl;
        fits = best_valid.fits;
        cost_is = sym best.cost_is;
        least = λ other f. least other.fed (record { inside = other.inside; fits = f });
        smallest = λ other f. best.smallest other.fed other.inside ((register_fits reg other.fed).1 f);
        keeps = keeps reg w.plan found.first.valid;
        of_day = feeds_of_day reg found.first.valid w.plan;
        costed = λ bytes e. cost_read t bytes reg w.plan found.first best_valid e;
        costed_known = λ none bytes e. cost_read t bytes reg w.plan found.first best_valid e ∙ ap accepted_cost (low_same reg found.first.valid none w.plan w.plan ∙ sym best.cost_is);
        costed_least = cost_least;
        visits_are = refl;
        visits_some = v.0;
        visits_few = v.1;
        visits_within = found.within;
      })

  -- without rows each plan fits
  cheapest_every : reg.rows ≡ 0 → CheapestEvery cost_call t limit (search_answer t limit)
  cheapest_every none =
      let c = cheapest in
      let all : (plan : ℕ) → Fits reg plan = every_fits reg none in
      record { cheapest = c; least = λ other. c.least other (all other.fed); smallest = λ other. c.smallest other (all other.fed) }

  -- without a range every plan that fits costs at least the bound, and so does the one found
  bound_below : has_range reg ≡ false → (s k q : List ℕ) (table : List ℤ) → (check_answer t s k q table).number ≡ 0 → (check_answer t s k q table).bound ≤ℤ (search_answer t limit).cost
  bound_below none s k q table n =
      let c = checked t s k q table n in
      let o = c.opens.parts in
      let valid = whole_valid c.reg c.sch _ k c.read c.end c.reads in
      let e = read_is t c.reg o.register_reads in
      let least = plan_bound (chosen c.reg c.plan) c.reg c.sch c.read.parsed o.scheme_valid valid w.plan (subst (λ r. Fits r w.plan) e best_valid.fits) in
      rw (c.answers, found.answers, best.cost_is, ← (low_same reg found.first.valid none c.plan w.plan)) (subst (λ r. bound c.read.parsed ≤ℤ P.cost (chosen r c.plan) r w.plan) (sym e) least)

-- ---- a register that is right

-- no plan fits, by the test and as it is said
none_fit : (r : Register) → NoneFit r ↔ NoneFits (fits r) (2 ^ r.choices)
none_fit r = (
  (λ none plan l. flag (fits r plan) (λ e. absurd (none plan l ((register_fits r plan).0 e))) (λ e. e)),
  (λ none plan l f. true≢false (sym ((register_fits r plan).1 f) ∙ none plan l)),
)

most_visits : (r : Register) → NoneFit r → suc (visits_of r) ≡ 2 ^ suc r.choices
most_visits r none = none_visits (coefficient r) r ((found_none (coefficient r) r).1 ((none_fit r).0 none))

module _ (t : List ℕ) (r : Register) (limit : ℕ) (p : Part1 t r) where
  reads : register_by_itself t ≡ accepted (reached 0x1F r) (length t)
  reads = encoding_accepted t r p.conditions p.bytes

  past_limit : (search_answer t limit ≡ limit_passed) ↔ (limit < visits_of r)
  past_limit = limit_iff t r reads limit

  none : (search_answer t limit ≡ none_fits) ↔ (NoneFit r × (visits_of r ≤ limit))
  none =
      let (to, from) = none_iff t r reads limit in
      let (said, tested) = none_fit r in
      ((λ e. let (n, l) = to e in (tested n, l)), (λ (n, l). from (said n, l)))

  none_32 : 32 ≤ r.choices → NoneFit r → limit < 2 ^ 32 → search_answer t limit ≡ limit_passed
  none_32 many n l =
      let few : 33 ≤ suc r.choices = omega (arith, many) in
      past_limit.1 (omega (arith, most_visits r n, pow_mono few, l))

  enough : (plan : ℕ) → plan < 2 ^ r.choices → Fits r plan → 2 ^ suc r.choices ≤ suc limit → (search_answer t limit).number ≡ 0
  enough plan i f l =
      ap (λ a. a.number) (within_limit t r reads limit (omega (arith, l, found_visits (coefficient r) r)) (found_met (coefficient r) r plan i ((register_fits r plan).1 f)))

pub search_sound : SearchSound search_call cost_call check_call
search_sound = record {
  cheapest = cheapest;
  past_limit = past_limit;
  limit_0 = λ t r p. Rule.past_limit t r (reads t r 0 p) 0 (found_visits (coefficient r) r).0;
  enough = λ t r limit p some f. enough t r limit p some.fed some.inside f;
  none = none;
  none_visits = most_visits;
  none_32 = none_32;
  cheapest_every = λ t limit rows z. cheapest_every t limit z rows;
  enough_every = λ t r limit p rows. enough t r limit p 0 (pow_pos r.choices) (every_fits r rows 0);
  bounds = λ t s k q table limit none n z. bound_below t limit z none s k q table n;
}

pub sum_sound : SumSound
sum_sound = record {
  said = λ d fed none c m. record { wholly_fed = term_fed d fed none c m; undecided = term_undecided d fed none c m; unfed = term_unfed d fed none c m };
  under = λ c r d fed plan u. under_sum c r d fed plan u.undecided u.decided;
  full = sum_full;
}
