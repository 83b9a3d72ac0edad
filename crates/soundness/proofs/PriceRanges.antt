-- Costs known within ranges, of our calls.
use Prim.Native.Nat.{ℕ, zero, suc}
use native.Mathlib.Omega.{arith}
use mathlib.Core.Path.{◌≡◌, refl, sym, ◌∙◌, ap, subst, fun_ext}
use mathlib.Core.Bool.{Bool, true, false, cond}
use mathlib.Core.List.{List}
use lib.Dec.{T, ltb}
use lib.IntN.{ℤ, pos, ◌-ℤ◌}
use lib.ListN.{length}
use lib.Signed.{◌≤ℤ◌}
use Rattle.integers.proofs.Diff.{diff₂, diff₃, diffs}
use Rattle.integers.proofs.Order.{≤ℤ_trans}
use Rattle.integers.proofs.Lists.{T_true, T_ext, flag}
use Rattle.sets.specs.Sets.{is_member, is_subset}
use Rattle.sets.proofs.Sets.{subset_members}
use Rattle.wire.specs.Part.{Reading, refused, accepted}
use Rattle.wire.specs.Rows.{Progress}
use Rattle.wire.specs.Outcome.{Outcome, accepts, given, and_then, answer_by}
use Rattle.wire.proofs.Accepting.{reached}
use Rattle.wire.proofs.Outcome.{accepts_one}
use Rattle.forms.specs.Table.{table_numbers, with_table}
use Rattle.forms.specs.Form.{entry}
use Rattle.register.specs.declared.Register.{Register}
use Rattle.register.specs.Register.{mask, coefficient, has_range}
use Rattle.register.specs.Position.{term_position}
use Rattle.register.specs.Valid.{Valid}
use Rattle.register.specs.Format.{register_by_itself}
use Rattle.register.specs.Answer.{register_answer}
use Rattle.register.proofs.Accept.{encoding_accepted}
use Rattle.register.proofs.Opened.{opened}
use Rattle.register.proofs.SaysRange.{said_by_itself}
use Rattle.plan.specs.Plan.{cost}
use Rattle.plan.specs.Fits.{Fits, fits}
use Rattle.plan.specs.Chosen.{chosen, WithinRanges, CheapestWithinRanges}
use Rattle.plan.proofs.Accept.{whole_accepted}
use Rattle.plan.proofs.Answers.{costed, costed_valid, cost_encodings}
use Rattle.plan.proofs.Coefficients.{chosen_within, chosen_known}
use Rattle.plan.proofs.Ranges.{cost_same, chosen_most, cost_most, cost_least, gap_none}
use Rattle.scheme.specs.declared.Scheme.{Scheme}
use Rattle.scheme.specs.Scheme.{side}
use Rattle.scheme.specs.Format.{scheme_in_job, scheme_by_itself}
use Rattle.scheme.specs.Function.{g}
use Rattle.builder.specs.Builder.{stopped, built, follow, build_term, build_from, build}
use Rattle.penalty.specs.Penalty.{h}
use Rattle.penalty.specs.Weights.{usage, weight}
use Rattle.penalty.specs.declared.PenaltyAnswer.{PenaltyAnswer}
use Rattle.penalty.specs.Answer.{with_penalty, penalty_answer, penalty_table}
use Rattle.penalty.specs.Answer as Penalty
use Rattle.search.specs.Sum.{sum}
use Rattle.search.specs.Answer.{search, search_answer}
use Rattle.bound.specs.Bound.{bound}
use Rattle.bound.specs.Opening.{open_plan, open_chosen}
use Rattle.bound.specs.Check.{check_answer, check_table}
use Rattle.bound.proofs.Accept.{whole_valid}
use Rattle.bound.proofs.Answers.{Checked, checked}
use Rattle.bound.proofs.Bound.{plan_bound}
use Rattle.bound.proofs.Opening.{plan_ranged, plan_none}
use Rattle.plain.specs.Answer.{plain_answer, plain_buffer}
use Rattle.job.specs.declared.Tally.{Tally}
use Rattle.job.specs.Tally.{with_accepted, moved}
use Rattle.job.specs.Outcome.{Parts, coefficients, bound_of, cost_of}
use Rattle.job.specs.Answer.{accepted_answer, job_answer}
use Rattle.job.specs.Valid as J
use Rattle.job.proofs.Accept.{answer_accepted, answered}
use Rattle.soundness.specs.Calls.{register_call, cost_call, penalty_call, check_call, plain_call, build_call, job_call, search_call}
use Rattle.soundness.specs.Parts.{Part1, Part4}
use Rattle.soundness.specs.Writers.{refused_back}
use Rattle.soundness.specs.PriceRanges.{CoefficientsChosen, OfEitherKind, KindsAlike, RangesKept}
use Rattle.soundness.proofs.BeforeRanges.{register_before, cost_before, check_before, plain_before, job_before}
use Rattle.soundness.proofs.Choosing.{chosen_low, misfit_checked, misfit_own}
use Rattle.soundness.proofs.Misfit.{only_misfit_checked, only_misfit_own}
use Rattle.soundness.proofs.Writers.{build_is}

-- ---- what makes no difference

module _ (reg : Register) (lows highs : List ℤ) (ranged : List Bool) where
  abbrev other : Register
  other = record reg { coefficients = lows; highs = highs; ranged = ranged }

  built_same : (k t : ℕ) (sch : Scheme) → build_from other k t sch ≡ build_from reg k t sch
  unfolding build_from
  built_same zero t sch = refl
  built_same (suc k) t sch = ap (follow (build_term reg.choices sch (mask reg t)) t) (fun_ext (built_same k (suc t)))

  build_same : build other ≡ build reg
  unfolding build
  build_same = built_same reg.terms 0 _

-- what the penalty call answers of a register, by what reading part 2 leads to
abbrev penalty_by : Register → List ℤ → Reading (Progress Scheme) → PenaltyAnswer × List ℤ
penalty_by reg table x =
    let short = ltb (length table) table_numbers in
    let y : Outcome (Register × Scheme) = and_then (given 2 x) λ sch. accepts (reg, sch) in
    let holds : List ℤ = answer_by (λ number part at. table) (λ (r, sch). with_penalty r sch table) y in
    (cond short (Penalty.answer 11 0 0) (answer_by Penalty.answer (λ parts. Penalty.answer 0 0 0) y), cond short table holds)

penalty_read : (t : List ℕ) (reg : Register) → register_by_itself t ≡ accepted (reached 0x1F reg) (length t) →
    (s : List ℕ) (table : List ℤ) → penalty_call t s table ≡ penalty_by reg table (scheme_by_itself reg s)
unfolding penalty_answer penalty_table
penalty_read t reg e s table = rw e refl

module _ (reg : Register) (highs : List ℤ) (ranged : List Bool) where
  abbrev higher : Register
  higher = record reg { highs = highs; ranged = ranged }

  form_same : (sch : Scheme) → h (coefficient higher) higher sch ≡ h (coefficient reg) reg sch
  unfolding h g weight usage
  form_same sch = refl

  penalty_same : (sch : Scheme) (lent : List ℤ) → with_penalty higher sch lent ≡ with_penalty reg sch lent
  penalty_same sch lent = ap (λ f. with_table (side reg.choices sch) (entry f) lent) (form_same sch)

  penalty_by_same : (table : List ℤ) (x : Reading (Progress Scheme)) → penalty_by higher table x ≡ penalty_by reg table x
  penalty_by_same table (refused n at) = refl
  penalty_by_same table (accepted p end) =
      let short = ltb (length table) table_numbers in
      ap (λ w. (cond short (Penalty.answer 11 0 0) (Penalty.answer 0 0 0), cond short table w)) (penalty_same p.parsed table)

  scheme_same : (s : List ℕ) → scheme_by_itself higher s ≡ scheme_by_itself reg s
  unfolding scheme_by_itself scheme_in_job
  scheme_same s = refl

  search_same : search (coefficient higher) higher ≡ search (coefficient reg) reg
  unfolding search sum
  search_same = refl

-- the test of the definition, by the members of the two sets
module _ (m plan : ℕ) where
  all_fed : ((i : ℕ) → T (is_member i m) → T (is_member i plan)) → is_subset m plan ≡ true
  all_fed f = (T_true _).0 ((subset_members m plan).1 f)

  one_unfed : (i : ℕ) → T (is_member i m) → (T (is_member i plan) → ⊥) → is_subset m plan ≡ false
  one_unfed i h f = T_ext _ _ ((λ t. f ((subset_members m plan).0 t i h)), (λ t. absurd t))

pub coefficients_chosen : CoefficientsChosen
coefficients_chosen = record {
  of_fed = λ reg plan t f. rw (all_fed (mask reg t) plan f);
  of_unfed = λ reg plan t i h f. rw (one_unfed (mask reg t) plan i h f);
  within = λ reg v plan t l. chosen_within reg v.within plan t l;
  dearest = λ reg plan c w. cost_most reg c w plan;
  worst = λ reg plan other c w. chosen_most reg c w plan other;
  lowest = λ reg plan c w. cost_least reg c w plan;
  one = λ reg same plan t l. flag (is_subset (mask reg t) plan) (λ e. rw e (same t l)) (λ e. rw e);
  known = chosen_low;
  builder = build_same;
  penalty_form = penalty_same;
  searched = search_same;
}

-- ---- what calls answer of two registers that are the same but for these

module _ (t o : List ℕ) (k : OfEitherKind t o) where
  other_builds : build (other k.reg k.lows k.highs k.ranged) ≡ build k.reg
  other_builds = build_same k.reg k.lows k.highs k.ranged

  kinds_built : (sch : Scheme) → build k.reg ≡ built sch → (lent : List ℕ) → build_call t lent ≡ build_call o lent
  kinds_built sch e lent = build_is t k.reg k.part_1 (built sch) e lent ∙ sym (build_is o _ k.part_1_other (built sch) (other_builds ∙ e) lent)

  kinds_stopped : (term : ℕ) → build k.reg ≡ stopped term → (lent : List ℕ) →
      (build_call t lent ≡ refused_back 10 1 (term_position t term) lent) × (build_call o lent ≡ refused_back 10 1 (term_position o term) lent)
  kinds_stopped term e lent = (build_is t k.reg k.part_1 (stopped term) e lent, build_is o _ k.part_1_other (stopped term) (other_builds ∙ e) lent)

  module _ (same : k.lows ≡ k.reg.coefficients) where
    abbrev high_reg : Register
    high_reg = higher k.reg k.highs k.ranged

    first : register_by_itself t ≡ accepted (reached 0x1F k.reg) (length t)
    first = encoding_accepted t k.reg k.part_1.conditions k.part_1.bytes

    second : register_by_itself o ≡ accepted (reached 0x1F high_reg) (length o)
    second =
        let p : Part1 o high_reg = subst (λ cs. Part1 o (record k.reg { coefficients = cs; highs = k.highs; ranged = k.ranged })) same k.part_1_other in
        encoding_accepted o high_reg p.conditions p.bytes

    penalty_alike : (scheme : List ℕ) (table : List ℤ) → penalty_call t scheme table ≡ penalty_call o scheme table
    penalty_alike s table =
        penalty_read t k.reg first s table
        ∙ sym (penalty_by_same k.reg k.highs k.ranged table (scheme_by_itself k.reg s))
        ∙ sym (ap (penalty_by high_reg table) (scheme_same k.reg k.highs k.ranged s))
        ∙ sym (penalty_read o high_reg second s table)

    search_alike : (limit : ℕ) → search_call t limit ≡ search_call o limit
    unfolding search_answer
    search_alike limit = rw (first, second, search_same k.reg k.highs k.ranged) refl

pub kinds_alike : KindsAlike build_call penalty_call search_call
kinds_alike = record { builds = kinds_built; stops = kinds_stopped; penalty_alike = penalty_alike; search_alike = search_alike }

-- ---- an accepted certificate

-- its bound is at most the cost of every plan that fits, with the coefficients that the plan beside it chooses
module _ (t s k q : List ℕ) (table : List ℤ) (c : Checked t s k q table) where
  abbrev b : ℤ
  b = bound c.read.parsed

  bounded : (other : ℕ) → Fits c.reg other → b ≤ℤ cost (chosen c.reg c.plan) c.reg other
  bounded =
      let o = c.opens.parts in
      plan_bound (chosen c.reg c.plan) c.reg c.sch c.read.parsed o.scheme_valid (whole_valid c.reg c.sch (chosen c.reg c.plan) k c.read c.end c.reads)

  -- of whichever reading of part 1
  read_is : (reg : Register) → register_by_itself t ≡ accepted (reached 0x1F reg) (length t) → c.reg ≡ reg
  read_is reg e = ap (λ x. (register_answer x).register) (sym c.opens.parts.register_reads ∙ e)

costed_above : (register scheme certificate plan other : List ℕ) (table : List ℤ) → (check_answer register scheme certificate plan table).number ≡ 0 → (cost_call register other).number ≡ 0 →
    (check_answer register scheme certificate plan table).bound ≤ℤ (cost_call register other).cost
costed_above t s k q other table n z =
    let c = checked t s k q table n in
    let d = costed t other z in
    let p = d.read.parsed in
    let f : Fits c.reg p = rw (read_is t s k q table c d.reg d.first.reads) (costed_valid t other d).fits in
    let w = chosen_within c.reg c.opens.parts.register_valid.within c.plan in
    let l = ≤ℤ_trans _ _ _ (bounded t s k q table c p f) (cost_most c.reg (chosen c.reg c.plan) w p) in
    rw (c.answers, d.answers) (subst (λ r. b t s k q table c ≤ℤ cost (chosen r p) r p) (read_is t s k q table c d.reg d.first.reads) l)

-- the plan that is opened beside it chooses as the one that its bytes are
chooses_same : (reg : Register) → Valid reg → (q : List ℕ) (fed : ℕ) → Part4 reg q fed → (plan : ℕ) → open_plan reg q ≡ accepts plan → (t : ℕ) → chosen reg plan t ≡ chosen reg fed t
chooses_same reg v q fed p plan o t =
    flag (has_range reg)
    (λ some.
    let e : accepts fed ≡ accepts plan = sym (plan_ranged reg q some ∙ ap (given 4) (whole_accepted reg v.within.choices.few fed q p.conditions p.bytes)) ∙ o in
    ap (λ x. chosen reg x t) (sym (accepts_one e)))
    (λ none. chosen_known reg v.within plan none t ∙ sym (chosen_known reg v.within fed none t))

cheapest : (register scheme certificate plan : List ℕ) (table : List ℤ) (reg : Register) (fed : ℕ) → Part1 register reg → Part4 reg plan fed →
    (check_answer register scheme certificate plan table).number ≡ 0 → (check_answer register scheme certificate plan table).bound ≡ (cost_call register plan).cost → CheapestWithinRanges reg fed
cheapest t s k q table reg fed p p' n e c within other fits =
    let x = checked t s k q table n in
    let is = read_is t s k q table x reg (encoding_accepted t reg p.conditions p.bytes) in
    let own = cost_same (chosen reg x.plan) (chosen reg fed) reg (λ i l. chooses_same reg p.conditions q fed p' x.plan (subst (λ r. open_plan r q ≡ accepts x.plan) is x.opens.opens_plan) i) other in
    let least : bound x.read.parsed ≤ℤ cost (chosen reg x.plan) reg other = subst (λ r. Fits r other → bound x.read.parsed ≤ℤ cost (chosen r x.plan) r other) is (bounded t s k q table x other) fits in
    let z = sym (ap (λ a. a.bound) x.answers) ∙ e ∙ ap (λ a. a.cost) (cost_encodings t q reg fed p.conditions p.bytes p'.conditions p'.bytes) in
    gap_none reg fed other (bound x.read.parsed) z (rw own at least) c within

-- ---- an accepted job

module _ (p : Parts) (v : J.Valid p) where
  job_bounded : (other : ℕ) → Fits p.register other → bound_of p ≤ℤ cost (coefficients p) p.register other
  job_bounded = plan_bound (coefficients p) p.register p.scheme p.certificate v.scheme v.certificate

  module _ (c : ℕ → ℤ) (within : WithinRanges p.register c) (other : ℕ) (f : Fits p.register other) where
    -- its plan costs at most so much more than another that fits
    job_within : (cost c p.register p.plan -ℤ cost c p.register other) ≤ℤ (cost_of p -ℤ bound_of p)
    job_within = ≤ℤ_trans _ _ _ (chosen_most p.register c within p.plan other) (less (cost_of p) _ _ (job_bounded other f))
      where
        less : (z x y : ℤ) → y ≤ℤ x → (z -ℤ x) ≤ℤ (z -ℤ y)
        less = diff₃ _ λ p q r s t u. simp diffs (omega arith)

    -- and no more, where the bound is its cost
    job_none : (cost_of p -ℤ bound_of p) ≡ pos 0 → cost c p.register p.plan ≤ℤ cost c p.register other
    job_none e = to _ _ (rw e at job_within)
      where
        to : (x y : ℤ) → (x -ℤ y) ≤ℤ pos 0 → x ≤ℤ y
        to = diff₂ _ λ p q r s. simp diffs (omega arith)

job_is : (job : List ℕ) (table : List ℤ) (supplier : ℕ) (tally : Tally) (p : Parts) → J.Valid p → J.Encodes p job → (job_answer job table supplier tally).number ≡ 0 →
    job_answer job table supplier tally ≡ accepted_answer p (moved with_accepted supplier tally)
job_is job table supplier tally p v k z = let a = answered job table supplier tally z in answer_accepted job table supplier tally p a.there a.long v k

-- ---- the plan that is not looked at

unread : (register scheme plan other : List ℕ) → has_range (register_call register).register ≡ false → open_chosen register scheme plan ≡ open_chosen register scheme other
unread t s q q' = go (register_by_itself t)
  where
    of_scheme : (reg : Register) → has_range reg ≡ false → (y : Reading (Progress Scheme)) →
        let x : Outcome (Register × Scheme) = and_then (given 2 y) λ sch. accepts (reg, sch) in
        and_then x (λ (reg, sch). and_then {B = Register × Scheme × ℕ} (open_plan reg q) λ p. accepts (reg, sch, p)) ≡ and_then x (λ (reg, sch). and_then (open_plan reg q') λ p. accepts (reg, sch, p))
    of_scheme reg none (refused n at) = refl
    of_scheme reg none (accepted p end) = rw (plan_none reg q none, plan_none reg q' none)

    go : (x : Reading (Progress Register)) → has_range (register_answer x).register ≡ false →
        let y : Outcome (Register × Scheme) = and_then (given 1 x) λ reg. and_then (given 2 (scheme_by_itself reg s)) λ sch. accepts (reg, sch) in
        and_then y (λ (reg, sch). and_then {B = Register × Scheme × ℕ} (open_plan reg q) λ p. accepts (reg, sch, p)) ≡ and_then y (λ (reg, sch). and_then (open_plan reg q') λ p. accepts (reg, sch, p))
    go (refused n at) none = refl
    go (accepted p end) none = of_scheme p.parsed none (scheme_by_itself p.parsed s)

check_unread : (register scheme certificate plan other : List ℕ) (table : List ℤ) → has_range (register_call register).register ≡ false → check_call register scheme certificate plan table ≡ check_call register scheme certificate other table
unfolding check_answer check_table
check_unread t s k q q' table none = rw (unread t s q q' none)

plain_unread : (register scheme plan other lent : List ℕ) → has_range (register_call register).register ≡ false → plain_call register scheme plan lent ≡ plain_call register scheme other lent
unfolding plain_answer plain_buffer
plain_unread t s q q' lent none = rw (unread t s q q' none)

-- ---- the promises

pub ranges_kept : RangesKept register_call cost_call check_call plain_call job_call
ranges_kept = record {
  says_range = λ register z.
      let o = opened register (register_call register) refl z in
      said_by_itself register (reached 0x1F (register_call register).register) (length register) o.reads;
  costed = costed_above;
  cheapest = cheapest;
  cheapest_in_job = λ job table supplier tally p v k z e c w other f. job_none p v c w other f (sym (ap (λ a. a.gap) (job_is job table supplier tally p v k z)) ∙ e);
  within_gap = λ job table supplier tally p v k z c w other f. rw (job_is job table supplier tally p v k z) (job_within p v c w other f);
  misfit_checked = λ register scheme certificate plan table k. misfit_checked register scheme certificate plan table k.sch k.misfit k.ranged k.part_2;
  misfit_own = λ register scheme plan lent k. misfit_own register scheme plan lent k.sch k.misfit k.ranged k.part_2;
  only_misfit_checked = only_misfit_checked;
  only_misfit_own = only_misfit_own;
  plan_unread = check_unread;
  plan_unread_own = plain_unread;
  register_as_before = register_before;
  cost_as_before = cost_before;
  check_as_before = λ register scheme certificate plan table none. check_before register scheme none certificate plan table;
  plain_as_before = λ register scheme plan lent none. plain_before register scheme none plan lent;
  job_as_before = λ job table supplier tally none. job_before job none table supplier tally;
}
