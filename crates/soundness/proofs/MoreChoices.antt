-- Of our calls: the counts of choices, products and variables are kept, the forms of a term and of a plan make no difference, and rows bear
-- on the first choices alone.
use Prim.Native.Nat.{ℕ, zero, suc, ◌+◌, ◌%◌, ◌^◌, ◌≤◌, ◌<◌}
use native.Mathlib.Nat.{zero-add, add-zero}
use native.Mathlib.Omega.{arith}
use native.Mathlib.Decide.{dec_lt}
use mathlib.Core.Path.{◌≡◌, refl, sym, ◌∙◌, ap}
use mathlib.Core.Logic.{◌↔◌, ◌⊎◌, inl, inr, ⊎_elim}
use mathlib.Core.Bool.{Bool, cond, true, false, ◌||◌}
use mathlib.Core.List.{List, [], ◌∷◌, ◌++◌}
use lib.IntN.{pos}
use lib.Dec.{leb}
use lib.ListN.{length}
use lib.Seq.{append_snoc}
use borrow.Author.Tests.{leb-true, leb-false, le-leb}
use Rattle.integers.proofs.Lists.{flag, or_either}
use Rattle.integers.proofs.Sum.{sum_below_cong}
use Rattle.sets.specs.Sets.{is_member}
use Rattle.sets.proofs.Sets.{member_mod}
use Rattle.wire.specs.Checks.{refusal}
use Rattle.wire.specs.Part.{Reading, refused, accepted, operands_at}
use Rattle.wire.specs.Rows.{Progress}
use Rattle.wire.specs.Outcome.{Outcome, refuses, accepts, given}
use Rattle.wire.specs.Outcome as O
use Rattle.wire.proofs.Outcome.{itself_refused}
use Rattle.register.specs.declared.Register.{Register}
use Rattle.register.specs.Limits.{max_choices, row_entries}
use Rattle.register.specs.Register.{mask, row_entry, has_range}
use Rattle.register.specs.Valid as R
use Rattle.register.specs.Format.{choice_checks, choice_row, register_in_job, register_by_itself}
use Rattle.register.specs.Position.{term_position}
use Rattle.register.specs.Opening.{open_register}
use Rattle.register.specs.Answer.{refused_answer, register_answer}
use Rattle.register.proofs.Entries.{entry_past}
use Rattle.register.proofs.Accept.{encoding_accepted}
use Rattle.register.proofs.Opened.{opened}
use Rattle.register.proofs.Outside.{choice_refused_there}
use Rattle.plan.specs.Fits.{Fits, fed_sum}
use Rattle.plan.specs.Format.{plan_by_itself}
use Rattle.plan.specs.Answer.{cost_answer}
use Rattle.plan.proofs.Accept.{whole_accepted}
use Rattle.scheme.specs.declared.Scheme.{Scheme}
use Rattle.scheme.specs.Scheme.{max_products, max_variables, variables, fresh, initial}
use Rattle.scheme.specs.Valid as S
use Rattle.scheme.specs.Format.{product_checks, product_row, scheme_in_job, scheme_by_itself}
use Rattle.scheme.proofs.RefusedAfter.{product_refused_there}
use Rattle.scheme.proofs.Opened.{answer_opened}
use Rattle.scheme.proofs.Sets.{new_at}
use Rattle.scheme.proofs.Entries.{initial_within}
use Rattle.builder.specs.Builder.{Step, full, next, WithVariable, stopped, built, follow, choices_of, join_pair, pair_up, reduce, build_term, build_from, build}
use Rattle.builder.proofs.Steps.{next_not_full, and_then_full, no_room, found, found_within, found_new, join_found, join_new, reduce_done, reduce_zero, reduce_more, pass_kept}
use Rattle.builder.proofs.Unions.{choices_hold}
use Rattle.builder.proofs.Holds.{Holding, holding_joins}
use Rattle.builder.proofs.Steady.{All-back}
use Rattle.builder.proofs.Validity.{SplitTo, term_split, build_valid}
use Rattle.penalty.specs.Answer.{penalty_answer, penalty_table}
use Rattle.bound.specs.Opening.{open_plan, open_chosen}
use Rattle.bound.specs.Check.{check_answer, check_table}
use Rattle.plain.specs.Answer.{plain_answer, plain_buffer}
use Rattle.job.specs.Outcome.{outcome}
use Rattle.job.proofs.Suppliers.{table_enough}
use Rattle.search.specs.Answer.{search_answer}
use Rattle.soundness.specs.Calls.{register_call, scheme_call, cost_call, penalty_call, check_call, plain_call, build_call, job_call, listing_call, supplier_listing_call, search_call}
use Rattle.soundness.specs.Parts.{Part1, Part4}
use Rattle.soundness.specs.Writers.{refused_back}
use Rattle.soundness.specs.MoreChoices.{ChoiceTooMany, ProductTooMany, CountsKept, Joined, itself, joined, FullAt, BuilderKeeps, RegistersAlike, PlansAlike, FormsAlike, RowsOfFirst}
use Rattle.soundness.proofs.Writers.{build_is}
use Rattle.soundness.proofs.SecondRefused.{second_refused, second_refused_in_job}
use Rattle.soundness.proofs.JobsAlike.{jobs_alike}

-- ---- counts

module _ (s : List ℕ) (at : ℕ) (k : ChoiceTooMany s at) where
  -- whatever its operands are
  choice_full : refusal (choice_row.checks k.before (operands_at choice_row.widths s (at + 1))) ≡ 3
  unfolding choice_checks refusal
  choice_full = rw (le-leb max_choices k.before.choices (omega (arith, k.full)))

  choice_refused : register_in_job s ≡ refused 3 at
  choice_refused = choice_refused_there k.before k.within k.day k.no_row k.no_term k.front k.encodes s at k.t k.m k.rest k.bytes k.position 3 choice_full (λ z. omega arith)

  choice_too_many : register_call s ≡ refused_answer 3 at
  unfolding register_by_itself
  choice_too_many = ap register_answer (itself_refused s choice_refused)

module _ (reg : Register) (s : List ℕ) (at : ℕ) (k : ProductTooMany reg s at) where
  abbrev before : Scheme
  before = k.before

  -- one limit or the other is reached
  products_full : (leb max_products before.products || leb max_variables (variables reg.choices before)) ≡ true
  products_full =
      flag (leb max_products before.products) (λ t. rw t)
      (λ f. rw (f, le-leb max_variables (variables reg.choices before) (⊎_elim (λ e. absurd (omega (arith, e, leb-false _ _ f))) (λ e. omega (arith, e)) k.full)))

  product_full : refusal ((product_row reg).checks before (operands_at (product_row reg).widths s (at + 1))) ≡ 3
  unfolding product_checks refusal
  product_full = rw products_full

  product_refused : R.Valid reg → scheme_in_job reg s ≡ refused 3 at
  product_refused valid = product_refused_there reg valid before k.within k.header k.header_is k.no_split s at k.l k.r k.rest k.bytes k.position 3 product_full (λ z. omega arith)

-- in a job the refusal is that of its first part

module _ (job : List ℕ) (at : ℕ) (k : ChoiceTooMany job at) where
  outcome_choice : outcome job ≡ refuses 3 1 at
  unfolding outcome
  outcome_choice = rw (choice_refused job at k)

pub counts_kept : CountsKept register_call scheme_call job_call
counts_kept = record {
  choices_few = λ register z. (opened register (register_call register) refl z).valid.within.choices.few;
  choices_named = λ register z t l. ((opened register (register_call register) refl z).valid.within.terms.each t l).mask_names;
  choice_too_many = choice_too_many;
  choice_too_many_in_job = λ job table supplier tally at l m k. (table_enough job table supplier tally l m).0 ∙ rw (outcome_choice job at k);
  products_few = λ register scheme z. let w = (answer_opened register scheme z).scheme_valid.within in (w.products_within, w.variables_within);
  product_too_many = λ register scheme reg at p k. second_refused register scheme reg p 3 at (product_refused reg scheme at k p.conditions);
  product_too_many_in_job = λ job table supplier tally register rest reg at l m p e k. second_refused_in_job register rest reg p 3 at (product_refused reg rest at k p.conditions) job table supplier tally l m e;
}

-- ---- the builder

-- joining a pair is full
pair_full : {G : Type 0} (n : ℕ) (sch : Scheme) (a b : ℕ) → join_pair n sch a b ≡ full → (found n sch a b ≡ variables n sch → no_room n sch ≡ true → G) → G
pair_full {G} n sch a b e f = go (dec_lt (found n sch a b) (variables n sch))
  where
    go : Dec (found n sch a b < variables n sch) → G
    go (yes l) = absurd (next_not_full (sym (join_found n sch a b l) ∙ e))
    go (no l) =
        let k : found n sch a b ≡ variables n sch = omega (arith, found_within n sch a b) in
        flag (no_room n sch) (λ t. f k t) (λ t. absurd (next_not_full (sym (join_new n sch a b k t) ∙ e)))

module _ (reg : Register) (valid : R.Valid reg) where
  abbrev n : ℕ
  n = reg.choices

  -- no product more may be made: one count has reached its limit, where neither is past it
  reached_limit : (sch : Scheme) → S.Within reg sch → no_room n sch ≡ true → (sch.products ≡ max_products) ⊎ (variables n sch ≡ max_variables)
  reached_limit sch w e =
      ⊎_elim
      (λ (t : leb max_products sch.products ≡ true). inl (omega (arith, w.products_within, leb-true max_products sch.products t)))
      (λ (t : leb max_variables (variables n sch) ≡ true). inr (omega (arith, w.variables_within, leb-true max_variables (variables n sch) t)))
      (or_either _ _ e)

  -- term t has its list, and what has been joined for it
  module _ (t : ℕ) (before : Scheme) (builds : build_from reg t 0 initial ≡ built before) where
    record Held (sch : Scheme) (l : List ℕ) : Type 0 where
      pub holding : Holding reg (mask reg t) t sch l
      pub joins : Joined n before sch

    held_joins : (front rest : List ℕ) (sch : Scheme) (a b : ℕ) (p : WithVariable) → Held sch (front ++ a ∷ b ∷ rest) → join_pair n sch a b ≡ next p → Held p.scheme (front ++ p.variable ∷ rest)
    held_joins front rest sch a b p h e = record { holding = holding_joins reg (mask reg t) t front rest sch a b p h.holding e; joins = joined sch a b p h.joins e }

    full_here : (front rest : List ℕ) (sch : Scheme) (a b : ℕ) → Held sch (front ++ a ∷ b ∷ rest) → found n sch a b ≡ variables n sch → no_room n sch ≡ true → FullAt reg t
    full_here front rest sch a b h e f =
        let there = All-back (λ v. v < variables n sch) front (a ∷ b ∷ rest) h.holding.holds.inside in
        record {
          before = before;
          builds = builds;
          sch = sch;
          joins = h.joins;
          within = h.holding.within;
          splits_are = h.holding.splits_kept;
          full = reached_limit sch h.holding.within f;
          a = a;
          b = b;
          there = (there.0, there.1.0);
          needed = new_at n sch _ (found_new n sch a b e);
        }

    pass_full : (k : ℕ) (front : List ℕ) (sch : Scheme) (l : List ℕ) → length l ≤ k → Held sch (front ++ l) → pair_up n sch l ≡ full → FullAt reg t
    unfolding pair_up
    pass_full k front sch [] s h e = absurd (next_not_full e)
    pass_full k front sch (a ∷ []) s h e = absurd (next_not_full e)
    pass_full zero front sch (a ∷ b ∷ rest) s h e = absurd (omega arith)
    pass_full (suc k) front sch (a ∷ b ∷ rest) s h e =
        and_then_full (join_pair n sch a b) _ (λ d. pair_full n sch a b d (full_here front rest sch a b h))
        (λ p d e. and_then_full (pair_up n p.scheme rest) _
        (pass_full k (front ++ (p.variable ∷ [])) p.scheme rest (omega arith) (rw append_snoc (held_joins front rest sch a b p h d)))
        (λ q g z. absurd (next_not_full z)) e)
        e

    reduce_full : (k : ℕ) (sch : Scheme) (l : List ℕ) → Held sch l → reduce k n sch l ≡ full → FullAt reg t
    reduce_full zero sch l h e = absurd (next_not_full (sym (reduce_zero n sch l) ∙ e))
    reduce_full (suc k) sch l h e = go (dec_lt 2 (length l)) (reduce_full k)
      where
        go : Dec (2 < length l) → ((sch : Scheme) (l : List ℕ) → Held sch l → reduce k n sch l ≡ full → FullAt reg t) → FullAt reg t
        go (yes s) ih =
            and_then_full (pair_up n sch l) _ (pass_full (length l) [] sch l (omega arith) h)
            (λ p d. ih p.scheme p.members (pass_kept n Held held_joins sch l p h d)) (sym (reduce_more n k sch l s) ∙ e)
        go (no s) ih = absurd (next_not_full (sym (reduce_done n (suc k) sch l (omega arith)) ∙ e))

    term_full : t < reg.terms → SplitTo reg t before → build_term n before (mask reg t) ≡ full → FullAt reg t
    unfolding build_term
    term_full l s e =
        let members = choices_of n (mask reg t) in
        let holds = choices_hold n (mask reg t) before (valid.within.terms.each t l).mask_names in
        let holding : Holding reg (mask reg t) t before members = record { within = s.within; holds = holds; splits_kept = s.splits_are } in
        and_then_full (reduce (length members) n before members) _ (reduce_full (length members) before members (record { holding = holding; joins = itself })) (λ p d z. absurd (next_not_full z)) e

  -- one term more is built behind those that are built
  built_more : (k t : ℕ) (sch sch' made : Scheme) → build_from reg k t sch ≡ built sch' → build_term n sch' (mask reg (t + k)) ≡ next made → build_from reg (suc k) t sch ≡ built made
  unfolding build_from follow
  built_more zero t sch sch' made e f = let d : sch ≡ sch' = cc in rw (d, ← (add-zero t), f)
  built_more (suc k) t sch sch' made e f = go (build_term n sch (mask reg t)) refl (built_more k (suc t))
    where
      go : (x : Step Scheme) → build_term n sch (mask reg t) ≡ x → ((sch sch' made : Scheme) → build_from reg k (suc t) sch ≡ built sch' → build_term n sch' (mask reg (suc t + k)) ≡ next made → build_from reg (suc k) (suc t) sch ≡ built made) → build_from reg (suc (suc k)) t sch ≡ built made
      go full q ih = let d = rw q at e in let z : ◌≡◌ {A = ℕ} 0 1 = cc in absurd (omega arith)
      go (next s) q ih = let u : suc t + k ≡ t + suc k = omega arith in rw q (ih s sch' made (rw q at e) (rw u f))

  stops_from : (k t u : ℕ) (sch : Scheme) → t + k ≤ reg.terms → SplitTo reg t sch → build_from reg t 0 initial ≡ built sch → build_from reg k t sch ≡ stopped u → FullAt reg u
  unfolding build_from follow
  stops_from zero t u sch d s b e = let z : ◌≡◌ {A = ℕ} 0 1 = cc in absurd (omega arith)
  stops_from (suc k) t u sch d s b e = go (build_term n sch (mask reg t)) refl (stops_from k (suc t) u)
    where
      go : (x : Step Scheme) → build_term n sch (mask reg t) ≡ x → ((sch : Scheme) → suc t + k ≤ reg.terms → SplitTo reg (suc t) sch → build_from reg (suc t) 0 initial ≡ built sch → build_from reg k (suc t) sch ≡ stopped u → FullAt reg u) → FullAt reg u
      go full q ih = let f = rw q at e in let z : t ≡ u = cc in rw (← z) (term_full t sch b (omega arith) s q)
      go (next made) q ih =
          ih made (omega arith) (term_split reg valid t sch made (omega arith) s q) (built_more t 0 initial sch made b (ap (λ i. build_term n sch (mask reg i)) (zero-add t) ∙ q)) (rw q at e)

  stops_full : (t : ℕ) → build reg ≡ stopped t → FullAt reg t
  unfolding build build_from fresh
  stops_full t e =
      stops_from reg.terms 0 t initial (omega arith) (record { within = initial_within reg valid.within.choices.few; splits_are = refl }) refl e

pub builder_keeps : BuilderKeeps
builder_keeps = record {
  builds_within = λ reg v sch e. let w = (build_valid reg v sch e).within in (w.products_within, w.variables_within);
  stops_full = stops_full;
}

-- ---- forms

module _ (t o : List ℕ) (reg : Register) (p : Part1 t reg) (q : Part1 o reg) where
  -- all that the calls look at of part 1 is what is opened of it
  opens_alike : open_register t ≡ open_register o
  opens_alike = rw (encoding_accepted t reg p.conditions p.bytes, encoding_accepted o reg q.conditions q.bytes)

  registers_alike : RegistersAlike register_call scheme_call cost_call penalty_call check_call plain_call search_call t o
  unfolding cost_answer penalty_answer penalty_table check_answer check_table plain_answer plain_buffer search_answer
  registers_alike = record {
    registers = rw (encoding_accepted t reg p.conditions p.bytes, encoding_accepted o reg q.conditions q.bytes);
    schemes = λ scheme. rw opens_alike refl;
    costs = λ plan. rw opens_alike refl;
    penalties = λ scheme table. rw opens_alike refl;
    checks = λ scheme certificate plan table. rw opens_alike refl;
    plains = λ scheme plan lent. rw opens_alike refl;
    searches = λ limit. rw opens_alike refl;
  }

  builds_alike : (sch : Scheme) → build reg ≡ built sch → (lent : List ℕ) → build_call t lent ≡ build_call o lent
  builds_alike sch e lent = build_is t reg p (built sch) e lent ∙ sym (build_is o reg q (built sch) e lent)

  stops_alike : (term : ℕ) → build reg ≡ stopped term → (lent : List ℕ) →
      (build_call t lent ≡ refused_back 10 1 (term_position t term) lent) × (build_call o lent ≡ refused_back 10 1 (term_position o term) lent)
  stops_alike term e lent = (build_is t reg p (stopped term) e lent, build_is o reg q (stopped term) e lent)

module _ (t plan other : List ℕ) (reg : Register) (fed : ℕ) (p : Part1 t reg) (q : Part4 reg plan fed) (q' : Part4 reg other fed) where
  -- nor do they look at more of part 4
  plans_alike : given 4 (plan_by_itself reg plan) ≡ given 4 (plan_by_itself reg other)
  plans_alike =
      let few = p.conditions.within.choices.few in
      rw (whole_accepted reg few fed plan q.conditions q.bytes, whole_accepted reg few fed other q'.conditions q'.bytes)

  -- by what reading part 2 leads to
  chosen_alike : (x : Reading (Progress Scheme)) →
      let y : Outcome (Register × Scheme) = O.and_then (given 2 x) λ sch. accepts (reg, sch) in
      O.and_then y (λ (r, sch). O.and_then {B = Register × Scheme × ℕ} (open_plan r plan) λ fed. accepts (r, sch, fed)) ≡ O.and_then y (λ (r, sch). O.and_then (open_plan r other) λ fed. accepts (r, sch, fed))
  chosen_alike (refused n at) = refl
  chosen_alike (accepted read end) = ap (λ x. O.and_then (cond (has_range reg) x (accepts 0)) λ fed. accepts (reg, read.parsed, fed)) plans_alike

  opens_chosen_alike : (scheme : List ℕ) → open_chosen t scheme plan ≡ open_chosen t scheme other
  opens_chosen_alike scheme = rw (encoding_accepted t reg p.conditions p.bytes) (chosen_alike (scheme_by_itself reg scheme))

  plan_forms_alike : PlansAlike cost_call check_call plain_call t plan other
  unfolding cost_answer check_answer check_table plain_answer plain_buffer
  plan_forms_alike = record {
    costs = rw (encoding_accepted t reg p.conditions p.bytes, plans_alike) refl;
    checks = λ scheme certificate table. rw (opens_chosen_alike scheme) refl;
    plains = λ scheme lent. rw (opens_chosen_alike scheme) refl;
  }

pub forms_alike : FormsAlike register_call scheme_call cost_call penalty_call check_call plain_call build_call search_call job_call listing_call supplier_listing_call
forms_alike = record {
  of_register = registers_alike;
  of_builder = λ register other reg sch p q. builds_alike register other reg p q sch;
  builder_stops = λ register other reg term p q. stops_alike register other reg p q term;
  of_plan = plan_forms_alike;
  of_job = λ job other p v e d. jobs_alike job other p p.scheme.factor v.scheme.within.factor v e d;
}

-- ---- rows

module _ (reg : Register) (plan : ℕ) where
  abbrev first : ℕ
  first = plan % 2 ^ row_entries

  -- a fed choice adds the same, and every other nothing
  adds_same : (k j : ℕ) → cond (is_member j first) (row_entry reg k j) (pos 0) ≡ cond (is_member j plan) (row_entry reg k j) (pos 0)
  adds_same k j = go (dec_lt j row_entries)
    where
      none : (b : Bool) → cond b (pos 0) (pos 0) ≡ pos 0
      none true = refl
      none false = refl

      go : Dec (j < row_entries) → cond (is_member j first) (row_entry reg k j) (pos 0) ≡ cond (is_member j plan) (row_entry reg k j) (pos 0)
      go (yes l) = ap (λ b. cond b (row_entry reg k j) (pos 0)) (member_mod row_entries j plan l)
      go (no d) = rw (entry_past reg.row_entries k j (omega arith)) (none (is_member j first) ∙ sym (none (is_member j plan)))

  sum_same : (k : ℕ) → fed_sum reg.choices (row_entry reg k) first ≡ fed_sum reg.choices (row_entry reg k) plan
  unfolding fed_sum
  sum_same k = sum_below_cong reg.choices _ _ (λ j l. adds_same k j)

  fits_same : Fits reg plan ↔ Fits reg first
  fits_same = ((λ f k l. sum_same k ∙ f k l), (λ f k l. sym (sum_same k) ∙ f k l))

pub rows_of_first : RowsOfFirst
rows_of_first = record {
  no_entry = λ reg. entry_past reg.row_entries;
  fits = fits_same;
  entries_free = λ n total entry some few ranges. record { total_within = few; entry_above = λ j l. (ranges j l).0; entry_below = λ j l. (ranges j l).1; past_0 = λ j l m. absurd (omega arith) };
}
