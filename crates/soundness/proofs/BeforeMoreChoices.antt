-- For bytes that say no `15`, no 33rd choice and no `41`, our calls answer and hand back what they did before forty-eight choices; and
-- of a register with at most 32 choices the builder makes what it made.
use Prim.Native.Nat.{ℕ, ◌≤◌}
use native.Mathlib.Omega.{arith}
use mathlib.Core.Path.{◌≡◌, refl, ◌∙◌, ap}
use mathlib.Core.List.{List, ◌++◌}
use lib.IntN.{ℤ}
use lib.ListN.{length}
use Rattle.wire.specs.Part.{Reading, refused, accepted}
use Rattle.wire.specs.Rows.{Progress}
use Rattle.wire.specs.Outcome.{Outcome, refuses, accepts, given, and_then, answer_by}
use Rattle.wire.specs.Writer as W
use Rattle.wire.specs.declared.WriterAnswer.{WriterAnswer}
use Rattle.wire.proofs.Accepting.{reached}
use Rattle.register.specs.declared.Register.{Register}
use Rattle.register.specs.Register.{fresh}
use Rattle.register.specs.Format.{register_by_itself}
use Rattle.register.specs.Answer.{register_answer}
use Rattle.register.specs.BeforeWide.{max_choices_before, by_itself_before_wide}
use Rattle.register.proofs.Accept as R
use Rattle.register.proofs.SaysMoreChoices.{said_in_job}
use Rattle.register.proofs.SaysWide.{says_wide_by}
use Rattle.register.proofs.BeforeWide.{wide_byte, as_before_wide_in_job, as_before_wide, few_choices}
use Rattle.plan.specs.declared.CostAnswer.{CostAnswer}
use Rattle.plan.specs.Plan.{cost}
use Rattle.plan.specs.Chosen.{chosen}
use Rattle.plan.specs.Format.{plan_by_itself}
use Rattle.plan.specs.Encoding.{BeginsWide}
use Rattle.plan.specs.BeforeWide.{plan_by_itself_before_wide}
use Rattle.plan.specs.Answer.{refused_cost, accepted_cost, cost_answer}
use Rattle.plan.proofs.BeforeWide.{plan_as_before_wide_in_job, plan_as_before_wide}
use Rattle.scheme.specs.declared.Scheme.{Scheme}
use Rattle.scheme.specs.Format.{scheme_by_itself}
use Rattle.scheme.specs.Answer.{open_parts, refused_answer, accepted_answer}
use Rattle.scheme.specs.BeforeWide.{by_itself_before_wide as scheme_by_itself_before_wide}
use Rattle.scheme.proofs.BeforeWide as S
use Rattle.penalty.specs.Answer.{penalty_answer, penalty_table}
use Rattle.bound.specs.Opening.{open_plan, open_chosen}
use Rattle.bound.specs.Check.{check_answer, check_table}
use Rattle.plain.specs.Answer.{plain_answer, plain_buffer}
use Rattle.builder.specs.Builder.{Built, build}
use Rattle.builder.specs.Answer.{built_answer, built_buffer}
use Rattle.builder.specs.BeforeWide.{build_before_wide}
use Rattle.builder.proofs.BeforeWide as B
use Rattle.search.specs.Answer.{search_answer}
use Rattle.soundness.specs.Calls.{register_call, scheme_call, cost_call, penalty_call, check_call, plain_call, build_call, search_call}
use Rattle.soundness.specs.BeforeMoreChoices.{open_before_wide, open_plan_before_wide, open_chosen_before_wide, scheme_before_wide, cost_before_wide, penalty_before_wide, check_before_wide, plain_before_wide, build_before_wide_call, search_before_wide, SaysNoMore, CallsAsBeforeWide, AsBeforeWide}

module _ (t : List ℕ) (no_more : SaysNoMore t) where
  read_same : register_by_itself t ≡ by_itself_before_wide t
  read_same = as_before_wide t no_more.0 no_more.1

  few : (register_call t).register.choices ≤ max_choices_before
  unfolding fresh
  few = go (register_by_itself t) refl
    where
      go : (x : Reading (Progress Register)) → register_by_itself t ≡ x → (register_answer x).register.choices ≤ max_choices_before
      go (refused n at) e = omega arith
      go (accepted p end) e = few_choices t no_more.0 no_more.1 e

  -- ---- part 2 with it, by what reading part 1 leads to
  module _ (s : List ℕ) where
    abbrev opens_by : (Register → Reading (Progress Scheme)) → Reading (Progress Register) → Outcome (Register × Scheme)
    opens_by reads x = and_then (given 1 x) λ reg. and_then (given 2 (reads reg)) λ sch. accepts (reg, sch)

    schemes_same : (x : Reading (Progress Register)) → register_by_itself t ≡ x → opens_by (λ reg. scheme_by_itself reg s) x ≡ opens_by (λ reg. scheme_by_itself_before_wide reg s) x
    schemes_same (refused n at) e = refl
    schemes_same (accepted p end) e =
        let y = S.as_before_wide p.parsed (few_choices t no_more.0 no_more.1 e) s in
        ap (λ y. and_then (given 2 y) λ sch. accepts (p.parsed, sch)) y

    opens : open_parts t s ≡ open_before_wide t s
    opens = rw read_same (schemes_same (by_itself_before_wide t) read_same)

    scheme_same : scheme_call t s ≡ scheme_before_wide t s
    scheme_same = ap (answer_by refused_answer accepted_answer) opens

    penalty_same : (lent : List ℤ) → penalty_call t s lent ≡ penalty_before_wide t s lent
    unfolding penalty_answer penalty_table
    penalty_same lent = rw opens refl

    -- and the plan that chooses
    module _ (k : List ℕ) (d : BeginsWide k → ⊥) where
      plans_same : (reg : Register) → open_plan reg k ≡ open_plan_before_wide reg k
      plans_same reg = rw (plan_as_before_wide reg k d)

      abbrev chosen_by : (Register → Outcome ℕ) → Outcome (Register × Scheme) → Outcome (Register × Scheme × ℕ)
      chosen_by plans x = and_then x λ (reg, sch). and_then (plans reg) λ p. accepts (reg, sch, p)

      choosing_same : (x : Outcome (Register × Scheme)) → chosen_by (λ reg. open_plan reg k) x ≡ chosen_by (λ reg. open_plan_before_wide reg k) x
      choosing_same (refuses n part at) = refl
      choosing_same (accepts (reg, sch)) = ap (λ x. and_then x λ p. accepts (reg, sch, p)) (plans_same reg)

      opens_chosen : open_chosen t s k ≡ open_chosen_before_wide t s k
      opens_chosen = choosing_same (open_parts t s) ∙ ap (chosen_by (λ reg. open_plan_before_wide reg k)) opens

      check_same : (certificate : List ℕ) (lent : List ℤ) → check_call t s certificate k lent ≡ check_before_wide t s certificate k lent
      unfolding check_answer check_table
      check_same certificate lent = rw opens_chosen refl

      plain_same : (lent : List ℕ) → plain_call t s k lent ≡ plain_before_wide t s k lent
      unfolding plain_answer plain_buffer
      plain_same lent = rw opens_chosen refl

  -- ---- part 4 with it
  module _ (s : List ℕ) (d : BeginsWide s → ⊥) where
    abbrev costs_by : (Register → Reading (Progress ℕ)) → Reading (Progress Register) → CostAnswer
    costs_by reads x = answer_by refused_cost accepted_cost (and_then (given 1 x) λ reg. and_then (given 4 (reads reg)) λ p. accepts (cost (chosen reg p) reg p))

    costs_same : (x : Reading (Progress Register)) → costs_by (λ reg. plan_by_itself reg s) x ≡ costs_by (λ reg. plan_by_itself_before_wide reg s) x
    costs_same (refused n at) = refl
    costs_same (accepted p end) =
        ap (λ y. answer_by refused_cost accepted_cost (and_then (given 4 y) λ q. accepts (cost (chosen p.parsed q) p.parsed q))) (plan_as_before_wide p.parsed s d)

    cost_same : cost_call t s ≡ cost_before_wide t s
    unfolding cost_answer
    cost_same = rw read_same (costs_same (by_itself_before_wide t))

  -- ---- what is built of it
  module _ (lent : List ℕ) where
    abbrev builds_by : (Register → Built) → Reading (Progress Register) → WriterAnswer × List ℕ
    builds_by builds x = (
      answer_by W.refused_answer (λ reg. built_answer t reg lent (builds reg)) (given 1 x),
      answer_by (λ number part at. lent) (λ reg. built_buffer reg lent (builds reg)) (given 1 x),
    )

    builds_same : (x : Reading (Progress Register)) → register_by_itself t ≡ x → builds_by build x ≡ builds_by build_before_wide x
    builds_same (refused n at) e = refl
    builds_same (accepted p end) e = rw (B.as_before_wide p.parsed (few_choices t no_more.0 no_more.1 e))

    build_same : build_call t lent ≡ build_before_wide_call t lent
    build_same = builds_same (register_by_itself t) refl ∙ ap (builds_by build_before_wide) read_same

  search_same : (limit : ℕ) → search_call t limit ≡ search_before_wide t limit
  unfolding search_answer
  search_same limit = rw read_same refl

pub calls_as_before_wide : CallsAsBeforeWide register_call scheme_call cost_call penalty_call check_call plain_call build_call search_call
calls_as_before_wide = record {
  registers = λ register n. ap register_answer (read_same register n);
  schemes = λ register scheme n. scheme_same register n scheme;
  costs = λ register plan n. cost_same register n plan;
  penalties = λ register scheme lent n. penalty_same register n scheme lent;
  checks = λ register scheme certificate plan lent n d. check_same register n scheme plan d certificate lent;
  plains = λ register scheme plan lent n d. plain_same register n scheme plan d lent;
  builds = λ register lent n. build_same register n lent;
  searches = λ register limit n. search_same register n limit;
  few = few;
}

pub kept_before_wide : AsBeforeWide
kept_before_wide = record {
  wide_byte = wide_byte;
  says_wide = λ register rest reg wide v fits e. says_wide_by reg wide v fits register rest e;
  says_more = λ register rest reg p. said_in_job (register ++ rest) (reached 0x1F reg) (length register) (R.register_accepted reg register rest p.conditions p.bytes);
  part_1_in_job = λ s n. as_before_wide_in_job s n.0 n.1;
  part_1_by_itself = read_same;
  part_2_in_job = S.as_before_wide_in_job;
  part_2_by_itself = S.as_before_wide;
  opens = λ register scheme n. opens register n scheme;
  part_4_in_job = plan_as_before_wide_in_job;
  part_4_by_itself = plan_as_before_wide;
  builds = B.as_before_wide;
}
