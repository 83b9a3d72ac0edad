-- The calls before forty-eight choices, which had at most 32 choices, no `15` and no `41`. Parts 1, 2 and 4 were read as `BeforeWide` of
-- their crates has it, and the builder made products until it needed a 33rd. What the parts are, how part 3 is read and the forms of the
-- answers are those of today, and so `23`, which came later, is read as today. The calls that are given parts by themselves answer and hand
-- back what they did then, where part 1 says no `15` and no 33rd choice and part 4, where they are given it, does not begin with `41`. Of
-- the job call and the listing calls it is said how each part of a job is read.
use Rattle.std.specs.Prelude.{ℕ, ◌≤◌, ◌<◌, ◌≡◌, ◌↔◌, Bool, true, not, ◌&&◌, cond, List, ◌++◌, ltb, ℤ, length}
use Rattle.integers.specs.Lists.{any_below}
use Rattle.wire.specs.declared.WriterAnswer.{WriterAnswer}
use Rattle.wire.specs.Outcome.{Outcome, accepts, given, and_then, answer_by}
use Rattle.wire.specs.Writer as W
use Rattle.forms.specs.Table.{table_numbers}
use Rattle.register.specs.declared.Register.{Register}
use Rattle.register.specs.Register.{coefficient, is_range, has_range}
use Rattle.register.specs.Valid.{Valid}
use Rattle.register.specs.Encoding.{HasByte, Sayable, EncodedBy, SaysWide, SaysMoreChoices}
use Rattle.register.specs.Format.{register_in_job, register_by_itself}
use Rattle.register.specs.Answer.{register_answer}
use Rattle.register.specs.BeforeWide.{max_choices_before, in_job_before_wide, by_itself_before_wide}
use Rattle.plan.specs.declared.CostAnswer.{CostAnswer}
use Rattle.plan.specs.Plan.{cost}
use Rattle.plan.specs.Chosen.{chosen}
use Rattle.plan.specs.Encoding.{BeginsWide}
use Rattle.plan.specs.Format.{plan_in_job, plan_by_itself}
use Rattle.plan.specs.Answer.{refused_cost, accepted_cost}
use Rattle.plan.specs.BeforeWide.{plan_in_job_before_wide, plan_by_itself_before_wide}
use Rattle.scheme.specs.declared.Scheme.{Scheme}
use Rattle.scheme.specs.declared.SchemeAnswer.{SchemeAnswer}
use Rattle.scheme.specs.Format.{scheme_in_job, scheme_by_itself}
use Rattle.scheme.specs.Answer.{open_parts, refused_answer, accepted_answer}
use Rattle.scheme.specs.BeforeWide as S
use Rattle.penalty.specs.declared.PenaltyAnswer.{PenaltyAnswer}
use Rattle.penalty.specs.Answer.{answer, with_penalty}
use Rattle.certificate.specs.Format.{commands_in_job}
use Rattle.bound.specs.declared.CheckAnswer.{CheckAnswer}
use Rattle.bound.specs.Format.{certificate_by_itself}
use Rattle.bound.specs.Check as C
use Rattle.plain.specs.Answer.{own_bytes}
use Rattle.builder.specs.Builder.{build}
use Rattle.builder.specs.Answer.{built_answer, built_buffer}
use Rattle.builder.specs.BeforeWide.{build_before_wide}
use Rattle.search.specs.declared.SearchAnswer.{SearchAnswer}
use Rattle.search.specs.Answer.{search, within_limit, refused_search, accepted_search}
use Rattle.soundness.specs.Calls.{RegisterCall, SchemeCall, CostCall, PenaltyCall, CheckCall, PlainCall, BuildCall, SearchCall}
use Rattle.soundness.specs.Parts.{Part1}

-- ---- the calls that are given parts by themselves

abbrev pub open_before_wide : (register scheme : List ℕ) → Outcome (Register × Scheme)
open_before_wide register scheme =
    and_then (given 1 (by_itself_before_wide register)) λ reg. and_then (given 2 (S.by_itself_before_wide reg scheme)) λ sch. accepts (reg, sch)

-- with the plan that chooses the coefficients, which of a register without a range is not looked at

abbrev pub open_plan_before_wide : Register → List ℕ → Outcome ℕ
open_plan_before_wide reg plan = cond (has_range reg) (given 4 (plan_by_itself_before_wide reg plan)) (accepts 0)

abbrev pub open_chosen_before_wide : (register scheme plan : List ℕ) → Outcome (Register × Scheme × ℕ)
open_chosen_before_wide register scheme plan =
    and_then (open_before_wide register scheme) λ (reg, sch). and_then (open_plan_before_wide reg plan) λ p. accepts (reg, sch, p)

abbrev pub scheme_before_wide : (register scheme : List ℕ) → SchemeAnswer
scheme_before_wide register scheme = answer_by refused_answer accepted_answer (open_before_wide register scheme)

abbrev pub cost_before_wide : (register plan : List ℕ) → CostAnswer
cost_before_wide register plan =
    answer_by refused_cost accepted_cost
    (and_then (given 1 (by_itself_before_wide register)) λ reg. and_then (given 4 (plan_by_itself_before_wide reg plan)) λ p. accepts (cost (chosen reg p) reg p))

abbrev pub penalty_before_wide : (register scheme : List ℕ) → List ℤ → PenaltyAnswer × List ℤ
penalty_before_wide register scheme lent =
    let opened = open_before_wide register scheme in (
      cond (ltb (length lent) table_numbers) (answer 11 0 0) (answer_by answer (λ parts. answer 0 0 0) opened),
      cond (ltb (length lent) table_numbers) lent (answer_by (λ number part at. lent) (λ (reg, sch). with_penalty reg sch lent) opened),
    )

abbrev pub check_before_wide : (register scheme certificate plan : List ℕ) → List ℤ → CheckAnswer × List ℤ
check_before_wide register scheme certificate plan lent =
    let opened = open_chosen_before_wide register scheme plan in (
      cond (ltb (length lent) table_numbers) (C.refused_answer 11 0 0)
          (answer_by C.refused_answer C.accepted_answer (and_then opened λ (reg, sch, p). given 3 (certificate_by_itself (chosen reg p) reg sch certificate))),
      cond (ltb (length lent) table_numbers) lent
          (answer_by (λ number part at. lent) (λ (reg, sch, p). C.with_residual (chosen reg p) reg sch (commands_in_job reg sch certificate) lent) opened),
    )

abbrev pub plain_before_wide : (register scheme plan lent : List ℕ) → WriterAnswer × List ℕ
plain_before_wide register scheme plan lent =
    let opened = open_chosen_before_wide register scheme plan in (
      answer_by W.refused_answer (λ (reg, sch, p). W.bytes_answer (own_bytes reg sch p) lent) opened,
      answer_by (λ number part at. lent) (λ (reg, sch, p). W.with_front (own_bytes reg sch p) lent) opened,
    )

abbrev pub build_before_wide_call : (register lent : List ℕ) → WriterAnswer × List ℕ
build_before_wide_call register lent =
    let opened = given 1 (by_itself_before_wide register) in (
      answer_by W.refused_answer (λ reg. built_answer register reg lent (build_before_wide reg)) opened,
      answer_by (λ number part at. lent) (λ reg. built_buffer reg lent (build_before_wide reg)) opened,
    )

abbrev pub search_before_wide : List ℕ → (limit : ℕ) → SearchAnswer
search_before_wide register limit =
    answer_by refused_search accepted_search (and_then (given 1 (by_itself_before_wide register)) λ reg. within_limit limit (search (coefficient reg) reg))

-- ---- the promises

-- part 1 says no `15` and no 33rd choice
abbrev pub SaysNoMore : List ℕ → Type 0
SaysNoMore s = (SaysWide s → ⊥) × (SaysMoreChoices s → ⊥)

-- each call that is given part 1 by itself answers such bytes as it did, whether it accepts or refuses them, and leaves in the lent table
-- or buffer what it left. Where it is given part 4 too, this is said of a part 4 that does not begin with `41`
pub record CallsAsBeforeWide (register_call : RegisterCall) (scheme_call : SchemeCall) (cost_call : CostCall) (penalty_call : PenaltyCall) (check_call : CheckCall) (plain_call : PlainCall) (build_call : BuildCall) (search_call : SearchCall) : Type 0 where
  pub registers : (register : List ℕ) → SaysNoMore register → register_call register ≡ register_answer (by_itself_before_wide register)
  pub schemes : (register scheme : List ℕ) → SaysNoMore register → scheme_call register scheme ≡ scheme_before_wide register scheme
  pub costs : (register plan : List ℕ) → SaysNoMore register → (BeginsWide plan → ⊥) → cost_call register plan ≡ cost_before_wide register plan
  pub penalties : (register scheme : List ℕ) (table : List ℤ) → SaysNoMore register → penalty_call register scheme table ≡ penalty_before_wide register scheme table
  pub checks : (register scheme certificate plan : List ℕ) (table : List ℤ) → SaysNoMore register → (BeginsWide plan → ⊥) →
      check_call register scheme certificate plan table ≡ check_before_wide register scheme certificate plan table
  pub plains : (register scheme plan lent : List ℕ) → SaysNoMore register → (BeginsWide plan → ⊥) → plain_call register scheme plan lent ≡ plain_before_wide register scheme plan lent
  pub builds : (register lent : List ℕ) → SaysNoMore register → build_call register lent ≡ build_before_wide_call register lent
  pub searches : (register : List ℕ) (limit : ℕ) → SaysNoMore register → search_call register limit ≡ search_before_wide register limit
  -- and then there are at most 32 choices
  pub few : (register : List ℕ) → SaysNoMore register → (register_call register).register.choices ≤ max_choices_before

-- by the choice of forms, a term without a range is said by `15`
abbrev pub some_by_15 : (wide : ℕ → Bool) → Register → Bool
some_by_15 wide reg = any_below reg.terms (λ t. not (is_range reg t) && wide t)

-- Of no call in particular: each call reads part 1 at the front of a job or by itself, parts 2 and 4 likewise, with the register, and the
-- builder is given a register. The job call and the listing calls read the parts of a job as `part_1_in_job`, `part_2_in_job` and
-- `part_4_in_job` have it, and part 3 as today.
pub record AsBeforeWide : Type 0 where
  -- bytes that say a `15` have a byte `15`
  pub wide_byte : (s : List ℕ) → SaysWide s → HasByte 0x15 s
  -- where part 1 is right, by itself or whatever stands behind it, a `15` is said just where a term is said by one, and a 33rd choice just
  -- where there is one
  pub says_wide : (register rest : List ℕ) (reg : Register) (wide : ℕ → Bool) → Valid reg → Sayable wide reg → EncodedBy wide reg register →
      SaysWide (register ++ rest) ↔ (some_by_15 wide reg ≡ true)
  pub says_more : (register rest : List ℕ) (reg : Register) → Part1 register reg → SaysMoreChoices (register ++ rest) ↔ (max_choices_before < reg.choices)
  pub part_1_in_job : (s : List ℕ) → SaysNoMore s → register_in_job s ≡ in_job_before_wide s
  pub part_1_by_itself : (s : List ℕ) → SaysNoMore s → register_by_itself s ≡ by_itself_before_wide s
  pub part_2_in_job : (reg : Register) → reg.choices ≤ max_choices_before → (s : List ℕ) → scheme_in_job reg s ≡ S.in_job_before_wide reg s
  pub part_2_by_itself : (reg : Register) → reg.choices ≤ max_choices_before → (s : List ℕ) → scheme_by_itself reg s ≡ S.by_itself_before_wide reg s
  -- so the calls that open parts 1 and 2 open what they did
  pub opens : (register scheme : List ℕ) → SaysNoMore register → open_parts register scheme ≡ open_before_wide register scheme
  pub part_4_in_job : (reg : Register) (s : List ℕ) → (BeginsWide s → ⊥) → plan_in_job reg s ≡ plan_in_job_before_wide reg s
  pub part_4_by_itself : (reg : Register) (s : List ℕ) → (BeginsWide s → ⊥) → plan_by_itself reg s ≡ plan_by_itself_before_wide reg s
  -- the builder makes what it made, or stops where it stopped
  pub builds : (reg : Register) → reg.choices ≤ max_choices_before → build reg ≡ build_before_wide reg
