-- The row of the paper's worked set that speaks of cost, and the answers of the cost call on the example's register.
use mathlib.Core.Path.{◌≡◌, refl}
use mathlib.Core.List.{List, [], ◌∷◌, ◌++◌, map}
use Prim.Native.Nat.{ℕ, ◌^◌}
use lib.IntN.{pos}
use Rattle.integers.specs.Lists.{all_below, comes_before}
use Rattle.integers.specs.Sum.{sum_below}
use Rattle.sets.specs.Sets.{is_subset}
use Rattle.wire.specs.Number.{nat_at, little, bytes_of}
use Rattle.wire.specs.Checks.{refusal, command_checks}
use Rattle.wire.specs.Part.{operands_at, total, checks_at, after_at, command, step, follow, run, read_from, read_part, by_itself}
use Rattle.wire.specs.Rows.{row_of}
use Rattle.register.specs.Limits.{narrow_choices}
use Rattle.register.specs.Register.{fresh}
use Rattle.register.specs.Format.{base_checks, choice_checks, term_checks, end_checks, register_in_job, register_by_itself}
use Rattle.register.proofs.Example.{register_bytes}
use Rattle.plan.specs.declared.CostAnswer.{CostAnswer}
use Rattle.plan.specs.Plan.{cost}
use Rattle.plan.specs.Fits.{fits_rows}
use Rattle.plan.specs.Format.{plan_checks, plan_in_job, plan_by_itself}
use Rattle.plan.specs.Encoding.{encode_narrow_plan, encode_wide_plan, encode_plan}
use Rattle.plan.specs.Answer.{refused_cost, accepted_cost, cost_answer}

abbrev answer : List ℕ × List ℕ → CostAnswer
answer runs = cost_answer runs.0 runs.1

-- W2: the empty plan, the example's plan and the full one
pub w2 : map (λ p. answer (register_bytes, encode_plan p)) (0 ∷ 3 ∷ 7 ∷ []) ≡ map accepted_cost (pos 10 ∷ pos 0 ∷ pos 5 ∷ [])
unfolding cost_answer cost sum_below is_subset encode_plan encode_narrow_plan encode_wide_plan bytes_of fits_rows all_below plan_by_itself plan_in_job plan_checks register_by_itself register_in_job by_itself read_part read_from run follow step command command_checks checks_at after_at operands_at total nat_at little refusal row_of fresh base_checks choice_checks term_checks end_checks comes_before
w2 = refl

-- the same with `41`
pub w2_wide : map (λ p. answer (register_bytes, encode_wide_plan p)) (0 ∷ 3 ∷ 7 ∷ []) ≡ map accepted_cost (pos 10 ∷ pos 0 ∷ pos 5 ∷ [])
unfolding cost_answer cost sum_below is_subset encode_plan encode_narrow_plan encode_wide_plan bytes_of fits_rows all_below plan_by_itself plan_in_job plan_checks register_by_itself register_in_job by_itself read_part read_from run follow step command command_checks checks_at after_at operands_at total nat_at little refusal row_of fresh base_checks choice_checks term_checks end_checks comes_before
w2_wide = refl

-- refusals: no plan; another byte; a plan cut short, of either command; a fourth choice, and one past the first 32; a byte after the plan;
-- a byte after the register, which is found before the plan is opened; and the register's own
refusals : map answer
    ((register_bytes, [])
    ∷ (register_bytes, 0x42 ∷ [])
    ∷ (register_bytes, 0x40 ∷ 8 ∷ 0 ∷ 0 ∷ [])
    ∷ (register_bytes, 0x41 ∷ 8 ∷ 0 ∷ 0 ∷ 0 ∷ 0 ∷ 0 ∷ 0 ∷ [])
    ∷ (register_bytes, encode_plan 8)
    ∷ (register_bytes, encode_plan (2 ^ narrow_choices))
    ∷ (register_bytes, encode_plan 8 ++ (0 ∷ []))
    ∷ (register_bytes, encode_plan 3 ++ (0 ∷ []))
    ∷ (register_bytes, encode_wide_plan 3 ++ (0 ∷ []))
    ∷ (register_bytes ++ (0 ∷ []), [])
    ∷ (0x7E ∷ [], [])
    ∷ [])
    ≡ refused_cost 2 4 0
    ∷ refused_cost 1 4 0
    ∷ refused_cost 2 4 0
    ∷ refused_cost 2 4 0
    ∷ refused_cost 5 4 0
    ∷ refused_cost 5 4 0
    ∷ refused_cost 5 4 0
    ∷ refused_cost 12 4 5
    ∷ refused_cost 12 4 9
    ∷ refused_cost 12 1 48
    ∷ refused_cost 1 1 0
    ∷ []
unfolding cost_answer cost sum_below is_subset encode_plan encode_narrow_plan encode_wide_plan bytes_of fits_rows all_below plan_by_itself plan_in_job plan_checks register_by_itself register_in_job by_itself read_part read_from run follow step command command_checks checks_at after_at operands_at total nat_at little refusal row_of fresh base_checks choice_checks term_checks end_checks comes_before
refusals = refl
