-- A register with one choice and one term, whose coefficient is from −5 to 0, and its plan that feeds the choice. The cost that the search
-- shows is of the low coefficient, and so below both what the cost call answers and the bound of our own certificate, which are of the
-- coefficient that the plan chooses.
use Prim.Native.Nat.{ℕ, ◌≤◌}
use mathlib.Core.Path.{◌≡◌, refl}
use mathlib.Core.List.{List, [], ◌∷◌, flat_map}
use lib.IntN.{ℤ, pos, negsuc}
use lib.ListN.{length}
use borrow.Author.Tests.{le-ltb}
use Rattle.integers.specs.Integer.{abs}
use Rattle.integers.specs.Lists.{join_below, all_below, comes_before}
use Rattle.integers.specs.Sum.{sum_below, sum_over, except}
use Rattle.integers.specs.Quadratic.{off_diagonal}
use Rattle.integers.specs.CeilDiv.{ceil_div}
use Rattle.sets.specs.Sets.{is_member, is_subset, is_proper_subset}
use Rattle.forms.specs.Form.{times, entry, coefficient_of}
use Rattle.forms.specs.Table.{table_numbers}
use Rattle.wire.specs.Number.{nat_at, little, bytes_of}
use Rattle.wire.specs.Checks.{refusal, command_checks}
use Rattle.wire.specs.Part.{operands_at, total, checks_at, after_at, command, step, run, follow, read_from, read_part, by_itself}
use Rattle.wire.specs.Rows.{row_of}
use Rattle.wire.specs.Outcome.{accepts, and_then, answer_by}
use Rattle.register.specs.Register as Reg
use Rattle.register.specs.Format.{base_checks, choice_checks, range_checks, register_in_job, register_by_itself}
use Rattle.register.specs.Format as RegFormat
use Rattle.scheme.specs.Scheme as Sch
use Rattle.scheme.specs.Variables.{up_to, upward, E}
use Rattle.scheme.specs.Function.{term, g}
use Rattle.scheme.specs.Format.{is_new, product_checks, split_checks, scheme_in_job, scheme_by_itself}
use Rattle.scheme.specs.Format as SchFormat
use Rattle.plan.specs.Plan.{cost}
use Rattle.plan.specs.Fits.{fits_rows}
use Rattle.plan.specs.Format.{plan_checks, plan_in_job, plan_by_itself}
use Rattle.plan.specs.Answer.{cost_answer}
use Rattle.search.specs.Sum.{sum}
use Rattle.search.specs.Walk.{walk}
use Rattle.search.specs.Answer.{search, search_answer}
use Rattle.certificate.specs.Rules.{by_key, arity, rule_of}
use Rattle.residual.specs.Residual.{null_part, subtracted_part, null_forms, subtracted_forms, reformulated, shifted, R}
use Rattle.bound.specs.Bound.{row_holds, carries, bound}
use Rattle.certificate.specs.Format.{scale_checks, multiplier_checks, square_checks, commands_in_job}
use Rattle.certificate.specs.Encoding.{encode_scale, encode_multiplier}
use Rattle.bound.specs.Format.{dominance_checked, certificate_in_job, certificate_by_itself}
use Rattle.bound.specs.Opening.{open_chosen}
use Rattle.bound.specs.Check.{refused_answer, accepted_answer, open_certificate, check_answer}
use Rattle.plain.specs.Plain.{unless_zero, cancelling, half_row_sum, linear_left, subtracted_constant, plain}
use Rattle.plain.specs.Encoding.{encode_with, encode_plain}
use Rattle.plain.specs.Answer.{own_bytes}

abbrev pub price_register : List ℕ
price_register =
    0x10 ∷ 0 ∷ 0 ∷ 0 ∷ 0
    ∷ 0x11 ∷ 1 ∷ 0 ∷ 0 ∷ 0
    ∷ 0x16 ∷ 1 ∷ 0 ∷ 0 ∷ 0 ∷ 0xFB ∷ 0xFF ∷ 0xFF ∷ 0xFF ∷ 0 ∷ 0 ∷ 0 ∷ 0
    ∷ 0x1F ∷ []

abbrev pub price_scheme : List ℕ
price_scheme = 0x22 ∷ 0 ∷ 0 ∷ 0x2F ∷ []

abbrev pub price_plan : List ℕ
price_plan = 0x40 ∷ 1 ∷ 0 ∷ 0 ∷ 0 ∷ []

abbrev pub price_own : List ℕ
price_own = 0x30 ∷ 1 ∷ 0 ∷ 0 ∷ 0 ∷ 0 ∷ 0 ∷ 0 ∷ 0 ∷ 0 ∷ 0 ∷ 0 ∷ 0 ∷ 0x3F ∷ []

pub price_costed : cost_answer price_register price_plan ≡ record { number = 0; part = 0; position = 0; cost = pos 0 }
unfolding cost_answer cost sum_below is_subset fits_rows all_below plan_by_itself plan_in_job plan_checks register_by_itself register_in_job by_itself read_part read_from run follow step command command_checks checks_at after_at operands_at total nat_at little refusal row_of Reg.fresh base_checks choice_checks range_checks RegFormat.end_checks comes_before
price_costed = refl

pub price_searched : search_answer price_register 3 ≡ record { number = 0; part = 0; position = 0; plan = 1; cost = negsuc 4; visits = 3 }
unfolding search_answer search walk sum sum_below fits_rows all_below is_subset register_by_itself register_in_job by_itself read_part read_from run follow step command command_checks checks_at after_at operands_at total nat_at little refusal row_of Reg.fresh base_checks choice_checks range_checks RegFormat.end_checks comes_before
price_searched = refl

-- our own certificate for the plan
pub price_written : and_then (open_chosen price_register price_scheme price_plan) (λ (reg, sch, p). accepts (own_bytes reg sch p)) ≡ accepts price_own
unfolding flat_map join_below all_below comes_before abs sum_below sum_over except off_diagonal is_subset fits_rows times entry nat_at little bytes_of refusal command_checks operands_at total checks_at after_at command step follow run read_from read_part by_itself row_of Reg.fresh base_checks choice_checks range_checks RegFormat.end_checks register_in_job register_by_itself Sch.fresh up_to upward E term g is_new product_checks split_checks SchFormat.end_checks scheme_in_job scheme_by_itself plan_checks plan_in_job plan_by_itself encode_plain encode_with encode_scale plain unless_zero cancelling half_row_sum linear_left subtracted_constant coefficient_of encode_multiplier
price_written = refl

read : answer_by refused_answer accepted_answer (open_certificate price_register price_scheme price_own price_plan) ≡ record { number = 0; part = 0; position = 0; bound = pos 0 }
unfolding flat_map join_below all_below comes_before abs sum_below sum_over except off_diagonal ceil_div is_member is_subset is_proper_subset fits_rows times entry nat_at little refusal command_checks operands_at total checks_at after_at command step follow run read_from read_part by_itself row_of Reg.fresh base_checks choice_checks range_checks RegFormat.end_checks register_in_job register_by_itself Sch.fresh up_to upward E term g is_new product_checks split_checks SchFormat.end_checks scheme_in_job scheme_by_itself plan_checks plan_in_job plan_by_itself by_key arity rule_of null_part subtracted_part null_forms subtracted_forms reformulated shifted R row_holds carries bound scale_checks multiplier_checks square_checks commands_in_job dominance_checked certificate_in_job certificate_by_itself
read = refl

-- accepted beside the plan with bound 0, with every table long enough
pub price_checked : (lent : List ℤ) → table_numbers ≤ length lent → check_answer price_register price_scheme price_own price_plan lent ≡ record { number = 0; part = 0; position = 0; bound = pos 0 }
unfolding check_answer
price_checked lent l = rw (le-ltb (length lent) table_numbers l) read
