-- W7 through the check: the bytes of our own certificate, and those with a smaller multiplier in both `31`.
use mathlib.Core.Path.{◌≡◌, refl}
use mathlib.Core.List.{List, [], ◌∷◌, map, flat_map}
use Prim.Native.Nat.{ℕ, ◌≤◌}
use lib.IntN.{ℤ, negsuc}
use lib.ListN.{length}
use borrow.Author.Tests.{le-ltb}
use Rattle.integers.specs.Integer.{abs}
use Rattle.integers.specs.Lists.{join_below, all_below, comes_before}
use Rattle.integers.specs.Sum.{sum_below, sum_over, except}
use Rattle.integers.specs.Quadratic.{off_diagonal}
use Rattle.integers.specs.CeilDiv.{ceil_div}
use Rattle.sets.specs.Sets.{is_member, is_subset, is_proper_subset}
use Rattle.forms.specs.Form.{times, entry}
use Rattle.forms.specs.Table.{table_numbers}
use Rattle.wire.specs.Number.{nat_at, little}
use Rattle.wire.specs.Checks.{refusal, command_checks}
use Rattle.wire.specs.Part.{operands_at, total, checks_at, after_at, command, step, run, follow, read_from, read_part, by_itself}
use Rattle.wire.specs.Rows.{row_of}
use Rattle.wire.specs.Outcome.{answer_by}
use Rattle.register.specs.Register as Reg
use Rattle.register.specs.Format.{base_checks, choice_checks, term_checks, register_in_job, register_by_itself}
use Rattle.register.specs.Format as RegFormat
use Rattle.register.proofs.Example.{register_bytes}
use Rattle.scheme.specs.Scheme as Sch
use Rattle.scheme.specs.Variables.{up_to, upward, E}
use Rattle.scheme.specs.Function.{term, g}
use Rattle.scheme.specs.Format.{is_new, product_checks, split_checks, scheme_in_job, scheme_by_itself}
use Rattle.scheme.specs.Format as SchFormat
use Rattle.builder.proofs.Worked.{w3_bytes}
use Rattle.bound.specs.declared.CheckAnswer.{CheckAnswer}
use Rattle.certificate.specs.Rules.{by_key, arity, rule_of}
use Rattle.residual.specs.Residual.{null_part, subtracted_part, null_forms, subtracted_forms, reformulated, shifted, R}
use Rattle.bound.specs.Bound.{row_holds, carries, bound}
use Rattle.certificate.specs.Format.{scale_checks, multiplier_checks, square_checks, commands_in_job}
use Rattle.bound.specs.Format.{dominance_checked, certificate_in_job, certificate_by_itself}
use Rattle.bound.specs.Check.{refused_answer, accepted_answer, open_certificate, check_answer}
use Rattle.plain.proofs.Worked.{w7_bytes}

-- accepted with bound −6; refused 9 at `3F`
abbrev pub answers : List CheckAnswer
answers = record { number = 0; part = 0; position = 0; bound = negsuc 5 } ∷ refused_answer 9 3 73 ∷ []

-- no term has a range, so any bytes may stand for the plan
read : (plan : List ℕ) → map (λ m. answer_by refused_answer accepted_answer (open_certificate register_bytes w3_bytes (w7_bytes m) plan)) (3 ∷ 2 ∷ []) ≡ answers
unfolding flat_map join_below all_below comes_before abs sum_below sum_over except off_diagonal ceil_div is_member is_subset is_proper_subset times entry nat_at little refusal command_checks operands_at total checks_at after_at command step follow run read_from read_part by_itself row_of Reg.fresh base_checks choice_checks term_checks RegFormat.end_checks register_in_job register_by_itself Sch.fresh up_to upward E term g is_new product_checks split_checks SchFormat.end_checks scheme_in_job scheme_by_itself by_key arity rule_of null_part subtracted_part null_forms subtracted_forms reformulated shifted R row_holds carries bound scale_checks multiplier_checks square_checks commands_in_job dominance_checked certificate_in_job certificate_by_itself
read plan = refl

-- with every table long enough
pub w7_checked : (plan : List ℕ) (lent : List ℤ) → table_numbers ≤ length lent → map (λ m. check_answer register_bytes w3_bytes (w7_bytes m) plan lent) (3 ∷ 2 ∷ []) ≡ answers
unfolding check_answer
w7_checked plan lent l = rw (le-ltb (length lent) table_numbers l) (read plan)
