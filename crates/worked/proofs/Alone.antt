-- The parts 1 and 2 of the worked set, and those in which two ways lead to a product, read by the calls for one part.
use Prim.Native.Nat.{ℕ}
use mathlib.Core.Path.{◌≡◌, refl}
use mathlib.Core.List.{List, [], ◌∷◌}
use lib.IntN.{negsuc}
use Rattle.integers.specs.Lists.{all_below, comes_before}
use Rattle.wire.specs.Number.{nat_at, little}
use Rattle.wire.specs.Checks.{refusal, command_checks}
use Rattle.wire.specs.Part.{operands_at, total, checks_at, after_at, command, step, run, follow, read_from, read_part, by_itself}
use Rattle.wire.specs.Rows.{row_of}
use Rattle.register.specs.Register as Reg
use Rattle.register.specs.Format.{base_checks, choice_checks, term_checks, register_in_job, register_by_itself}
use Rattle.register.specs.Format as RegFormat
use Rattle.register.specs.Answer.{register_answer}
use Rattle.register.proofs.Example.{register_bytes, example_register}
use Rattle.scheme.specs.Scheme as Sch
use Rattle.scheme.specs.Variables.{up_to, upward, E}
use Rattle.scheme.specs.Format.{is_new, product_checks, split_checks, scheme_in_job, scheme_by_itself}
use Rattle.scheme.specs.Format as SchFormat
use Rattle.scheme.specs.Answer.{scheme_answer}
use Rattle.scheme.proofs.Example.{built_scheme}
use Rattle.builder.proofs.Worked.{w3_bytes, five, five_bytes, five_scheme, w4_bytes}
use Rattle.penalty.proofs.Worked.{four, two_ways_scheme}

pub example_register_read : register_answer (register_by_itself register_bytes) ≡ record { number = 0; part = 0; position = 0; register = example_register }
unfolding comes_before nat_at little refusal command_checks operands_at total checks_at after_at command step follow run read_from read_part by_itself row_of Reg.fresh base_checks choice_checks term_checks RegFormat.end_checks register_in_job register_by_itself
example_register_read = refl

pub w4_register : register_answer (register_by_itself five_bytes) ≡ record { number = 0; part = 0; position = 0; register = five }
unfolding comes_before nat_at little refusal command_checks operands_at total checks_at after_at command step follow run read_from read_part by_itself row_of Reg.fresh base_checks choice_checks term_checks RegFormat.end_checks register_in_job register_by_itself
w4_register = refl

pub w3_scheme : scheme_answer register_bytes w3_bytes ≡ record { number = 0; part = 0; position = 0; scheme = built_scheme }
unfolding all_below comes_before nat_at little refusal command_checks operands_at total checks_at after_at command step follow run read_from read_part by_itself row_of Reg.fresh base_checks choice_checks term_checks RegFormat.end_checks register_in_job register_by_itself Sch.fresh up_to upward E is_new product_checks split_checks SchFormat.end_checks scheme_in_job scheme_by_itself
w3_scheme = refl

pub w4_scheme : scheme_answer five_bytes w4_bytes ≡ record { number = 0; part = 0; position = 0; scheme = five_scheme }
unfolding all_below comes_before nat_at little refusal command_checks operands_at total checks_at after_at command step follow run read_from read_part by_itself row_of Reg.fresh base_checks choice_checks term_checks RegFormat.end_checks register_in_job register_by_itself Sch.fresh up_to upward E is_new product_checks split_checks SchFormat.end_checks scheme_in_job scheme_by_itself
w4_scheme = refl

-- ---- four choices, and one term of all of them, its coefficient −7

abbrev pub four_bytes : List ℕ
four_bytes =
    0x10 ∷ 0 ∷ 0 ∷ 0 ∷ 0
    ∷ 0x11 ∷ 1 ∷ 0 ∷ 0 ∷ 0 ∷ 0x11 ∷ 1 ∷ 0 ∷ 1 ∷ 0 ∷ 0x11 ∷ 1 ∷ 0 ∷ 2 ∷ 0 ∷ 0x11 ∷ 1 ∷ 0 ∷ 3 ∷ 0
    ∷ 0x12 ∷ 15 ∷ 0 ∷ 0 ∷ 0 ∷ 0xF9 ∷ 0xFF ∷ 0xFF ∷ 0xFF
    ∷ 0x1F ∷ []

abbrev pub two_ways_bytes : List ℕ
two_ways_bytes = 0x21 ∷ 0 ∷ 1 ∷ 0x21 ∷ 2 ∷ 4 ∷ 0x21 ∷ 3 ∷ 4 ∷ 0x21 ∷ 5 ∷ 6 ∷ 0x22 ∷ 7 ∷ 7 ∷ 0x2F ∷ []

pub two_ways_register : register_answer (register_by_itself four_bytes) ≡ record { number = 0; part = 0; position = 0; register = four (negsuc 6) }
unfolding comes_before nat_at little refusal command_checks operands_at total checks_at after_at command step follow run read_from read_part by_itself row_of Reg.fresh base_checks choice_checks term_checks RegFormat.end_checks register_in_job register_by_itself
two_ways_register = refl

pub two_ways_read : scheme_answer four_bytes two_ways_bytes ≡ record { number = 0; part = 0; position = 0; scheme = two_ways_scheme }
unfolding all_below comes_before nat_at little refusal command_checks operands_at total checks_at after_at command step follow run read_from read_part by_itself row_of Reg.fresh base_checks choice_checks term_checks RegFormat.end_checks register_in_job register_by_itself Sch.fresh up_to upward E is_new product_checks split_checks SchFormat.end_checks scheme_in_job scheme_by_itself
two_ways_read = refl
