-- Jobs of 48 choices: a register that has terms and a row, its plans and its schemes.
use Prim.Native.Nat.{ℕ, suc, ◌+◌, ◌-◌, ◌*◌, ◌^◌}
use mathlib.Core.Path.{◌≡◌, refl}
use mathlib.Core.Bool.{false}
use mathlib.Core.List.{List, [], ◌∷◌, ◌++◌, map}
use lib.IntN.{ℤ, pos, neg_ℤ}
use lib.ListN.{replicate}
use Rattle.integers.specs.Lists.{join_below, all_below, first_below, comes_before}
use Rattle.integers.specs.Sum.{sum_below}
use Rattle.sets.specs.Sets.{is_member, is_subset}
use Rattle.wire.specs.Number.{nat_at, little, bytes_of}
use Rattle.wire.specs.Checks.{refusal, command_checks}
use Rattle.wire.specs.Part.{operands_at, total, checks_at, after_at, command, step, run, follow, read_from, read_part, by_itself}
use Rattle.wire.specs.Rows.{row_of}
use Rattle.wire.specs.Walk.{positions_from, position_of}
use Rattle.wire.specs.Writer.{bytes_answer}
use Rattle.wire.specs.Writer as Writer
use Rattle.register.specs.declared.Register.{Register}
use Rattle.register.specs.Limits.{max_choices, max_terms, max_windows, max_rows, row_entries, usual_day}
use Rattle.register.specs.Register as Reg
use Rattle.register.specs.Format.{base_checks, choice_checks, term_checks, row_checks, register_in_job, register_by_itself}
use Rattle.register.specs.Format as RegFormat
use Rattle.register.specs.Position.{term_position}
use Rattle.register.specs.Answer as Register
use Rattle.register.specs.Answer.{register_answer}
use Rattle.scheme.specs.declared.Scheme.{Scheme}
use Rattle.scheme.specs.Scheme as Sch
use Rattle.scheme.specs.Scheme.{max_products}
use Rattle.scheme.specs.Variables.{up_to, upward, E}
use Rattle.scheme.specs.Format.{is_new, product_checks, split_checks, scheme_in_job, scheme_by_itself}
use Rattle.scheme.specs.Format as SchFormat
use Rattle.scheme.specs.Encoding.{encode_product, encode_split, encode_scheme}
use Rattle.scheme.specs.Answer.{scheme_answer}
use Rattle.scheme.specs.Answer as Scheme
use Rattle.plan.specs.Plan.{cost}
use Rattle.plan.specs.Fits.{fed_sum, fits_rows}
use Rattle.plan.specs.Format.{plan_checks, plan_in_job, plan_by_itself}
use Rattle.plan.specs.Answer.{refused_cost, accepted_cost, cost_answer}
use Rattle.builder.specs.Builder.{and_then, choices_of, first_with, join_pair, pair_up, reduce, split_of, build_term, build_from, build}
use Rattle.builder.specs.Builder as Builder
use Rattle.builder.specs.Answer.{build_answer, build_buffer}

-- ---- part 1

-- base cost 10, the choices of tank 1 at the first n minutes, and a row with total 1 whose entries are all 1: a plan fits where it feeds
-- exactly one of the choices 0 to 31
abbrev pub front : ℕ → List ℕ
front n = (0x10 ∷ 10 ∷ 0 ∷ 0 ∷ 0 ∷ []) ++ (join_below n (λ i. 0x11 ∷ 1 ∷ 0 ∷ i ∷ 0 ∷ []) ++ (0x14 ∷ 1 ∷ 0 ∷ replicate row_entries 1))

-- the term {0} with coefficient 3, in both forms

abbrev pub narrow_term : List ℕ
narrow_term = 0x12 ∷ 1 ∷ 0 ∷ 0 ∷ 0 ∷ 3 ∷ 0 ∷ 0 ∷ 0 ∷ []

abbrev pub wide_term : List ℕ
wide_term = 0x15 ∷ 1 ∷ 0 ∷ 0 ∷ 0 ∷ 0 ∷ 0 ∷ 0 ∷ 0 ∷ 3 ∷ 0 ∷ 0 ∷ 0 ∷ []

-- the terms {40}, {46, 47} and {45, 46, 47} with coefficients −5, 7 and 2, and the end
abbrev pub back : List ℕ
back =
    0x15 ∷ 0 ∷ 0 ∷ 0 ∷ 0 ∷ 0 ∷ 1 ∷ 0 ∷ 0 ∷ 0xFB ∷ 0xFF ∷ 0xFF ∷ 0xFF
    ∷ 0x15 ∷ 0 ∷ 0 ∷ 0 ∷ 0 ∷ 0 ∷ 0xC0 ∷ 0 ∷ 0 ∷ 7 ∷ 0 ∷ 0 ∷ 0
    ∷ 0x15 ∷ 0 ∷ 0 ∷ 0 ∷ 0 ∷ 0 ∷ 0xE0 ∷ 0 ∷ 0 ∷ 2 ∷ 0 ∷ 0 ∷ 0
    ∷ 0x1F ∷ []

abbrev pub large_register : List ℕ
large_register = front max_choices ++ (narrow_term ++ back)

abbrev pub large_coefficients : List ℤ
large_coefficients = pos 3 ∷ neg_ℤ (pos 5) ∷ pos 7 ∷ pos 2 ∷ replicate (max_terms - 4) (pos 0)

abbrev pub large : Register
large = record {
  base = pos 10;
  day_length = usual_day;
  choices = 48;
  terms = 4;
  tanks = replicate max_choices 1;
  minutes = join_below max_choices (λ i. i ∷ []);
  masks = 1 ∷ (2 ^ 40) ∷ (2 ^ 46 + 2 ^ 47) ∷ (2 ^ 45 + 2 ^ 46 + 2 ^ 47) ∷ replicate (max_terms - 4) 0;
  coefficients = large_coefficients;
  highs = large_coefficients;
  ranged = replicate max_terms false;
  windows = 0;
  window_tanks = replicate max_windows 0;
  window_froms = replicate max_windows 0;
  window_tos = replicate max_windows 0;
  rows = 1;
  row_totals = pos 1 ∷ replicate (max_rows - 1) (pos 0);
  row_entries = replicate row_entries (pos 1) ++ replicate ((max_rows - 1) * row_entries) (pos 0);
}

-- in both forms of the first term it is read as the same register; a 49th choice, and {0} again after {0}, are refused
pub large_read : map (λ s. register_answer (register_by_itself s))
    (large_register
    ∷ (front max_choices ++ (wide_term ++ back))
    ∷ front (suc max_choices)
    ∷ (front max_choices ++ (narrow_term ++ (wide_term ++ back)))
    ∷ [])
    ≡ record { number = 0; part = 0; position = 0; register = large }
    ∷ record { number = 0; part = 0; position = 0; register = large }
    ∷ Register.refused_answer 3 245
    ∷ Register.refused_answer 7 289
    ∷ []
unfolding join_below all_below comes_before nat_at little refusal command_checks operands_at total checks_at after_at command step follow run read_from read_part by_itself row_of Reg.fresh base_checks choice_checks term_checks row_checks RegFormat.end_checks register_in_job register_by_itself
large_read = refl

-- ---- part 4

-- the plans {0, 40, 46, 47}, {0, 46, 47} and {0, 40, 45, 46, 47} by `41`, and {0} by `40`
pub large_costed : map (λ p. cost_answer large_register p)
    ((0x41 ∷ 1 ∷ 0 ∷ 0 ∷ 0 ∷ 0 ∷ 0xC1 ∷ 0 ∷ 0 ∷ [])
    ∷ (0x41 ∷ 1 ∷ 0 ∷ 0 ∷ 0 ∷ 0 ∷ 0xC0 ∷ 0 ∷ 0 ∷ [])
    ∷ (0x41 ∷ 1 ∷ 0 ∷ 0 ∷ 0 ∷ 0 ∷ 0xE1 ∷ 0 ∷ 0 ∷ [])
    ∷ (0x40 ∷ 1 ∷ 0 ∷ 0 ∷ 0 ∷ [])
    ∷ [])
    ≡ map accepted_cost (pos 15 ∷ pos 20 ∷ pos 17 ∷ pos 13 ∷ [])
unfolding cost_answer cost sum_below is_subset is_member fed_sum fits_rows all_below plan_by_itself plan_in_job plan_checks join_below comes_before nat_at little refusal command_checks operands_at total checks_at after_at command step follow run read_from read_part by_itself row_of Reg.fresh base_checks choice_checks term_checks row_checks RegFormat.end_checks register_in_job register_by_itself
large_costed = refl

-- {0, 33}, which fits since choice 33 is in no row; {0, 1}, which does not; and {0, 48}
pub large_fitted : map (λ p. cost_answer large_register p)
    ((0x41 ∷ 1 ∷ 0 ∷ 0 ∷ 0 ∷ 2 ∷ 0 ∷ 0 ∷ 0 ∷ [])
    ∷ (0x40 ∷ 3 ∷ 0 ∷ 0 ∷ 0 ∷ [])
    ∷ (0x41 ∷ 1 ∷ 0 ∷ 0 ∷ 0 ∷ 0 ∷ 0 ∷ 1 ∷ 0 ∷ [])
    ∷ [])
    ≡ accepted_cost (pos 13) ∷ refused_cost 15 4 0 ∷ refused_cost 5 4 0 ∷ []
unfolding cost_answer cost sum_below is_subset is_member fed_sum fits_rows all_below plan_by_itself plan_in_job plan_checks join_below comes_before nat_at little refusal command_checks operands_at total checks_at after_at command step follow run read_from read_part by_itself row_of Reg.fresh base_checks choice_checks term_checks row_checks RegFormat.end_checks register_in_job register_by_itself
large_fitted = refl

-- ---- part 2

-- product 48 of the choices 46 and 47; splits 0 alone, 40 alone, 46 with 47, and 45 with the product
abbrev pub large_scheme_bytes : List ℕ
large_scheme_bytes = 0x21 ∷ 46 ∷ 47 ∷ 0x22 ∷ 0 ∷ 0 ∷ 0x22 ∷ 40 ∷ 40 ∷ 0x22 ∷ 46 ∷ 47 ∷ 0x22 ∷ 45 ∷ 48 ∷ 0x2F ∷ []

abbrev pub large_scheme : Scheme
large_scheme = record {
  products = 1;
  splits = 4;
  lefts = 46 ∷ replicate (max_products - 1) 0;
  rights = 47 ∷ replicate (max_products - 1) 0;
  split_lefts = 0 ∷ 40 ∷ 46 ∷ 45 ∷ replicate (max_terms - 4) 0;
  split_rights = 0 ∷ 40 ∷ 47 ∷ 48 ∷ replicate (max_terms - 4) 0;
  factor = 1;
}

pub large_scheme_read : scheme_answer large_register large_scheme_bytes ≡ record { number = 0; part = 0; position = 0; scheme = large_scheme }
unfolding join_below all_below comes_before nat_at little refusal command_checks operands_at total checks_at after_at command step follow run read_from read_part by_itself row_of Reg.fresh base_checks choice_checks term_checks row_checks RegFormat.end_checks register_in_job register_by_itself Sch.fresh up_to upward E is_new product_checks split_checks SchFormat.end_checks scheme_in_job scheme_by_itself
large_scheme_read = refl

pub large_product : E max_choices large_scheme 48 ≡ 2 ^ 46 + 2 ^ 47
unfolding up_to upward E
large_product = refl

-- 16 products, of the choices 16 and 17, 18 and 19, .. 46 and 47: with them there are 64 variables
abbrev pub pairs : List ℕ
pairs = join_below 16 (λ i. 0x21 ∷ (16 + 2 * i) ∷ (17 + 2 * i) ∷ [])

abbrev pub splits_of_pairs : List ℕ
splits_of_pairs = 0x22 ∷ 0 ∷ 0 ∷ 0x22 ∷ 40 ∷ 40 ∷ 0x22 ∷ 63 ∷ 63 ∷ 0x22 ∷ 45 ∷ 63 ∷ 0x2F ∷ []

abbrev pub paired_scheme : Scheme
paired_scheme = record {
  products = 16;
  splits = 4;
  lefts = join_below 16 (λ i. (16 + 2 * i) ∷ []) ++ replicate (max_products - 16) 0;
  rights = join_below 16 (λ i. (17 + 2 * i) ∷ []) ++ replicate (max_products - 16) 0;
  split_lefts = 0 ∷ 40 ∷ 63 ∷ 45 ∷ replicate (max_terms - 4) 0;
  split_rights = 0 ∷ 40 ∷ 63 ∷ 63 ∷ replicate (max_terms - 4) 0;
  factor = 1;
}

-- they are accepted, and after them a 17th product, of the choices 0 and 1, is refused
pub paired_read : map (scheme_answer large_register) ((pairs ++ splits_of_pairs) ∷ (pairs ++ (0x21 ∷ 0 ∷ 1 ∷ splits_of_pairs)) ∷ [])
    ≡ record { number = 0; part = 0; position = 0; scheme = paired_scheme } ∷ Scheme.refused_answer 3 2 48 ∷ []
unfolding join_below all_below comes_before nat_at little refusal command_checks operands_at total checks_at after_at command step follow run read_from read_part by_itself row_of Reg.fresh base_checks choice_checks term_checks row_checks RegFormat.end_checks register_in_job register_by_itself Sch.fresh up_to upward E is_new product_checks split_checks SchFormat.end_checks scheme_in_job scheme_by_itself
paired_read = refl

pub paired_product : E max_choices paired_scheme 63 ≡ 2 ^ 46 + 2 ^ 47
unfolding join_below up_to upward E
paired_product = refl

-- ---- part 2 as the builder makes it

-- the same choices and row, and one term, of all 48 choices
abbrev pub whole_register : List ℕ
whole_register = front max_choices ++ (0x15 ∷ 0xFF ∷ 0xFF ∷ 0xFF ∷ 0xFF ∷ 0xFF ∷ 0xFF ∷ 0 ∷ 0 ∷ 1 ∷ 0 ∷ 0 ∷ 0 ∷ 0x1F ∷ [])

-- the term needs more than 16 products, and so a 65th variable: refused at its command, whatever the buffer, which stays as it is
pub whole_built : (buffer : List ℕ) → (build_answer whole_register buffer ≡ Writer.refused_answer 10 1 280) × (build_buffer whole_register buffer ≡ buffer)
unfolding join_below first_below is_member all_below comes_before nat_at little refusal command_checks operands_at total checks_at after_at command step follow run read_from read_part by_itself row_of positions_from position_of Reg.fresh base_checks choice_checks term_checks row_checks RegFormat.end_checks register_in_job register_by_itself term_position Sch.fresh up_to upward E build build_from Builder.follow build_term split_of reduce pair_up join_pair first_with choices_of and_then
whole_built buffer = (refl, refl)

-- for the register before it: one product, of the choices 45 and 46
pub large_built : (build_answer large_register (replicate 16 0) ≡ Writer.written_answer 16)
    × (build_buffer large_register (replicate 16 0) ≡ 0x21 ∷ 45 ∷ 46 ∷ 0x22 ∷ 0 ∷ 0 ∷ 0x22 ∷ 40 ∷ 40 ∷ 0x22 ∷ 46 ∷ 47 ∷ 0x22 ∷ 47 ∷ 48 ∷ 0x2F ∷ [])
unfolding join_below first_below is_member all_below comes_before nat_at little bytes_of bytes_answer refusal command_checks operands_at total checks_at after_at command step follow run read_from read_part by_itself row_of Reg.fresh base_checks choice_checks term_checks row_checks RegFormat.end_checks register_in_job register_by_itself Sch.fresh up_to upward E encode_product encode_split encode_scheme build build_from Builder.follow build_term split_of reduce pair_up join_pair first_with choices_of and_then
large_built = (refl, refl)
