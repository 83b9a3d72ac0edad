-- A register and a scheme of it whose product need not be true at the least value where the factor is 1: the table that the penalty call hands
-- back is 0, the least cost, at a filling whose product is not that of its operands. With the factors 2 and 1,000 it has 1 and 999 there. And
-- a term whose low coefficient is 0: its product has no weight, and with the factor 1,000 it is not true at a filling with the least value.
use Prim.Native.Nat.{ℕ, ◌≤◌}
use mathlib.Core.Path.{◌≡◌, refl}
use mathlib.Core.Bool.{true, false}
use mathlib.Core.List.{List, [], ◌∷◌, ◌++◌, map}
use native.Mathlib.Omega.{arith}
use lib.IntN.{ℤ, pos}
use lib.ListN.{length, get_or}
use lib.Signed.{lt_z_yes}
use Rattle.integers.specs.Integer.{abs}
use Rattle.integers.specs.Lists.{all_below, join_below, comes_before}
use Rattle.integers.specs.Sum.{sum_below, sum_over}
use Rattle.wire.specs.Number.{nat_at, little, bytes_of}
use Rattle.wire.specs.Checks.{refusal, command_checks}
use Rattle.wire.specs.Part.{operands_at, total, checks_at, after_at, command, step, run, follow, read_from, read_part, by_itself}
use Rattle.wire.specs.Rows.{row_of}
use Rattle.forms.specs.Form.{value, times}
use Rattle.forms.specs.Table.{table_numbers}
use Rattle.register.specs.Register as Reg
use Rattle.register.specs.Format.{base_checks, choice_checks, term_checks, range_checks, register_in_job, register_by_itself}
use Rattle.register.specs.Format as RegFormat
use Rattle.scheme.specs.Scheme as Sch
use Rattle.scheme.specs.Scheme.{with_factor}
use Rattle.scheme.specs.Variables.{up_to, upward, E}
use Rattle.scheme.specs.Filling.{Filling, factor}
use Rattle.scheme.specs.Function.{term, g}
use Rattle.scheme.specs.Format.{is_new, factor_checks, product_checks, split_checks, scheme_in_job, scheme_by_itself}
use Rattle.scheme.specs.Format as SchFormat
use Rattle.scheme.specs.Encoding.{encode_factor}
use Rattle.scheme.specs.Answer.{refused_answer, scheme_answer}
use Rattle.scheme.proofs.Whole.{answered}
use Rattle.scheme.proofs.Opened.{answer_opened}
use Rattle.penalty.specs.Weights.{reaches, uses, usage, weight}
use Rattle.penalty.specs.Penalty.{bracket, h}
use Rattle.penalty.specs.TrueProducts.{TrueProducts}
use Rattle.penalty.specs.Answer.{penalty_table}
use Rattle.penalty.proofs.Demand.{made_holds}
use Rattle.penalty.proofs.FactorOne.{pair_bytes, pair_scheme, pair_scheme_bytes, pair_least, untrue, untrue_is}
use Rattle.plan.proofs.Fits.{every_fits}
use Rattle.penalty.specs.Least.{LeastWhere}
use Rattle.soundness.specs.Demand3.{register_of, scheme_of, low, FitsFilling, Accepted, value_read}
use Rattle.soundness.proofs.HeavierPenalties.{heavier_penalties}

-- what the scheme's call answers to no `23`, to factors 1, 2 and 1,000, to 0 and 1,001, to a second `23`, and to one behind the product
pub factors_read : map (scheme_answer pair_bytes)
    (pair_scheme_bytes
    ∷ (encode_factor 1 ++ pair_scheme_bytes)
    ∷ (encode_factor 2 ++ pair_scheme_bytes)
    ∷ (encode_factor 1_000 ++ pair_scheme_bytes)
    ∷ (encode_factor 0 ++ pair_scheme_bytes)
    ∷ (encode_factor 1_001 ++ pair_scheme_bytes)
    ∷ (encode_factor 2 ++ (encode_factor 2 ++ pair_scheme_bytes))
    ∷ (0x21 ∷ 0 ∷ 1 ∷ (encode_factor 2 ++ (0x22 ∷ 1 ∷ 1 ∷ 0x22 ∷ 2 ∷ 2 ∷ 0x2F ∷ [])))
    ∷ [])
    ≡ answered pair_scheme
    ∷ answered pair_scheme
    ∷ answered (with_factor pair_scheme 2)
    ∷ answered (with_factor pair_scheme 1_000)
    ∷ refused_answer 4 2 0
    ∷ refused_answer 4 2 0
    ∷ refused_answer 1 2 3
    ∷ refused_answer 1 2 3
    ∷ []
unfolding encode_factor bytes_of register_by_itself register_in_job scheme_by_itself scheme_in_job by_itself read_part read_from run follow step command command_checks checks_at after_at operands_at total nat_at little refusal row_of Reg.fresh base_checks choice_checks term_checks RegFormat.end_checks comes_before Sch.fresh factor_checks product_checks split_checks SchFormat.end_checks is_new all_below E upward up_to
factors_read = refl

-- the value read from the table handed back
read_back : (register scheme : List ℕ) → Accepted register scheme → (lent : List ℤ) → table_numbers ≤ length lent → (z : Filling) →
    value_read register scheme (penalty_table register scheme lent) z ≡ value (factor z) (h (low register) (register_of register) (scheme_of register scheme))
read_back register scheme a lent l z = (made_holds register scheme lent l (register_of register) (scheme_of register scheme) (answer_opened register scheme a)).reads z

abbrev pub one : List ℕ
one = encode_factor 1 ++ pair_scheme_bytes

pub accepted_one : Accepted pair_bytes one
unfolding encode_factor bytes_of register_by_itself register_in_job scheme_by_itself scheme_in_job by_itself read_part read_from run follow step command command_checks checks_at after_at operands_at total nat_at little refusal row_of Reg.fresh base_checks choice_checks term_checks RegFormat.end_checks comes_before Sch.fresh factor_checks product_checks split_checks SchFormat.end_checks is_new all_below E upward up_to
accepted_one = refl

-- at the untrue filling, with factors 1, 2 and 1,000
module _ (lent : List ℤ) (l : table_numbers ≤ length lent) where
  abbrev pub untrue_read : ℕ → ℤ
  untrue_read f = let s = encode_factor f ++ pair_scheme_bytes in value_read pair_bytes s (penalty_table pair_bytes s lent) untrue

  pub untrue_values : map untrue_read (1 ∷ 2 ∷ 1_000 ∷ []) ≡ pos 0 ∷ pos 1 ∷ pos 999 ∷ []
  unfolding encode_factor bytes_of register_by_itself register_in_job scheme_by_itself scheme_in_job by_itself read_part read_from run follow step command command_checks checks_at after_at operands_at total nat_at little refusal row_of Reg.fresh base_checks choice_checks term_checks RegFormat.end_checks comes_before Sch.fresh factor_checks product_checks split_checks SchFormat.end_checks is_new all_below E upward up_to value h g weight usage uses reaches sum_below sum_over abs join_below term bracket times
  untrue_values =
      rw (
        read_back pair_bytes (encode_factor 1 ++ pair_scheme_bytes) refl lent l untrue,
        read_back pair_bytes (encode_factor 2 ++ pair_scheme_bytes) refl lent l untrue,
        read_back pair_bytes (encode_factor 1_000 ++ pair_scheme_bytes) refl lent l untrue,
      )

  -- with factor 1 that is the least value, and its product of weight 1 is not that of its operands

  pub untrue_least : LeastWhere (FitsFilling pair_bytes) (value_read pair_bytes one (penalty_table pair_bytes one lent)) (pos 0)
  unfolding register_by_itself register_in_job by_itself read_part read_from run follow step command command_checks checks_at after_at operands_at total nat_at little refusal row_of Reg.fresh base_checks choice_checks term_checks RegFormat.end_checks comes_before
  untrue_least =
      ((heavier_penalties pair_bytes one accepted_one lent l).least (pos 0)).1
      (record { witness = pair_least.witness; holds = every_fits (register_of pair_bytes) refl pair_least.witness.fed; reached = pair_least.reached; lowest = λ p h. pair_least.lowest p tt })

pub untrue_product : TrueProducts (low pair_bytes) (register_of pair_bytes) (scheme_of pair_bytes one) untrue → ⊥
unfolding encode_factor bytes_of register_by_itself register_in_job scheme_by_itself scheme_in_job by_itself read_part read_from run follow step command command_checks checks_at after_at operands_at total nat_at little refusal row_of Reg.fresh base_checks choice_checks term_checks RegFormat.end_checks comes_before Sch.fresh factor_checks product_checks split_checks SchFormat.end_checks is_new all_below E upward up_to weight usage uses reaches sum_below abs
untrue_product t = untrue_is (t 2 (omega arith) (omega arith) (lt_z_yes tt))

-- ---- a term from 0 to 5 of both choices: its product has no weight, and at a filling that is 0, the least cost, is not that of its operands

abbrev pub no_weight_register : List ℕ
no_weight_register =
    0x10 ∷ 0 ∷ 0 ∷ 0 ∷ 0
    ∷ 0x11 ∷ 1 ∷ 0 ∷ 0 ∷ 0 ∷ 0x11 ∷ 1 ∷ 0 ∷ 1 ∷ 0
    ∷ 0x16 ∷ 3 ∷ 0 ∷ 0 ∷ 0 ∷ 0 ∷ 0 ∷ 0 ∷ 0 ∷ 5 ∷ 0 ∷ 0 ∷ 0
    ∷ 0x1F ∷ []

abbrev pub no_weight_scheme : List ℕ
no_weight_scheme = encode_factor 1_000 ++ (0x21 ∷ 0 ∷ 1 ∷ 0x22 ∷ 2 ∷ 2 ∷ 0x2F ∷ [])

abbrev pub apart : Filling
apart v = get_or (true ∷ true ∷ false ∷ []) v false

pub no_weight : let reg = register_of no_weight_register in weight (low no_weight_register) reg (scheme_of no_weight_register no_weight_scheme) 2 ≡ pos 0
unfolding encode_factor bytes_of register_by_itself register_in_job scheme_by_itself scheme_in_job by_itself read_part read_from run follow step command command_checks checks_at after_at operands_at total nat_at little refusal row_of Reg.fresh base_checks choice_checks range_checks RegFormat.end_checks comes_before Sch.fresh factor_checks product_checks split_checks SchFormat.end_checks is_new all_below E upward up_to weight usage uses reaches sum_below abs
no_weight = refl

pub apart_value : (lent : List ℤ) → table_numbers ≤ length lent → value_read no_weight_register no_weight_scheme (penalty_table no_weight_register no_weight_scheme lent) apart ≡ pos 0
unfolding encode_factor bytes_of register_by_itself register_in_job scheme_by_itself scheme_in_job by_itself read_part read_from run follow step command command_checks checks_at after_at operands_at total nat_at little refusal row_of Reg.fresh base_checks choice_checks range_checks RegFormat.end_checks comes_before Sch.fresh factor_checks product_checks split_checks SchFormat.end_checks is_new all_below E upward up_to value h g weight usage uses reaches sum_below sum_over abs join_below term bracket times
apart_value lent l = rw (read_back no_weight_register no_weight_scheme refl lent l apart)
