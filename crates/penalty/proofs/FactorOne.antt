-- With factor 1 the products need not be true to their operands: a register and a scheme that are accepted, and a filling that
-- reaches the least cost though its product, of weight 1, is not that of its operands. With factor 2 the same filling pays 1.
use Prim.Native.Nat.{ℕ, zero, suc, ◌-◌, ◌<◌}
use mathlib.Core.Path.{◌≡◌, refl}
use mathlib.Core.List.{List, [], ◌∷◌}
use mathlib.Core.Bool.{true, false, true≢false}
use native.Mathlib.Omega.{arith}
use lib.IntN.{pos, negsuc}
use lib.ListN.{get_or, replicate}
use lib.Signed.{◌≤ℤ◌, le_z_yes}
use Rattle.integers.specs.Integer.{abs}
use Rattle.integers.specs.Lists.{all_below, join_below, comes_before}
use Rattle.integers.specs.Sum.{sum_below, sum_over}
use Rattle.wire.specs.Number.{nat_at, little}
use Rattle.wire.specs.Checks.{refusal, command_checks}
use Rattle.wire.specs.Part.{operands_at, total, checks_at, after_at, command, step, follow, run, read_from, read_part, by_itself}
use Rattle.wire.specs.Rows.{row_of}
use Rattle.sets.specs.Sets.{is_subset}
use Rattle.forms.specs.Form.{value, times}
use Rattle.register.specs.declared.Register.{Register}
use Rattle.register.specs.Limits.{max_choices}
use Rattle.register.specs.Register as R
use Rattle.register.specs.Register.{coefficient, set_base, set_choices}
use Rattle.register.specs.Format as F
use Rattle.register.specs.Format.{register_in_job, register_by_itself}
use Rattle.register.proofs.Example.{example_register, known_terms}
use Rattle.plan.specs.Plan.{cost}
use Rattle.scheme.specs.declared.Scheme.{Scheme}
use Rattle.scheme.specs.Scheme.{fresh, with_factor}
use Rattle.scheme.specs.Variables.{up_to, upward, E}
use Rattle.scheme.specs.Filling.{Filling, factor}
use Rattle.scheme.specs.Function.{g, term}
use Rattle.scheme.specs.Format.{is_new, product_checks, split_checks, end_checks, scheme_in_job, scheme_by_itself}
use Rattle.scheme.proofs.Opened.{Opened, answer_opened}
use Rattle.penalty.specs.Weights.{reaches, uses, usage, weight}
use Rattle.penalty.specs.Penalty.{bracket, h}
use Rattle.penalty.specs.Least.{Every, LeastPlan}
use Rattle.penalty.specs.TrueProducts.{IsTrue}

-- two choices: the second costs 1, and both together 1 less
abbrev pub pair : Register
pair = known_terms (set_choices (set_base example_register (pos 0)) 2 (1 ∷ 1 ∷ replicate (max_choices - 2) 0) (0 ∷ 1 ∷ replicate (max_choices - 2) 0)) 2 (2 ∷ 3 ∷ replicate 254 0) (pos 1 ∷ negsuc 0 ∷ replicate 254 (pos 0))

abbrev pub pair_bytes : List ℕ
pair_bytes =
    0x10 ∷ 0 ∷ 0 ∷ 0 ∷ 0
    ∷ 0x11 ∷ 1 ∷ 0 ∷ 0 ∷ 0 ∷ 0x11 ∷ 1 ∷ 0 ∷ 1 ∷ 0
    ∷ 0x12 ∷ 2 ∷ 0 ∷ 0 ∷ 0 ∷ 1 ∷ 0 ∷ 0 ∷ 0
    ∷ 0x12 ∷ 3 ∷ 0 ∷ 0 ∷ 0 ∷ 0xFF ∷ 0xFF ∷ 0xFF ∷ 0xFF
    ∷ 0x1F ∷ []

-- product 2 = (0, 1), splits (1, 1), (2, 2)
abbrev pub pair_scheme : Scheme
pair_scheme = record {
  products = 1;
  splits = 2;
  lefts = 0 ∷ replicate 31 0;
  rights = 1 ∷ replicate 31 0;
  split_lefts = 1 ∷ 2 ∷ replicate 254 0;
  split_rights = 1 ∷ 2 ∷ replicate 254 0;
  factor = 1;
}

abbrev pub pair_scheme_bytes : List ℕ
pair_scheme_bytes = 0x21 ∷ 0 ∷ 1 ∷ 0x22 ∷ 1 ∷ 1 ∷ 0x22 ∷ 2 ∷ 2 ∷ 0x2F ∷ []

-- both are accepted, so both are valid
pub pair_opened : Opened pair_bytes pair_scheme_bytes pair pair_scheme
unfolding register_by_itself register_in_job scheme_by_itself scheme_in_job by_itself read_part read_from run follow step command command_checks checks_at after_at operands_at total nat_at little refusal row_of R.fresh F.base_checks F.choice_checks F.term_checks F.end_checks comes_before fresh product_checks split_checks end_checks is_new all_below E upward up_to
pair_opened = answer_opened pair_bytes pair_scheme_bytes refl

-- no plan costs less than 0, and the empty one costs that
pub pair_least : LeastPlan Every (coefficient pair) pair (pos 0)
unfolding cost sum_below is_subset
pair_least = record { witness = record { fed = 0; inside = omega arith }; holds = tt; reached = refl; lowest = λ p h. go p.fed p.inside }
  where
    go : (i : ℕ) → i < 4 → pos 0 ≤ℤ cost (coefficient pair) pair i
    go zero l = le_z_yes tt
    go (suc zero) l = le_z_yes tt
    go (suc (suc zero)) l = le_z_yes tt
    go (suc (suc (suc zero))) l = le_z_yes tt
    go (suc (suc (suc (suc i)))) l = absurd (omega arith)

-- choice 0 and the product, without choice 1
abbrev pub untrue : Filling
untrue v = get_or (true ∷ false ∷ true ∷ []) v false

pub untrue_weight : weight (coefficient pair) pair pair_scheme 2 ≡ pos 1
unfolding weight usage uses reaches upward up_to sum_below abs
untrue_weight = refl

pub untrue_reaches : value (factor untrue) (h (coefficient pair) pair pair_scheme) ≡ pos 0
unfolding value h g weight usage uses reaches upward up_to sum_below sum_over abs join_below term bracket times
untrue_reaches = refl

pub untrue_is : IsTrue 2 pair_scheme untrue 2 → ⊥
untrue_is e = true≢false e

pub untrue_pays : value (factor untrue) (h (coefficient pair) pair (with_factor pair_scheme 2)) ≡ pos 1
unfolding value h g weight usage uses reaches upward up_to sum_below sum_over abs join_below term bracket times
untrue_pays = refl
