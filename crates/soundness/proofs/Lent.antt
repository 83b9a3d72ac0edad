-- Demand 3 fails for a penalty call that hands back the table as it was lent, whatever the other two calls are: with base cost 10,
-- one choice and no term every plan costs 10, and the value read from a table of zeros is 0.
use Prim.Native.Nat.{ℕ, ◌*◌, ◌<◌}
use native.Mathlib.Omega.{arith}
use mathlib.Core.Path.{◌≡◌, refl, sym, ◌∙◌, ap}
use mathlib.Core.List.{List, [], ◌∷◌}
use lib.IntN.{ℤ, pos, nat_abs, zero-*ℤ}
use lib.ListN.{replicate, length-replicate, get_or-replicate}
use lib.Signed.{quot_z}
use lib.Pow.{pow_pos}
use Rattle.integers.specs.Lists.{comes_before}
use Rattle.integers.specs.Sum.{sum_below}
use Rattle.integers.proofs.Sum.{sum_below_cong, sum_below_0}
use Rattle.wire.specs.Number.{Bytes, nat_at, little}
use Rattle.wire.specs.Checks.{refusal, command_checks}
use Rattle.wire.specs.Part.{operands_at, total, checks_at, after_at, command, step, follow, run, read_from, read_part, by_itself}
use Rattle.wire.specs.Rows.{row_of}
use Rattle.forms.specs.Table.{table_numbers, table_sum, table_value}
use Rattle.register.specs.Register as R
use Rattle.register.specs.Format.{base_checks, choice_checks, term_checks, register_in_job, register_by_itself}
use Rattle.register.specs.Format as F
use Rattle.plan.specs.Plan as P
use Rattle.plan.proofs.Fits.{every_fits}
use Rattle.scheme.specs.Scheme.{side}
use Rattle.scheme.specs.Scheme as S
use Rattle.scheme.specs.Filling.{Filling, factor}
use Rattle.scheme.specs.Format.{product_checks, split_checks, end_checks, scheme_in_job, scheme_by_itself}
use Rattle.penalty.specs.Answer.{penalty_answer}
use Rattle.soundness.specs.Calls.{PenaltyCall, CheckCall, PlainCall}
use Rattle.soundness.specs.Demand3.{register_of, scheme_of, Accepted, Plan, cost, value_read, Demand3}

-- the answer is right, the table is as it was lent
abbrev pub lent_call : PenaltyCall
lent_call register scheme lent = (penalty_answer register scheme lent, lent)

abbrev register : List ℕ
register = 0x10 ∷ 10 ∷ 0 ∷ 0 ∷ 0 ∷ 0x11 ∷ 1 ∷ 0 ∷ 0 ∷ 0 ∷ 0x1F ∷ []

abbrev scheme : List ℕ
scheme = 0x2F ∷ []

abbrev zeros : List ℤ
zeros = replicate table_numbers (pos 0)

-- what the readers answer
record Read : Type 0 where
  accepts : Accepted register scheme
  base : (register_of register).base ≡ pos 10
  terms : (register_of register).terms ≡ 0
  choices : (register_of register).choices ≡ 1
  rows : (register_of register).rows ≡ 0
  products : (scheme_of register scheme).products ≡ 0

reads : Read
unfolding register_by_itself register_in_job scheme_by_itself scheme_in_job by_itself read_part read_from run follow step command command_checks checks_at after_at operands_at total nat_at little refusal row_of R.fresh S.fresh base_checks choice_checks term_checks F.end_checks comes_before product_checks split_checks end_checks
reads = record { accepts = refl; base = refl; terms = refl; choices = refl; rows = refl; products = refl }

-- the value read from zeros
sum_zeros : (n k : ℕ) (y : ℕ → ℤ) → n * n < k → table_sum n (replicate k (pos 0)) y ≡ pos 0
unfolding table_sum
sum_zeros n k y l =
    sum_below_cong (n * n) _ (λ i. pos 0) (λ i h. rw (get_or-replicate k i (pos 0) (pos 0) (omega arith), zero-*ℤ, zero-*ℤ) refl) ∙ sum_below_0 (n * n)

value-zero : (z : Filling) → value_read register scheme zeros z ≡ pos 0
unfolding table_value
value-zero z =
    let two : side (register_of register).choices (scheme_of register scheme) ≡ 2 = rw (reads.choices, reads.products) refl in
    ap (λ n. table_value n zeros (factor z)) two ∙ ap (λ x. quot_z x (pos 2)) (sum_zeros 2 table_numbers (factor z) (omega arith))

cost_ten : (plan : Plan register) → cost register plan ≡ pos 10
unfolding P.cost sum_below
cost_ten plan = rw (reads.terms, reads.base) refl

pub lent_fails : (check : CheckCall) (plain : PlainCall) → Demand3 lent_call check plain → ⊥
lent_fails check plain demand =
    let bytes : Bytes register = (omega arith, (omega arith, (omega arith, (omega arith, (omega arith, (omega arith, (omega arith, (omega arith, (omega arith, (omega arith, (omega arith, tt))))))))))) in
    let unfed : Plan register = record { fed = 0; inside = pow_pos (register_of register).choices } in
    let d = (demand.of_accepted register scheme bytes reads.accepts zeros (omega (arith, length-replicate table_numbers (pos 0)))).least unfed (every_fits (register_of register) reads.rows 0) in
    let zero : d.least ≡ pos 0 = sym d.of_first.reached ∙ value-zero d.of_first.witness in
    let ten : d.least ≡ pos 10 = sym d.of_second.reached ∙ cost_ten d.of_second.witness in
    let none : ◌≡◌ {A = ℕ} 0 10 = ap nat_abs (sym zero ∙ ten) in
    absurd (omega arith)
