-- The calls before there was a factor. Part 2 was read as `scheme/specs/BeforeFactors` has it, and the weights were the sums alone. What
-- the other parts are and the forms of the answers are those of today. Where part 2 does not begin with a `23` the calls that are given it
-- by itself answer and hand back what they did then; where it does, they refused it. Of the job call and the listing calls it is said how
-- part 2 of a job is read.
use Rattle.std.specs.Prelude.{ℕ, ◌+◌, ◌≡◌, cond, List, ◌++◌, ltb, ℤ, length}
use Rattle.integers.specs.Lists.{join_below}
use Rattle.wire.specs.declared.WriterAnswer.{WriterAnswer}
use Rattle.wire.specs.Part.{refused}
use Rattle.wire.specs.Outcome.{Outcome, accepts, given, and_then, answer_by}
use Rattle.wire.specs.Writer as W
use Rattle.forms.specs.Form.{Form, times, entry}
use Rattle.forms.specs.Table.{table_numbers, with_table}
use Rattle.register.specs.declared.Register.{Register}
use Rattle.register.specs.Register.{coefficient}
use Rattle.register.specs.Opening.{open_register}
use Rattle.plan.specs.Chosen.{chosen}
use Rattle.scheme.specs.declared.Scheme.{Scheme}
use Rattle.scheme.specs.declared.SchemeAnswer.{SchemeAnswer}
use Rattle.scheme.specs.Scheme.{side}
use Rattle.scheme.specs.Function.{g}
use Rattle.scheme.specs.Encoding.{SaysFactor}
use Rattle.scheme.specs.Format.{scheme_in_job, scheme_by_itself}
use Rattle.scheme.specs.Answer.{open_parts, refused_answer, accepted_answer}
use Rattle.scheme.specs.BeforeFactors.{in_job_before_factors, by_itself_before_factors}
use Rattle.penalty.specs.declared.PenaltyAnswer.{PenaltyAnswer}
use Rattle.penalty.specs.Weights.{usage}
use Rattle.penalty.specs.Penalty.{bracket_of, h}
use Rattle.penalty.specs.Answer.{answer}
use Rattle.certificate.specs.Format.{commands_in_job}
use Rattle.bound.specs.declared.CheckAnswer.{CheckAnswer}
use Rattle.bound.specs.Format.{certificate_by_itself}
use Rattle.bound.specs.Opening.{open_plan}
use Rattle.bound.specs.Check as C
use Rattle.plain.specs.Answer.{own_bytes}
use Rattle.soundness.specs.Calls.{SchemeCall, PenaltyCall, CheckCall, PlainCall}
use Rattle.soundness.specs.Parts.{Part1}

-- ---- the penalty form

-- h with the weights as they were

abbrev pub penalty_before_factors : (ℕ → ℤ) → Register → Scheme → ℕ → Form
penalty_before_factors c r s i = let k = r.choices + i in times (usage c r s k) (bracket_of r.choices s k)

abbrev pub h_before_factors : (ℕ → ℤ) → Register → Scheme → Form
h_before_factors c r s = g c r s ++ join_below s.products (penalty_before_factors c r s)

-- ---- the calls that are given part 2 by itself

abbrev pub open_before_factors : (register scheme : List ℕ) → Outcome (Register × Scheme)
open_before_factors register scheme = and_then (open_register register) λ reg. and_then (given 2 (by_itself_before_factors reg scheme)) λ sch. accepts (reg, sch)

abbrev pub open_chosen_before_factors : (register scheme plan : List ℕ) → Outcome (Register × Scheme × ℕ)
open_chosen_before_factors register scheme plan =
    and_then (open_before_factors register scheme) λ (reg, sch). and_then (open_plan reg plan) λ p. accepts (reg, sch, p)

abbrev pub scheme_before_factors : (register scheme : List ℕ) → SchemeAnswer
scheme_before_factors register scheme = answer_by refused_answer accepted_answer (open_before_factors register scheme)

abbrev pub with_penalty_before_factors : Register → Scheme → List ℤ → List ℤ
with_penalty_before_factors reg sch = with_table (side reg.choices sch) (entry (h_before_factors (coefficient reg) reg sch))

abbrev pub penalty_call_before_factors : (register scheme : List ℕ) → List ℤ → PenaltyAnswer × List ℤ
penalty_call_before_factors register scheme lent =
    let opened = open_before_factors register scheme in (
      cond (ltb (length lent) table_numbers) (answer 11 0 0) (answer_by answer (λ parts. answer 0 0 0) opened),
      cond (ltb (length lent) table_numbers) lent (answer_by (λ number part at. lent) (λ (reg, sch). with_penalty_before_factors reg sch lent) opened),
    )

abbrev pub check_before_factors : (register scheme certificate plan : List ℕ) → List ℤ → CheckAnswer × List ℤ
check_before_factors register scheme certificate plan lent =
    let opened = open_chosen_before_factors register scheme plan in (
      cond (ltb (length lent) table_numbers) (C.refused_answer 11 0 0)
          (answer_by C.refused_answer C.accepted_answer (and_then opened λ (reg, sch, p). given 3 (certificate_by_itself (chosen reg p) reg sch certificate))),
      cond (ltb (length lent) table_numbers) lent
          (answer_by (λ number part at. lent) (λ (reg, sch, p). C.with_residual (chosen reg p) reg sch (commands_in_job reg sch certificate) lent) opened),
    )

abbrev pub plain_before_factors : (register scheme plan lent : List ℕ) → WriterAnswer × List ℕ
plain_before_factors register scheme plan lent =
    let opened = open_chosen_before_factors register scheme plan in (
      answer_by W.refused_answer (λ (reg, sch, p). W.bytes_answer (own_bytes reg sch p) lent) opened,
      answer_by (λ number part at. lent) (λ (reg, sch, p). W.with_front (own_bytes reg sch p) lent) opened,
    )

-- ---- the promises

-- each call that is given part 2 by itself answers bytes that do not begin with `23` as it did, whether it accepts or refuses them, and
-- leaves in the lent table or buffer what it left
pub record CallsAsBeforeFactors (scheme_call : SchemeCall) (penalty_call : PenaltyCall) (check_call : CheckCall) (plain_call : PlainCall) : Type 0 where
  pub schemes : (register scheme : List ℕ) → (SaysFactor scheme → ⊥) → scheme_call register scheme ≡ scheme_before_factors register scheme
  pub penalties : (register scheme : List ℕ) (table : List ℤ) → (SaysFactor scheme → ⊥) → penalty_call register scheme table ≡ penalty_call_before_factors register scheme table
  pub checks : (register scheme certificate plan : List ℕ) (table : List ℤ) → (SaysFactor scheme → ⊥) →
      check_call register scheme certificate plan table ≡ check_before_factors register scheme certificate plan table
  pub plains : (register scheme plan lent : List ℕ) → (SaysFactor scheme → ⊥) → plain_call register scheme plan lent ≡ plain_before_factors register scheme plan lent
  -- and an accepted scheme then has factor 1
  pub one : (register scheme : List ℕ) → (SaysFactor scheme → ⊥) → (scheme_call register scheme).number ≡ 0 → (scheme_call register scheme).scheme.factor ≡ 1

-- Of no call in particular: each call reads part 2 at the front of what follows part 1 in a job, or by itself, with the register
pub record AsBeforeFactors : Type 0 where
  pub part_2_in_job : (reg : Register) (s : List ℕ) → (SaysFactor s → ⊥) → scheme_in_job reg s ≡ in_job_before_factors reg s
  pub part_2_by_itself : (reg : Register) (s : List ℕ) → (SaysFactor s → ⊥) → scheme_by_itself reg s ≡ by_itself_before_factors reg s
  pub opens : (register scheme : List ℕ) → (SaysFactor scheme → ⊥) → open_parts register scheme ≡ open_before_factors register scheme
  -- bytes that begin with a `23` were refused 1 there
  pub was_refused : (reg : Register) (s : List ℕ) → SaysFactor s → in_job_before_factors reg s ≡ refused 1 0
  pub were_refused : (register scheme : List ℕ) (reg : Register) → Part1 register reg → SaysFactor scheme → scheme_before_factors register scheme ≡ refused_answer 1 2 0
  -- with factor 1 the penalty form is what it was
  pub forms : (c : ℕ → ℤ) (reg : Register) (sch : Scheme) → sch.factor ≡ 1 → h c reg sch ≡ h_before_factors c reg sch
