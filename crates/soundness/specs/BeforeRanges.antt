-- The terms of a register and the calls before registers had ranges: part 1 is read without `16`, each term has one coefficient, the plan
-- is the last part of every job, and the check and our own certificate are given no plan. All else, among it what the parts are and the
-- forms of the answers, is what it was; `15`, `41`, more than 32 choices and `23`, which came later, are read as today.
use Rattle.std.specs.Prelude.{ℕ, ◌≤◌, ◌<◌, ◌^◌, false, cond, List, [], ◌∷◌, ltb, ℤ, pos, nat_abs, ◌-ℤ◌, length, drop, get_or, replicate}
use Rattle.integers.specs.Lists.{Column, Table, join_below}
use Rattle.wire.specs.declared.WriterAnswer.{WriterAnswer}
use Rattle.wire.specs.Outcome.{Outcome, refuses, accepts, next, given, and_then, answer_by, added_by}
use Rattle.wire.specs.Writer as W
use Rattle.forms.specs.Table.{table_numbers}
use Rattle.register.specs.declared.Register.{Register}
use Rattle.register.specs.Limits.{max_terms, max_coefficient}
use Rattle.register.specs.Register.{mask, coefficient}
use Rattle.register.specs.Encoding.{encode_term}
use Rattle.register.specs.BeforeRanges.{in_job_before_ranges, by_itself_before_ranges}
use Rattle.plan.specs.declared.CostAnswer.{CostAnswer}
use Rattle.plan.specs.Plan.{cost}
use Rattle.plan.specs.Format.{plan_by_itself}
use Rattle.plan.specs.Answer.{refused_cost, accepted_cost}
use Rattle.scheme.specs.declared.Scheme.{Scheme}
use Rattle.scheme.specs.Format.{scheme_by_itself}
use Rattle.certificate.specs.Format.{commands_in_job}
use Rattle.bound.specs.declared.CheckAnswer.{CheckAnswer}
use Rattle.bound.specs.Format.{certificate_in_job, certificate_by_itself}
use Rattle.bound.specs.Check as C
use Rattle.plain.specs.Encoding.{encode_plain}
use Rattle.job.specs.declared.Tally.{Tally}
use Rattle.job.specs.declared.JobAnswer.{JobAnswer}
use Rattle.job.specs.Tally.{suppliers, moved}
use Rattle.job.specs.Outcome.{Parts, of_register, with_certificate, JobPart, part_two, part_four, in_turn, ended, bound_of}
use Rattle.job.specs.Answer.{refused_answer, pair_after}

-- ---- the terms of a register

-- the conditions on a term: the coefficient has a range of both signs without 0; the mask names some of the n choices, at least one
pub record TermBefore (n mask : ℕ) (coefficient : ℤ) : Type 0 where
  pub coefficient_within : nat_abs coefficient ≤ max_coefficient
  pub coefficient_not_0 : 1 ≤ nat_abs coefficient
  pub mask_not_0 : 1 ≤ mask
  pub mask_names : mask < 2 ^ n

abbrev pub known_in : List ℕ → List ℤ → ℕ → ℕ × ℤ
known_in ms cs i = (get_or ms i 0, get_or cs i (pos 0))

-- up to 256 of them, masks rising; ms and cs are the arrays of their masks and coefficients
pub record TermsBefore (n m : ℕ) (ms : List ℕ) (cs : List ℤ) : Type 0 where
  pub masks : Column max_terms m 0 ms
  pub coefficients : Column max_terms m (pos 0) cs
  pub table : Table max_terms m (known_in ms cs) (λ c. TermBefore n c.0 c.1) (λ c d. c.0 < d.0)

-- and their bytes: each `12`
abbrev pub encode_terms_before : Register → List ℕ
encode_terms_before r = join_below r.terms (λ t. encode_term (mask r t) (coefficient r t))

-- the same register without ranges: each term has its low coefficient as the high one too
abbrev pub without_ranges : Register → Register
without_ranges r = record r { highs = r.coefficients; ranged = replicate max_terms false }

-- ---- the calls that are given parts by themselves

abbrev pub open_before_ranges : (register scheme : List ℕ) → Outcome (Register × Scheme)
open_before_ranges register scheme =
    and_then (given 1 (by_itself_before_ranges register)) λ reg. and_then (given 2 (scheme_by_itself reg scheme)) λ sch. accepts (reg, sch)

abbrev pub cost_before_ranges : (register plan : List ℕ) → CostAnswer
cost_before_ranges register plan =
    answer_by refused_cost accepted_cost
    (and_then (given 1 (by_itself_before_ranges register)) λ reg. and_then (given 4 (plan_by_itself reg plan)) λ p. accepts (cost (coefficient reg) reg p))

abbrev pub check_before_ranges : (register scheme certificate : List ℕ) → List ℤ → CheckAnswer × List ℤ
check_before_ranges register scheme certificate lent =
    let opened = open_before_ranges register scheme in (
      cond (ltb (length lent) table_numbers) (C.refused_answer 11 0 0)
          (answer_by C.refused_answer C.accepted_answer (and_then opened λ (reg, sch). given 3 (certificate_by_itself (coefficient reg) reg sch certificate))),
      cond (ltb (length lent) table_numbers) lent
          (answer_by (λ number part at. lent) (λ (reg, sch). C.with_residual (coefficient reg) reg sch (commands_in_job reg sch certificate) lent) opened),
    )

abbrev pub plain_before_ranges : (register scheme lent : List ℕ) → WriterAnswer × List ℕ
plain_before_ranges register scheme lent =
    let opened = open_before_ranges register scheme in (
      answer_by W.refused_answer (λ (reg, sch). W.bytes_answer (encode_plain (coefficient reg) reg sch) lent) opened,
      answer_by (λ number part at. lent) (λ (reg, sch). W.with_front (encode_plain (coefficient reg) reg sch) lent) opened,
    )

-- ---- jobs

abbrev pub part_three_before : JobPart
part_three_before = record { number = 3; reads = λ p s. added_by (with_certificate p) (certificate_in_job (coefficient p.register) p.register p.scheme s) }

-- the parts after each other, the plan last
abbrev pub outcome_before_ranges : List ℕ → Outcome Parts
outcome_before_ranges s =
    next 1 (in_job_before_ranges s) λ one end.
    and_then (in_turn (part_two ∷ part_three_before ∷ part_four ∷ []) s (of_register one.parsed) end) (ended 4 s)

abbrev pub table_before_ranges : List ℕ → List ℤ → List ℤ
table_before_ranges s lent =
    answer_by (λ number part at. lent) (λ (p, from). C.with_residual (coefficient p.register) p.register p.scheme (commands_in_job p.register p.scheme (drop from s)) lent)
    (next 1 (in_job_before_ranges s) λ one end. in_turn (part_two ∷ []) s (of_register one.parsed) end)

abbrev pub accepted_before_ranges : Parts → Tally → JobAnswer
accepted_before_ranges p tally =
    let z = cost (coefficient p.register) p.register p.plan in
    record { number = 0; part = 0; position = 0; bound = bound_of p; cost = z; gap = z -ℤ bound_of p; tally = tally }

abbrev pub after_job_before_ranges : Outcome Parts → ℕ → Tally → JobAnswer
after_job_before_ranges x supplier tally =
    let next = moved (pair_after x) supplier tally in
    answer_by (λ number part at. refused_answer number part at next) (λ p. accepted_before_ranges p next) x

abbrev pub job_before_ranges : List ℕ → List ℤ → ℕ → Tally → JobAnswer × List ℤ
job_before_ranges job lent supplier tally =
    let x : Outcome Parts = cond (ltb (length lent) table_numbers) (refuses 11 0 0) (outcome_before_ranges job) in (
      cond (ltb supplier suppliers) (after_job_before_ranges x supplier tally) (refused_answer 17 0 0 tally),
      cond (ltb supplier suppliers) (cond (ltb (length lent) table_numbers) lent (table_before_ranges job lent)) lent,
    )
