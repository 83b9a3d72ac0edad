-- Parts 1 and 2 in turn, and then the others in the register's order.
use Prim.Native.Nat.{ℕ}
use mathlib.Core.Path.{◌≡◌, sym, ◌∙◌, ap}
use mathlib.Core.Bool.{true, false}
use mathlib.Core.List.{List}
use native.Mathlib.Omega.{arith}
use lib.ListN.{drop}
use borrow.Author.Rules.{rules}
use Rattle.wire.specs.Outcome.{refuses, added_by}
use Rattle.wire.specs.Results.{number_of, reading_of, outcome_of}
use Rattle.register.specs.declared.Register.{Register}
use Rattle.register.specs.Register.{has_range}
use Rattle.scheme.specs.Format.{scheme_part, scheme_in_job}
use Rattle.job.specs.Answer.{job_read}
use Rattle.job.proofs.Positions.{part_within}
use Rattle.job.proofs.Answers.{of_rest, reader_within}
use Rattle.job.proofs.FirstTwo.{RegisterRead, SchemeRead, register_refused, register_read, scheme_refused, scheme_read}
use Rattle.job.proofs.read_job.Goals as goal
use Rattle.job.proofs.read_job.Goals.{In_ok-register, In_ok-scheme, After-read_scheme}

-- ---- part 1

pub returns-in_err-register : goal.returns-in_err-register
returns-in_err-register c =
    let s = c.args.job.now in
    let f = c.in_err-register.field-0.0 in
    let x = register_refused s (rw c.read_register.ensures at c.in_err-register.ensures) in
    let said : outcome_of c.from_residual.result ≡ refuses (number_of f.refusal) f.part f.position = search rules in
    record { value = said ∙ ap job_read x.leads; table_after = x.holds c.args.table.now }

module _ (c : In_ok-register) where
  abbrev s : List ℕ
  s = c.args.job.now

  abbrev reg : Register
  reg = c.in_ok-register.field-0.value

  abbrev from : ℕ
  from = c.in_ok-register.field-0.end

  first : RegisterRead s reg from
  first = register_read s c.in_ok-register.field-0 (rw c.read_register.ensures at c.in_ok-register.ensures)

pub slice_bounds-read_scheme-count : goal.slice_bounds-read_scheme-count
slice_bounds-read_scheme-count c = (first (goal.at.slice_bounds-read_scheme-count c).In_ok-register).inside

pub slice_bounds-read_scheme-start : goal.slice_bounds-read_scheme-start
slice_bounds-read_scheme-start c = (first (goal.at.slice_bounds-read_scheme-start c).In_ok-register).inside

pub read_scheme-requires : goal.read_scheme-requires
read_scheme-requires c = (first (goal.at.read_scheme-requires c).In_ok-register).valid

-- ---- part 2

module _ (c : After-read_scheme) where
  abbrev at₁ : In_ok-register
  at₁ = (goal.at.After-read_scheme c).In_ok-register

  reads : reading_of c.read_scheme.result ≡ added_by (λ sch. sch) (scheme_in_job (reg at₁) (drop (from at₁) (s at₁)))
  reads = of_rest (s at₁) (from at₁) (λ l. added_by (λ sch. sch) (scheme_in_job (reg at₁) l)) c.read_scheme.ensures

pub in_job-requires-2 : goal.in_job-requires-2
unfolding scheme_in_job
in_job-requires-2 c =
    let k = (goal.at.in_job-requires-2 c).After-read_scheme in
    let r = reg (at₁ k) in
    let n = from (at₁ k) in
    omega (arith, reader_within (λ sch. sch) c.args.job.now n _ c.read_scheme.result (reads k) (first (at₁ k)).inside (part_within (scheme_part r) (drop n c.args.job.now)))

pub returns-in_err-scheme : goal.returns-in_err-scheme
returns-in_err-scheme c =
    let k = (goal.at.returns-in_err-scheme c).After-read_scheme in
    let f = c.in_err-scheme.field-0.0 in
    let x = scheme_refused (s (at₁ k)) (reg (at₁ k)) (from (at₁ k)) (first (at₁ k)) (rw (reads k) at c.in_err-scheme.ensures) in
    let said : outcome_of c.from_residual-in_err-scheme.result ≡ refuses (number_of f.refusal) f.part f.position = search rules in
    record { value = said ∙ ap job_read x.leads; table_after = x.holds c.args.table.now }

module _ (c : In_ok-scheme) where
  abbrev at₂ : After-read_scheme
  at₂ = (goal.at.In_ok-scheme c).After-read_scheme

  second : SchemeRead (s (at₁ at₂)) (reg (at₁ at₂)) (from (at₁ at₂)) (first (at₁ at₂)) c.in_ok-scheme.field-0.value c.in_ok-scheme.field-0.end
  second = scheme_read (s (at₁ at₂)) (reg (at₁ at₂)) (from (at₁ at₂)) (first (at₁ at₂)) c.in_ok-scheme.field-0 (rw (reads at₂) at c.in_ok-scheme.ensures)

  register_here : RegisterRead (s (at₁ at₂)) (reg (at₁ at₂)) (from (at₁ at₂))
  register_here = first (at₁ at₂)

pub has_range-requires : goal.has_range-requires
has_range-requires c = (register_here (goal.at.has_range-requires c).In_ok-scheme).valid.within.terms.few

-- ---- the others

pub invariant_of-quadratization : goal.invariant_of-quadratization
invariant_of-quadratization c = let k = (goal.at.invariant_of-quadratization c).In_ok-scheme in record { register_valid = ∣ (register_here k).valid ∣₁; scheme_valid = (second k).valid }

pub invariant_of-quadratization-else-has_range : goal.invariant_of-quadratization-else-has_range
invariant_of-quadratization-else-has_range c =
    let k = (goal.at.invariant_of-quadratization-else-has_range c).In_ok-scheme in record { register_valid = ∣ (register_here k).valid ∣₁; scheme_valid = (second k).valid }

pub read_plan_first-requires-clause-inside : goal.read_plan_first-requires-clause-inside
read_plan_first-requires-clause-inside c = (second (goal.at.read_plan_first-requires-clause-inside c).In_ok-scheme).inside

pub read_plan_last-requires-clause-inside : goal.read_plan_last-requires-clause-inside
read_plan_last-requires-clause-inside c = (second (goal.at.read_plan_last-requires-clause-inside c).In_ok-scheme).inside

pub returns-then-has_range : goal.returns-then-has_range
returns-then-has_range c =
    let k = (goal.at.returns-then-has_range c).In_ok-scheme in
    let t : has_range c.in_ok-register.field-0.value ≡ true = sym c.has_range.ensures ∙ c.if-has_range.true in
    let x = rw t at (second k).comes in
    record { value = c.read_plan_first.ensures.value ∙ ap job_read x.leads; table_after = c.read_plan_first.ensures.table_after ∙ x.holds c.args.table.now }

pub returns-else-has_range : goal.returns-else-has_range
returns-else-has_range c =
    let k = (goal.at.returns-else-has_range c).In_ok-scheme in
    let t : has_range c.in_ok-register.field-0.value ≡ false = sym c.has_range.ensures ∙ c.if-has_range.false in
    let x = rw t at (second k).comes in
    record { value = c.read_plan_last.ensures.value ∙ ap job_read x.leads; table_after = c.read_plan_last.ensures.table_after ∙ x.holds c.args.table.now }
