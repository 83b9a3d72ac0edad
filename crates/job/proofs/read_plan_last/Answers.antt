-- The certificate is read with the register's own coefficients, which without a range are those that any plan chooses.
use Prim.Native.Nat.{ℕ, ◌≤◌}
use mathlib.Core.Path.{◌≡◌, sym, ◌∙◌, ap}
use mathlib.Core.List.{List, [], ◌∷◌}
use native.Mathlib.Omega.{arith}
use lib.IntN.{nat_abs}
use mir.Syntax.{w64}
use mir.Val.{to_z, of_z}
use borrow.Author.Rules.{rules}
use Rattle.integers.proofs.Machine.{read_signed}
use Rattle.wire.specs.Outcome.{refuses, accepts}
use Rattle.wire.specs.Results.{number_of, outcome_of}
use Rattle.register.specs.declared.Register.{Register}
use Rattle.register.specs.Valid.{Within}
use Rattle.scheme.specs.declared.Scheme.{Scheme}
use Rattle.scheme.proofs.Truncated.{valid_register}
use Rattle.certificate.specs.Limits.{max_target}
use Rattle.job.specs.Outcome.{Parts, with_certificate, with_plan, part_four, in_turn, table_from_certificate}
use Rattle.job.specs.Rest.{first_two, plan_last}
use Rattle.job.specs.Answer.{accepted_read}
use Rattle.job.proofs.Answers.{CertificateRead, PlanRead, certificate_refused, certificate_read, plan_refused, plan_read, read_by, past_end, at_end, certificate_own, table_own}
use Rattle.job.proofs.read_plan_last.Goals as goal
use Rattle.job.proofs.read_plan_last.Goals.{After-certificate_at, In_ok-bound, In_ok-plan}

module _ (c : After-certificate_at) where
  abbrev s : List ℕ
  s = c.args.job.now

  abbrev reg : Register
  reg = c.args.quadratization.now.register

  abbrev sch : Scheme
  sch = c.args.quadratization.now.scheme

  abbrev two : Parts
  two = first_two reg sch

  within : Within reg
  within = (valid_register c.args.quadratization.now.register_valid).within

  holds : c.certificate_at.new.table ≡ table_from_certificate s two c.args.from c.args.table.now
  holds = c.certificate_at.ensures.table_after ∙ table_own s reg within sch c.args.from c.requires.no_range 0 c.args.table.now

-- ---- part 3

pub returns-in_err-bound : goal.returns-in_err-bound
returns-in_err-bound c =
    let k = (goal.at.returns-in_err-bound c).After-certificate_at in
    let f = c.in_err-bound.field-0.0 in
    let said : outcome_of c.from_residual.result ≡ refuses (number_of f.refusal) f.part f.position = search rules in
    let first = certificate_refused (s k) (two k) c.args.from (c.in_err-bound.ensures.value ∙ certificate_own (s k) (reg k) (within k) (sch k) c.args.from c.requires.no_range 0) (part_four ∷ []) in
    record { value = said ∙ ap (read_by (s k) 4) first; table_after = holds k }

module _ (c : In_ok-bound) where
  abbrev at₃ : After-certificate_at
  at₃ = (goal.at.In_ok-bound c).After-certificate_at

  third : CertificateRead (s at₃) (two at₃) c.args.from c.in_ok-bound.field-0.value c.in_ok-bound.field-0.end
  third = certificate_read (s at₃) (two at₃) c.args.from c.requires.inside c.in_ok-bound.field-0 (c.in_ok-bound.ensures.value ∙ certificate_own (s at₃) (reg at₃) (within at₃) (sch at₃) c.args.from c.requires.no_range 0)

  abbrev three : Parts
  three = with_certificate (two at₃) third.certificate

pub plan_at-requires : goal.plan_at-requires
plan_at-requires c =
    let k = (goal.at.plan_at-requires c).In_ok-bound in
    record { within = within (at₃ k); inside = (third k).inside }

-- ---- part 4

pub returns-in_err-plan : goal.returns-in_err-plan
returns-in_err-plan c =
    let k = (goal.at.returns-in_err-plan c).In_ok-bound in
    let f = c.in_err-plan.field-0.0 in
    let said : outcome_of c.from_residual-in_err-plan.result ≡ refuses (number_of f.refusal) f.part f.position = search rules in
    let second = plan_refused (s (at₃ k)) (three k) c.in_ok-bound.field-0.end c.in_err-plan.ensures [] in
    record { value = said ∙ ap (read_by (s (at₃ k)) 4) (second ∙ (third k).leads (part_four ∷ [])); table_after = holds (at₃ k) }

module _ (c : In_ok-plan) where
  abbrev at₄ : In_ok-bound
  at₄ = (goal.at.In_ok-plan c).In_ok-bound

  fourth : PlanRead (s (at₃ at₄)) (three at₄) c.in_ok-bound.field-0.end c.in_ok-plan.field-0.value c.in_ok-plan.field-0.end
  fourth = plan_read (s (at₃ at₄)) (three at₄) c.in_ok-bound.field-0.end (third at₄).inside c.in_ok-plan.field-0 c.in_ok-plan.ensures

  abbrev four : Parts
  four = with_plan (three at₄) c.in_ok-plan.field-0.value

  leads : read_by (s (at₃ at₄)) 4 (accepts (four, c.in_ok-plan.field-0.end)) ≡ read_by (s (at₃ at₄)) 4 (in_turn plan_last (s (at₃ at₄)) (two (at₃ at₄)) c.args.from)
  leads = ap (read_by (s (at₃ at₄)) 4) (fourth.leads [] ∙ (third at₄).leads (part_four ∷ []))

-- ---- the job's end

pub returns-in_err-ends_job : goal.returns-in_err-ends_job
returns-in_err-ends_job c =
    let k = (goal.at.returns-in_err-ends_job c).In_ok-plan in
    let f = c.in_err-ends_job.field-0.0 in
    let said : outcome_of c.from_residual-in_err-ends_job.result ≡ refuses (number_of f.refusal) f.part f.position = search rules in
    record { value = said ∙ past_end (s (at₃ (at₄ k))) 4 c.in_ok-plan.field-0.end c.in_err-ends_job.ensures (four k) ∙ leads k; table_after = holds (at₃ (at₄ k)) }

-- the bound's size, and its bits
module _ (c : In_ok-bound) where
  small : nat_abs c.in_ok-bound.field-0.value ≤ max_target
  small = (third c).small

  read_back : to_z w64 (of_z w64 c.in_ok-bound.field-0.value) ≡ c.in_ok-bound.field-0.value
  read_back = read_signed w64 c.in_ok-bound.field-0.value (omega (arith, small))

pub accepted-requires : goal.accepted-requires
accepted-requires c =
    let k = (goal.at.accepted-requires c).In_ok-bound in
    record { within = within (at₃ k); bound_bound = rw (read_back k) (small k) }

pub returns : goal.returns
returns c =
    let k = (goal.at.returns c).In_ok-plan in
    let b = (goal.at.returns c).In_ok-bound in
    let is = c.accepted.ensures ∙ ap (accepted_read (reg (at₃ b)) c.in_ok-plan.field-0.value) (read_back b ∙ sym (third b).bound_is) in
    record { value = ap accepts is ∙ at_end (s (at₃ b)) 4 c.in_ok-plan.field-0.end c.in_ok-ends_job.ensures (four k) ∙ leads k; table_after = holds (at₃ b) }
