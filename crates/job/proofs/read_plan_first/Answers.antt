-- The certificate is read with the coefficients of the register that is made for the plan, which are those that the plan chooses.
use Prim.Native.Nat.{ℕ, ◌≤◌}
use mathlib.Core.Path.{◌≡◌, sym, ◌∙◌, ap}
use mathlib.Core.List.{List, [], ◌∷◌}
use native.Mathlib.Omega.{arith}
use lib.IntN.{nat_abs}
use mir.Syntax.{w64}
use mir.Val.{to_z, of_z}
use borrow.Author.Rules.{rules}
use Rattle.integers.proofs.Machine.{read_signed}
use Rattle.wire.specs.Outcome.{refuses, accepts}
use Rattle.wire.specs.Results.{number_of, outcome_of}
use Rattle.register.specs.declared.Register.{Register}
use Rattle.register.specs.Register.{coefficient}
use Rattle.register.specs.Valid.{Within}
use Rattle.scheme.specs.declared.Scheme.{Scheme}
use Rattle.scheme.proofs.Truncated.{valid_register}
use Rattle.certificate.specs.Limits.{max_target}
use Rattle.job.specs.Outcome.{Parts, coefficients, with_certificate, with_plan, part_three, in_turn, table_by}
use Rattle.job.specs.Rest.{certificate_at, first_two, plan_first, table_of_rest}
use Rattle.job.specs.Answer.{accepted_read}
use Rattle.job.proofs.Answers.{CertificateRead, PlanRead, certificate_refused, certificate_read, plan_read, read_by, past_end, at_end, certificate_chosen, table_chosen}
use Rattle.job.proofs.read_plan_first.Goals as goal
use Rattle.job.proofs.read_plan_first.Goals.{In_ok-plan, After-certificate_at, In_ok-bound}

-- ---- part 4

pub plan_at-requires-clause-within : goal.plan_at-requires-clause-within
plan_at-requires-clause-within c = (valid_register c.args.quadratization.now.register_valid).within

module _ (c : In_ok-plan) where
  abbrev s : List ℕ
  s = c.args.job.now

  abbrev reg : Register
  reg = c.args.quadratization.now.register

  abbrev sch : Scheme
  sch = c.args.quadratization.now.scheme

  abbrev plan : ℕ
  plan = c.in_ok-plan.field-0.value

  abbrev two : Parts
  two = first_two reg sch

  abbrev four : Parts
  four = with_plan two plan

  within : Within reg
  within = (valid_register c.args.quadratization.now.register_valid).within

  fourth : PlanRead s two c.args.from plan c.in_ok-plan.field-0.end
  fourth = plan_read s two c.args.from c.requires.inside c.in_ok-plan.field-0 c.in_ok-plan.ensures

pub certificate_at-requires-clause-inside : goal.certificate_at-requires-clause-inside
certificate_at-requires-clause-inside c = (fourth (goal.at.certificate_at-requires-clause-inside c).In_ok-plan).inside

-- ---- part 3

module _ (c : After-certificate_at) where
  abbrev at₄ : In_ok-plan
  at₄ = (goal.at.After-certificate_at c).In_ok-plan

  holds : c.certificate_at.new.table ≡ table_of_rest (s at₄) plan_first (two at₄) c.args.from c.args.table.now
  holds =
      c.certificate_at.ensures.table_after
      ∙ table_chosen (s at₄) (reg at₄) (within at₄) (sch at₄) c.in_ok-plan.field-0.end (plan at₄) _ _ c.quadratization_under-chosen.ensures.register c.quadratization_under-chosen.ensures.scheme c.args.table.now
      ∙ ap (table_by (s at₄) c.args.table.now) ((fourth at₄).leads [])

  chosen_at : certificate_at (s at₄) c.quadratization_under-chosen.result.register c.quadratization_under-chosen.result.scheme (coefficient c.quadratization_under-chosen.result.register) c.in_ok-plan.field-0.end
      ≡ certificate_at (s at₄) (reg at₄) (sch at₄) (coefficients (four at₄)) c.in_ok-plan.field-0.end
  chosen_at = certificate_chosen (s at₄) (reg at₄) (within at₄) (sch at₄) c.in_ok-plan.field-0.end (plan at₄) _ _ c.quadratization_under-chosen.ensures.register c.quadratization_under-chosen.ensures.scheme

pub returns-in_err-bound : goal.returns-in_err-bound
returns-in_err-bound c =
    let k = (goal.at.returns-in_err-bound c).After-certificate_at in
    let p = at₄ k in
    let f = c.in_err-bound.field-0.0 in
    let said : outcome_of c.from_residual-in_err-bound.result ≡ refuses (number_of f.refusal) f.part f.position = search rules in
    let second = certificate_refused (s p) (four p) c.in_ok-plan.field-0.end (c.in_err-bound.ensures.value ∙ chosen_at k) [] in
    record { value = said ∙ ap (read_by (s p) 3) (second ∙ (fourth p).leads (part_three ∷ [])); table_after = holds k }

module _ (c : In_ok-bound) where
  abbrev at₃ : After-certificate_at
  at₃ = (goal.at.In_ok-bound c).After-certificate_at

  third : CertificateRead (s (at₄ at₃)) (four (at₄ at₃)) c.in_ok-plan.field-0.end c.in_ok-bound.field-0.value c.in_ok-bound.field-0.end
  third = certificate_read (s (at₄ at₃)) (four (at₄ at₃)) c.in_ok-plan.field-0.end (fourth (at₄ at₃)).inside c.in_ok-bound.field-0 (c.in_ok-bound.ensures.value ∙ chosen_at at₃)

  abbrev three : Parts
  three = with_certificate (four (at₄ at₃)) third.certificate

  leads : read_by (s (at₄ at₃)) 3 (accepts (three, c.in_ok-bound.field-0.end)) ≡ read_by (s (at₄ at₃)) 3 (in_turn plan_first (s (at₄ at₃)) (two (at₄ at₃)) c.args.from)
  leads = ap (read_by (s (at₄ at₃)) 3) (third.leads [] ∙ (fourth (at₄ at₃)).leads (part_three ∷ []))

  -- the bound's size, and its bits

  small : nat_abs c.in_ok-bound.field-0.value ≤ max_target
  small = third.small

  read_back : to_z w64 (of_z w64 c.in_ok-bound.field-0.value) ≡ c.in_ok-bound.field-0.value
  read_back = read_signed w64 c.in_ok-bound.field-0.value (omega (arith, small))

-- ---- the job's end

pub returns-in_err-ends_job : goal.returns-in_err-ends_job
returns-in_err-ends_job c =
    let k = (goal.at.returns-in_err-ends_job c).In_ok-bound in
    let f = c.in_err-ends_job.field-0.0 in
    let said : outcome_of c.from_residual-in_err-ends_job.result ≡ refuses (number_of f.refusal) f.part f.position = search rules in
    record { value = said ∙ past_end (s (at₄ (at₃ k))) 3 c.in_ok-bound.field-0.end c.in_err-ends_job.ensures (three k) ∙ leads k; table_after = holds (at₃ k) }

pub accepted-requires : goal.accepted-requires
accepted-requires c =
    let k = (goal.at.accepted-requires c).In_ok-bound in
    record { within = within (at₄ (at₃ k)); bound_bound = rw (read_back k) (small k) }

pub returns : goal.returns
returns c =
    let k = (goal.at.returns c).In_ok-bound in
    let p = at₄ (at₃ k) in
    let is = c.accepted.ensures ∙ ap (accepted_read (reg p) (plan p)) (read_back k ∙ sym (third k).bound_is) in
    record { value = ap accepts is ∙ at_end (s p) 3 c.in_ok-bound.field-0.end c.in_ok-ends_job.ensures (three k) ∙ leads k; table_after = holds (at₃ k) }
