-- By the supplier's number, then by the outcome of the job.
use mathlib.Core.Path.{◌≡◌, ◌∙◌, ap}
use native.Mathlib.Omega.{arith}
use mir.Syntax.{w64}
use mir.Val.{SFits, to_z, of_z}
use mir.Facts.{to_z-of_z}
use borrow.Author.Rules.{rules}
use Rattle.wire.specs.declared.refusals.Fault.{Fault}
use Rattle.wire.specs.Results.{number_of}
use Rattle.job.specs.declared.Tally.{Tally}
use Rattle.job.specs.declared.JobRead.{JobRead}
use Rattle.job.specs.declared.JobAnswer.{JobAnswer}
use Rattle.job.specs.Tally.{with_pair}
use Rattle.job.specs.Answer.{refused_answer}
use Rattle.job.proofs.Call.{answered, none, call_refused, call_accepted}
use Rattle.job.proofs.feedcheck_job.Goals as goal

-- numbers that fit are read back as they are
read_back : (read : JobRead) (tally : Tally) → SFits w64 read.bound → SFits w64 read.cost → SFits w64 read.gap →
    ◌≡◌ {A = JobAnswer} (record {
      number = 0;
      part = 0;
      position = 0;
      bound = to_z w64 (of_z w64 read.bound);
      cost = to_z w64 (of_z w64 read.cost);
      gap = to_z w64 (of_z w64 read.gap);
      tally = tally;
    }) (answered read tally)
read_back read tally b z g = rw (to_z-of_z b, to_z-of_z z, to_z-of_z g)

pub returns-then-index-ge-SUPPLIERS : goal.returns-then-index-ge-SUPPLIERS
returns-then-index-ge-SUPPLIERS c =
    let x = none c.args.job.now c.args.table.now c.args.supplier c.args.tally (omega arith) in
    record {
      value = c.refused.ensures ∙ ap (λ (f : Fault). refused_answer (number_of f.refusal) f.part f.position c.args.tally) c.nowhere.ensures ∙ x.answers;
      table_after = x.holds;
    }

pub returns-in-Ok : goal.returns-in-Ok
returns-in-Ok c =
    let r = c.in-Ok.read in
    let b : SFits w64 r.bound = search rules in
    let z : SFits w64 r.cost = search rules in
    let g : SFits w64 r.gap = search rules in
    let x = call_accepted c.args.job.now c.args.table.now c.args.supplier c.args.tally (omega arith) _ c.in-Ok.ensures.table_after c.in-Ok.ensures.value in
    record {
      value =
          read_back r c.with_pair.result b z g
          ∙ ap (answered r) (c.with_pair.ensures ∙ ap (λ pair. with_pair c.args.supplier pair c.args.tally) c.with_accepted.ensures)
          ∙ x.answers;
      table_after = x.holds;
    }

pub returns-in-Err : goal.returns-in-Err
returns-in-Err c =
    let f = c.in-Err.fault in
    let x = call_refused c.args.job.now c.args.table.now c.args.supplier c.args.tally (omega arith) _ c.in-Err.ensures.table_after c.in-Err.ensures.value in
    record {
      value =
          c.refused-in-Err.ensures
          ∙ ap (refused_answer (number_of f.refusal) f.part f.position) (c.with_pair-in-Err.ensures ∙ ap (λ pair. with_pair c.args.supplier pair c.args.tally) c.with_refused.ensures)
          ∙ x.answers;
      table_after = x.holds;
    }
