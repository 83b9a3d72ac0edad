use mathlib.Core.Path.{◌∙◌}
use Rattle.register.proofs.Answers.{answers_read, answers_past, answers_refused}
use Rattle.register.proofs.feedcheck_register.Goals as goal

pub returns-then-end-bytes : goal.returns-then-end-bytes
returns-then-end-bytes c = c.from_fault-then-end-bytes.ensures ∙ answers_past c.args.bytes.now c.in-Ok.ensures c.if-end-bytes.true

pub returns : goal.returns
returns c = answers_read c.args.bytes.now c.in-Ok.ensures c.if-end-bytes.false

pub returns-in-Err : goal.returns-in-Err
returns-in-Err c = rw (c.from_fault.ensures, c.in_part.ensures) (answers_refused c.args.bytes.now c.in-Err.ensures)
