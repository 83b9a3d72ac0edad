-- By the command's byte.
use native.Mathlib.Omega.{arith}
use mathlib.Core.Path.{◌∙◌}
use Rattle.wire.specs.Rows.{row_of}
use Rattle.wire.proofs.Rest.{no_row_lem}
use Rattle.scheme.specs.Format.{scheme_rows}
use Rattle.scheme.proofs.checks.stands_after.Goals as goal

pub returns-in-33 : goal.returns-in-33
unfolding row_of
returns-in-33 c = λ reg. c.before_splits.ensures ∙ rw c.in-33.is

pub returns-in-34 : goal.returns-in-34
unfolding row_of
returns-in-34 c = λ reg. c.after_products.ensures ∙ rw c.in-34.is

pub returns-in-35 : goal.returns-in-35
unfolding row_of
returns-in-35 c = λ reg. rw c.in-35.is

pub returns-in-47 : goal.returns-in-47
unfolding row_of
returns-in-47 c = λ reg. c.after_products-in-47.ensures ∙ rw c.in-47.is

pub returns-in_default : goal.returns-in_default
returns-in_default c = λ reg. rw (no_row_lem (scheme_rows reg) c.args.command (λ e. omega arith, (λ e. omega arith, (λ e. omega arith, (λ e. omega arith, tt)))))
