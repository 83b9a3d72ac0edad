use Rattle.std.proofs.Common.{sym, ◌∙◌}
use Rattle.vectors.proofs.Digits.{decimal_none, decimal_some, more_digits, no_digit, no_digits_left}
use Rattle.vectors.proofs.number.decimal.Goals as goal

pub returns-then-is_empty : goal.returns-then-is_empty
returns-then-is_empty c = sym (decimal_none _ c.if-is_empty.ensures)

pub returns-in_err-value : goal.returns-in_err-value
returns-in_err-value c =
    c.from_residual.ensures
    ∙ sym (decimal_some _ c.if-is_empty.ensures ∙ sym c.loop-digit.invariant ∙ no_digit _ _ _ c.loop-digit-test.true c.in_err-value.ensures)

pub loop-digit-preserved : goal.loop-digit-preserved
loop-digit-preserved c = more_digits _ _ _ c.loop-digit-test.true _ c.in_ok-value.ensures ∙ c.loop-digit.invariant

pub returns : goal.returns
returns c = sym (decimal_some _ c.if-is_empty.ensures ∙ sym c.loop-digit.invariant ∙ no_digits_left _ _ _ c.loop-digit-test.false)
