-- `plan::rows::fits_rows` meets its contract.
use Rattle.std.proofs.Common.{rules, refl, ◌∙◌, zero-add, tests}
use native.Mathlib.Nat.{sub-zero}
use Rattle.std.specs.Ordering.{int_eq}
use Rattle.std.proofs.lemmas.Iterator.{YieldsList-from_range}
use Rattle.std.proofs.lemmas.Iterator.Search.{all_from_yields_List}
use Rattle.plan.specs.Fits.{fed_sum, fits_rows}
use Rattle.register.specs.Register.{row_entry, row_total}
use Rattle.plan.proofs.Fits.{list_all_below}
use Rattle.plan.proofs.rows.fits_rows.Goals as goal

pub returns : goal.returns
unfolding fits_rows
returns c =
    let r = c.args.register.now in
    all_from_yields_List (λ k. int_eq (fed_sum r.choices (row_entry r k) c.args.plan) (row_total r k)) _ _ c.all.result c.all.ensures.ran (YieldsList-from_range 0 r.rows r.rows refl (sub-zero r.rows)) (λ x b q k. search (rules, tests))
    ∙ list_all_below r.rows 0 _ _ (λ i l. rw zero-add)
