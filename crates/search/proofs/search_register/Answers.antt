-- `search::search_register` meets its contract. An opened register is within the limits, as the search requires.
use mathlib.Core.Path.{◌∙◌}
use Rattle.std.proofs.Common.{rules}
use Rattle.std.proofs.lemmas.Result.{err_from_is_err_and}
use Rattle.register.proofs.Opened.{opened_by}
use Rattle.search.proofs.Answers.{register_refused, then_search, told_nowhere}
use Rattle.search.proofs.search_register.Goals as goal

pub returns-in_err-register : goal.returns-in_err-register
returns-in_err-register c =
    let p = err_from_is_err_and c.from_residual.result c.from_residual.ensures.1 in
    rw (p.1, p.2) (register_refused c.args.register.now c.args.limit c.in_err-register.ensures)

pub search_from-requires : goal.search_from-requires
search_from-requires c = (opened_by c.args.register.now c.in_ok-register.register c.in_ok-register.ensures).valid.within

pub returns : goal.returns
returns c = told_nowhere c.search_from.result c.map_err.result _ c.map_err.ensures.cases (λ e f h. search rules) ∙ c.search_from.ensures ∙ then_search c.args.register.now c.args.limit c.in_ok-register.ensures
