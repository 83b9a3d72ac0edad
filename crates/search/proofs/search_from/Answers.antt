-- `search::search_from` meets its contract: the answer is by what the walk has come to.
use mathlib.Core.Path.{◌≡◌, refl, ◌∙◌}
use mir.Syntax.{w64}
use mir.Val.{to_z, of_z}
use mir.Facts.{to_z-of_z}
use Rattle.std.proofs.lemmas.Result.{err_from_is_err_and}
use Rattle.std.proofs.Common.{rules}
use Rattle.search.proofs.Answers.{passes, answers, best_err, best_ok}
use Rattle.search.proofs.search_from.Goals as goal

pub walk_from_empty-requires-clause-fresh : goal.walk_from_empty-requires-clause-fresh
walk_from_empty-requires-clause-fresh c = refl

pub returns-in_err-walk_from_empty : goal.returns-in_err-walk_from_empty
returns-in_err-walk_from_empty c =
    let p = err_from_is_err_and c.from_residual.result c.from_residual.ensures.1 in
    rw (p.1, p.2) (passes _ _ _ _ c.in_err-walk_from_empty.ensures.reached refl)

pub returns-in_err-best : goal.returns-in_err-best
returns-in_err-best c =
    let p = err_from_is_err_and c.from_residual-in_err-best.result c.from_residual-in_err-best.ensures.1 in
    rw (p.1, p.2) (best_err _ _ c.in_err-best.ensures.value ∙ answers _ _ _ _ c.in_ok-walk_from_empty.ensures.reached refl)

pub returns : goal.returns
returns c =
    let read : to_z w64 (of_z w64 c.in_ok-best.best.cost) ≡ c.in_ok-best.best.cost = to_z-of_z {w = w64} (search rules) in
    rw read (best_ok _ _ c.in_ok-best.ensures.value ∙ answers _ _ _ _ c.in_ok-walk_from_empty.ensures.reached refl)
