-- By what `all` finds.
use Rattle.std.proofs.Common.{rules, ◌∙◌, leb, nat_abs, pos}
use Rattle.std.proofs.lemmas.Iterator.{YieldsList-from_slice}
use Rattle.std.proofs.lemmas.Iterator.Search.{all_from_yields_List}
use Rattle.certificate.specs.Limits.{max_entry}
use Rattle.certificate.proofs.Within.{all_of_list}
use Rattle.certificate.proofs.checks.are_within.Goals as goal

pub returns : goal.returns
returns c =
    all_from_yields_List (λ x. leb (nat_abs x) max_entry) _ _ _ c.all.ensures.ran (YieldsList-from_slice c.args.entries.now cc) (λ x b q k. search rules)
    ∙ all_of_list (λ x. leb (nat_abs x) max_entry) c.args.entries.now (pos 0)
