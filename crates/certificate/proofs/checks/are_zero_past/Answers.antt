-- By what `all` finds.
use Rattle.std.proofs.Common.{rules, ◌∙◌, ◌||◌, leb, eqb, nat_abs, pos, ℕ, ℤ}
use Rattle.std.proofs.lemmas.Iterator.{YieldsList-from_slice}
use Rattle.std.proofs.lemmas.Iterator.Consumers.{YieldsList-from_enumerate}
use Rattle.std.proofs.lemmas.Iterator.Search.{all_from_yields_List}
use Rattle.certificate.proofs.Within.{all_of_numbered}
use Rattle.certificate.proofs.checks.are_zero_past.Goals as goal

pub returns : goal.returns
returns c =
    all_from_yields_List {B = ℕ × ℤ} (λ p. leb p.0 c.args.place || eqb (nat_abs p.1) 0) _ _ _ c.all.ensures.ran (YieldsList-from_enumerate (YieldsList-from_slice c.args.entries.now cc) c.enumerate.ensures.count) (λ x b q k. search rules)
    ∙ all_of_numbered (λ p. leb p.0 c.args.place || eqb (nat_abs p.1) 0) c.args.entries.now (pos 0)
