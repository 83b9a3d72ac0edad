use native.Mathlib.Omega.{arith}
use borrow.Author.Rules.{rules}
use contract.BorrowLft.{⊑_meet, ⊑_static}
use Rattle.plain.specs.InTable.{subtracted_in}
use Rattle.plain.proofs.InTable.{subtracted_small}
use Rattle.plain.proofs.FunctionTable.subtracted.Goals as goal

pub sum_of-requires : goal.sum_of-requires
sum_of-requires c κs within =
    let q = c.args.self.now in
    (search (rules, ⊑_meet, ⊑_static) depth 12, (search rules, ((λ i x l p. search rules), (λ k l. omega (arith, subtracted_small q.n q.numbers.now q.small k l)))))

pub returns : goal.returns
unfolding subtracted_in
returns c = c.sum_of.ensures
