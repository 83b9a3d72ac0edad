use mathlib.Core.Path.{◌≡◌, ◌∙◌, ap}
use Prim.Native.Nat.{ℕ, ◌+◌, ◌/◌}
use native.Mathlib.Omega.{arith}
use lib.IntN.{nat_abs}
use borrow.Author.Rules.{rules}
use Rattle.std.specs.Int.{div_ceil}
use contract.BorrowLft.{⊑_meet, ⊑_static}
use Rattle.integers.specs.Quadratic.{off_diagonal}
use Rattle.plain.specs.InTable.{half_in}
use Rattle.plain.proofs.InTable.{row_small}
use Rattle.plain.proofs.FunctionTable.half_row_sum.Goals as goal

-- half a number, rounded up
half : (k : ℕ) → div_ceil k 2 ≡ (k + 1) / 2
half k = omega arith

pub sum_of-requires : goal.sum_of-requires
sum_of-requires c κs within =
    let q = c.args.self.now in
    (search (rules, ⊑_meet, ⊑_static) depth 12, (search rules, ((λ i x l p. search rules), (λ k l. omega (arith, q.small.few, row_small q.n q.numbers.now q.small c.args.i c.requires k l)))))

pub returns : goal.returns
unfolding half_in off_diagonal
returns c = c.div_ceil.ensures ∙ half c.sum_of.result ∙ ap (λ x. (nat_abs x + 1) / 2) c.sum_of.ensures
