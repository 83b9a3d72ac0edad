-- By the table after the first command, and after the others.
use Prim.Native.Nat.{◌*◌, ◌≤◌}
use mathlib.Core.Path.{◌≡◌, sym, ◌∙◌}
use mathlib.Core.List.{List}
use native.Mathlib.Omega.{arith}
use lib.IntN.{ℤ}
use lib.ListN.{length}
use borrow.Author.Rules.{rules}
use Rattle.forms.specs.declared.SquareTable.{SquareTable}
use Rattle.forms.specs.Table.{table_numbers, with_table}
use Rattle.forms.specs.Store.{Becomes}
use Rattle.forms.proofs.Table.{with_table-length}
use Rattle.register.specs.Register.{coefficient}
use Rattle.scheme.specs.declared.parts.Quadratization.{Quadratization}
use Rattle.scheme.specs.Scheme.{side}
use Rattle.penalty.proofs.Bounds.{side_square}
use Rattle.certificate.specs.Certificate.{Certificate}
use Rattle.residual.specs.Residual.{R}
use Rattle.residual.proofs.Filled.{with_table_again}
use Rattle.residual.proofs.put_residual.Goals as goal

-- the table t as it is lent, u after the first command, w after the others
module _ (q : Quadratization) (t : SquareTable) (is_side : t.side ≡ side q.register.choices q.scheme) (long : table_numbers ≤ length t.numbers.now) where
  fits : t.side * t.side ≤ length t.numbers.now
  fits = rw is_side (omega (arith, side_square q.register q.scheme q.scheme_valid))

  module _ (first : Certificate) {u : SquareTable} (a : Becomes (with_table t.side (R (coefficient q.register) q.register q.scheme first) t.numbers.now) t u) where
    same_length : length u.numbers.now ≡ length t.numbers.now
    same_length = rw a.holds (with_table-length t.side _ t.numbers.now fits)

    starts : u.numbers.now ≡ with_table u.side (R (coefficient q.register) q.register q.scheme first) u.numbers.now
    starts = rw (a.same_side, a.holds) (sym (with_table_again t.side _ _ t.numbers.now fits))

    whole : (k : Certificate) {w : SquareTable} {x : List ℤ} → Becomes (with_table u.side (R (coefficient q.register) q.register q.scheme k) u.numbers.now) u w → x ≡ w.numbers.now
        → x ≡ with_table (side q.register.choices q.scheme) (R (coefficient q.register) q.register q.scheme k) t.numbers.now
    whole k d e = e ∙ d.holds ∙ rw (a.same_side, a.holds, is_side) (with_table_again (side q.register.choices q.scheme) _ _ t.numbers.now (rw is_side at fits))

pub put_commands-requires-clause-table_numbers_in_bounds : goal.put_commands-requires-clause-table_numbers_in_bounds
put_commands-requires-clause-table_numbers_in_bounds c =
    let l = same_length c.args.quadratization.now _ c.side.ensures c.requires.table_numbers_in_bounds _ c.put_scaled_function.ensures in
    omega (arith, l, c.requires.table_numbers_in_bounds)

pub put_commands-requires-clause-starts : goal.put_commands-requires-clause-starts
put_commands-requires-clause-starts c = starts c.args.quadratization.now _ c.side.ensures c.requires.table_numbers_in_bounds _ c.put_scaled_function.ensures

pub returns : goal.returns
returns c = λ p e d.
    let done = c.put_commands.ensures p e d in
    whole c.args.quadratization.now _ c.side.ensures c.requires.table_numbers_in_bounds _ c.put_scaled_function.ensures p.parsed done (search rules)
