use Prim.Native.Nat.{ℕ, zero, suc, ◌*◌, ◌≤◌}
use mathlib.Core.Path.{◌≡◌, refl, sym, ◌∙◌, ap}
use mathlib.Core.List.{List, ◌∷◌}
use native.Mathlib.Omega.{arith}
use borrow.Author.Rules.{rules}
use lib.IntN.{ℤ, pos}
use lib.ListN.{length, replicate, length-replicate}
use Rattle.forms.specs.Form.{times, entry}
use Rattle.forms.specs.Table.{table_numbers, with_table}
use Rattle.forms.specs.declared.SquareTable.{SquareTable}
use Rattle.forms.specs.Store.{add_form, cleared, Room, Adds, max_before_forms}
use Rattle.forms.proofs.Store.{stored, bounded_cleared, bounded_weaken}
use Rattle.forms.proofs.Times.{times_one}
use Rattle.register.specs.declared.Register.{Register}
use Rattle.register.specs.Register.{coefficient}
use Rattle.scheme.specs.declared.Scheme.{Scheme}
use Rattle.scheme.specs.Scheme.{side}
use Rattle.scheme.specs.Function.{g}
use Rattle.scheme.specs.Valid.{Valid}
use Rattle.scheme.proofs.Table.{g_below}
use Rattle.penalty.proofs.Bounds.{side_square}
use Rattle.plain.proofs.function_table.Goals as goal

-- a run of zeros is cleared
zeros_cleared : (k n : ℕ) → k ≤ n → cleared k (replicate n (pos 0)) ≡ replicate n (pos 0)
zeros_cleared zero n l = refl
zeros_cleared (suc k) zero l = absurd (omega arith)
zeros_cleared (suc k) (suc n) l = ap (λ x. pos 0 ∷ x) (zeros_cleared k n (omega arith))

module _ (r : Register) (s : Scheme) (valid : Valid r s) (t : SquareTable) (is_side : t.side ≡ side r.choices s) (z : t.numbers.now ≡ replicate table_numbers (pos 0)) where
  square : t.side * t.side ≤ table_numbers
  square = rw is_side (side_square r s valid)

  cleared_is : cleared (t.side * t.side) t.numbers.now ≡ t.numbers.now
  cleared_is = rw z (zeros_cleared (t.side * t.side) table_numbers square)

  long : t.side * t.side ≤ length t.numbers.now
  long = rw (z, length-replicate) square

  room : Room max_before_forms t
  room = bounded_weaken (rw cleared_is at (bounded_cleared t.side t.numbers.now long)) (omega arith)

  whole : {u : SquareTable} {x : List ℤ} → Adds (times (pos 1) (g (coefficient r) r s)) t u → x ≡ u.numbers.now → x ≡ with_table (side r.choices s) (entry (g (coefficient r) r s)) (replicate table_numbers (pos 0))
  whole a e =
      e
      ∙ a.holds
      ∙ ap (λ f. add_form t.side f t.numbers.now) (times_one (g (coefficient r) r s))
      ∙ ap (add_form t.side (g (coefficient r) r s)) (sym cleared_is)
      ∙ rw (is_side, z) (stored (g_below (coefficient r) r s valid) (replicate table_numbers (pos 0)) (rw (is_side, z) at long))

pub add_function-requires-clause-room : goal.add_function-requires-clause-room
add_function-requires-clause-room c =
    let q = c.args.quadratization.now in
    room q.register q.scheme q.scheme_valid (record { numbers = record { ref_ptr = (0, 0); ghost_name = 0; now = _ }; side = _ }) c.side.ensures refl

pub returns : goal.returns
returns c =
    let q = c.args.quadratization.now in
    whole q.register q.scheme q.scheme_valid _ c.side.ensures refl c.add_function.ensures (search rules)
