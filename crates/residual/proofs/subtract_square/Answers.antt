use Prim.Native.Nat.{ℕ, ◌+◌, ◌*◌, ◌≤◌}
use mathlib.Core.Path.{◌≡◌, refl, sym, ◌∙◌, ap}
use mathlib.Core.List.{List}
use native.Mathlib.Omega.{arith}
use lib.Dec.{eqb}
use lib.IntN.{ℤ}
use lib.ListN.{length}
use mir.Syntax.{w64}
use mir.Facts.{to_z-of_z}
use borrow.Author.Tests.{eqb-true, le-ltb, lt-ltb}
use Rattle.forms.specs.Store.{Bounded, max_before_monomial, max_before_form}
use Rattle.forms.proofs.Store.{bounded_weaken}
use Rattle.certificate.specs.Limits.{square_entries}
use Rattle.certificate.specs.Certificate.{Square}
use Rattle.certificate.specs.Answer.{square_in}
use Rattle.residual.specs.Residual.{square_at}
use Rattle.residual.specs.Built.{SquareRange, row_factor, times_entries, less_where}
use Rattle.residual.proofs.Subtracted.{joins_next, less_cong, less_none, less_then, bounded_less}
use Rattle.residual.proofs.Squares.{square_by_row, product_small}
use Rattle.residual.proofs.subtract_square.Invariants.{first}
use Rattle.residual.proofs.subtract_square.Goals as goal

-- with i rows subtracted
module _ (n : ℕ) (q : Square) (i : ℕ) (t t₀ : List ℤ) (d : t ≡ less_where n (square_at q) (first i) t₀) where
  -- there is room for one more
  room : SquareRange q → n ≤ square_entries → Bounded n max_before_form t₀ → Bounded n max_before_monomial t
  room ok small h = rw d (bounded_weaken (bounded_less n (square_at q) (first i) (λ i j l m. product_small q ok i j (omega arith) (omega arith)) h) (omega arith))

  -- row i subtracted by its factor
  next_row : (f : ℤ) (u : List ℤ) → n * n ≤ length t₀ → f ≡ row_factor q i → u ≡ less_where n (times_entries f q.v) (λ k l. eqb k i) t → u ≡ less_where n (square_at q) (first (i + 1)) t₀
  next_row f u l e h =
      h
      ∙ less_cong n t (λ _ _ _ _. refl) (λ k l _ _ o. ap (λ g. times_entries g q.v k l) (e ∙ ap (row_factor q) (sym (eqb-true k i o))) ∙ sym (square_by_row q k l))
      ∙ rw d (less_then n (square_at q) (λ k _ _ _. joins_next k i) t₀ l)

pub loop-row-init : goal.loop-row-init
loop-row-init c = record {
  same_reference = refl;
  same_side = refl;
  holds = less_none c.args.table.now.side _ (first 0) c.args.table.now.numbers.now c.requires.room.long (λ i j _ _. le-ltb i 0 (omega arith));
}

pub subtract_row-requires-clause-bounded : goal.subtract_row-requires-clause-bounded
subtract_row-requires-clause-bounded c =
    room c.args.table.now.side (square_in c.args.square.now) c.loop-row.row _ c.args.table.now.numbers.now c.loop-row.invariant.holds c.requires.square_range c.requires.side_le_square_entries c.requires.room

pub loop-row-preserved : goal.loop-row-preserved
loop-row-preserved c = record {
  same_reference = c.loop-row.invariant.same_reference;
  same_side = c.loop-row.invariant.same_side;
  holds =
      next_row c.args.table.now.side (square_in c.args.square.now) c.loop-row.row _ c.args.table.now.numbers.now c.loop-row.invariant.holds _ _ c.requires.room.long
      (to_z-of_z {w = w64} (record { sfits = c.row_factor-factor.type_inv }) ∙ c.row_factor-factor.ensures) c.subtract_row.ensures;
}

pub returns : goal.returns
returns c = record {
  same_reference = c.loop-row.invariant.same_reference;
  same_side = c.loop-row.invariant.same_side;
  holds =
      c.loop-row.invariant.holds
      ∙ less_cong c.args.table.now.side c.args.table.now.numbers.now (λ i j l m. lt-ltb i c.loop-row.row (omega arith)) (λ _ _ _ _ _. refl);
}
