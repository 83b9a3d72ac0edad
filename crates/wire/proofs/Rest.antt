-- Bytes that have no row: what is left of a table where some of its rows are ruled out.
use Prim.Native.Nat.{ℕ}
use native.Mathlib.Decide.{ℕ_discrete}
use mathlib.Core.Path.{◌≡◌, refl}
use mathlib.Core.Bool.{true, false≢true}
use mathlib.Core.List.{List, [], ◌∷◌, ◌++◌}
use borrow.Author.Tests.{ne_eqb, eq-eqb}
use Rattle.integers.specs.Lists.{All}
use Rattle.wire.specs.Part.{total}
use Rattle.wire.specs.Rows.{Row, no_row, is_among, row_of}

module _ {R : Type 0} where
  -- the byte is that of none of the rows
  abbrev pub NoneOf : List (Row R) → ℕ → Type 0
  NoneOf rows b = All (λ row. b ≡ row.byte → ⊥) rows

  pub no_row_lem : (rows : List (Row R)) (b : ℕ) → NoneOf rows b → row_of rows b ≡ no_row
  unfolding row_of
  no_row_lem [] b h = refl
  no_row_lem (row ∷ rows) b h = rw (ne_eqb b row.byte h.0) (no_row_lem rows b h.1)

  -- what holds of the byte of each row, and where the byte has no row, holds of any byte
  pub by_bytes : (Q : ℕ → Type 0) (rows : List (Row R)) (b : ℕ) → (NoneOf rows b → Q b) → All (λ row. Q row.byte) rows → Q b
  by_bytes Q [] b none h = none tt
  by_bytes Q (row ∷ rows) b none h = go (ℕ_discrete b row.byte) (λ d. by_bytes Q rows b (λ n. none (d, n)) h.1)
    where
      go : Dec (b ≡ row.byte) → ((b ≡ row.byte → ⊥) → Q b) → Q b
      go (yes e) rest = rw e h.0
      go (no d) rest = rest d

  module _ (end : Row R) (b : ℕ) where
    -- it has the last row, or none
    last_row : (rows : List (Row R)) → NoneOf rows b → row_of (rows ++ (end ∷ [])) b ≡ row_of (end ∷ []) b
    unfolding row_of
    last_row [] h = refl
    last_row (row ∷ rows) h = rw (ne_eqb b row.byte h.0) (last_row rows h.1)

    by_last : (P : Row R → Type 0) → P no_row → (b ≡ end.byte → P end) → P (row_of (end ∷ []) b)
    unfolding row_of
    by_last P none h = go (ℕ_discrete b end.byte)
      where
        go : Dec (b ≡ end.byte) → P (row_of (end ∷ []) b)
        go (yes e) = rw (eq-eqb b end.byte e) (h e)
        go (no d) = rw (ne_eqb b end.byte d) none

    -- only the last row may stand anywhere
    pub only_last : (rows : List (Row R)) → NoneOf rows b → (previous : ℕ) → is_among previous (row_of (rows ++ (end ∷ [])) b).follows ≡ true → b ≡ end.byte
    only_last rows h previous e = by_last (λ row. is_among previous row.follows ≡ true → b ≡ end.byte) (λ f. absurd (false≢true f)) (λ e f. e) (rw (last_row rows h) at e)

    -- without operands it takes one byte, as a byte that has no row does
    pub total_last : (rows : List (Row R)) → NoneOf rows b → end.widths ≡ [] → total (row_of (rows ++ (end ∷ [])) b).widths ≡ 0
    unfolding total
    total_last rows h e = rw (last_row rows h) (by_last (λ row. total row.widths ≡ 0) refl (λ _. rw e))
