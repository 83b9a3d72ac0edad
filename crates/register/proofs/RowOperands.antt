-- The operands of `14`: the total and the entries that they say, and that they are read back.
use Prim.Native.Nat.{ℕ, ◌+◌, ◌<◌}
use native.Mathlib.Omega.{arith}
use native.Mathlib.Nat.{one-mul}
use mathlib.Core.Path.{◌≡◌, sym, ◌∙◌, ap, ap₂}
use mathlib.Core.List.{List, [], ◌∷◌, map}
use lib.Dec.{ltb}
use lib.IntN.{ℤ, pos}
use lib.ListN.{length, get_or, drop, replicate, length-map, get_or-map}
use mir.Syntax.{w8, w16}
use mir.Val.{SFits, to_z, of_z}
use mir.Facts.{of_z-to_z, Fits-of_z}
use borrow.Author.Tests.{ltb-true, ltb-false}
use Rattle.integers.proofs.Lists.{flag}
use Rattle.integers.proofs.Blocks.{ones_at}
use Rattle.integers.proofs.Join.{join_cong}
use Rattle.wire.specs.Number.{int_at}
use Rattle.wire.specs.Part.{operands_at}
use Rattle.wire.specs.Rows.{first_of}
use Rattle.wire.specs.Encoding.{Fit}
use Rattle.wire.proofs.Many.{length_first, first_all, length_many, signed_operands, signed_said, fit_signed, signed_back}
use Rattle.register.specs.Limits.{row_entries}
use Rattle.register.specs.Format.{zero_past, entries_of, row_row}
use Rattle.register.specs.Answer.{entries_at}
use Rattle.register.proofs.Passes.{zeros_same}

pub entries_long : (xs : List ℕ) → length (entries_of xs) ≡ row_entries
entries_long xs = length-map (first_of row_entries (drop 1 xs)) (to_z w8) ∙ length_first row_entries (drop 1 xs)

-- each entry has 8 bits, whatever the operands are
read_fits : (n : ℕ) → SFits w8 (to_z w8 n)
read_fits n = flag (ltb n 128) (λ t. rw t (record { sfits = ltb-true n 128 t })) (λ t. rw t (record { sfits = omega (arith, ltb-false n 128 t) }))

pub entries_read : (xs : List ℕ) (j : ℕ) → SFits w8 (get_or (entries_of xs) j (pos 0))
entries_read xs j = rw (get_or-map (to_z w8) (first_of row_entries (drop 1 xs)) j 0) (read_fits _)

-- operands that fit are those of what they say
pub row_said : (xs : List ℕ) → Fit row_row.widths xs → xs ≡ of_z w16 (to_z w16 (get_or xs 0 0)) ∷ map (of_z w8) (entries_of xs)
row_said [] f = absurd f
row_said (x ∷ xs) f = ap₂ (λ y ys. y ∷ ys) (sym (of_z-to_z {w = w16} (record { fits = f.0 }))) (signed_said w8 row_entries xs f.1)

-- ---- and operands of a total and of entries that fit

module _ (b : ℤ) (es : List ℤ) (long : length es ≡ row_entries) (bytes : (j : ℕ) → j < row_entries → SFits w8 (get_or es j (pos 0))) where
  pub row_fit : SFits w16 b → Fit row_row.widths (of_z w16 b ∷ map (of_z w8) es)
  row_fit f = ((Fits-of_z f).fits, fit_signed w8 row_entries es long bytes)

  pub entries_back : entries_of (of_z w16 b ∷ map (of_z w8) es) ≡ es
  entries_back = signed_back w8 row_entries es long bytes

-- the entries in the operands at a position
pub entries_at_lem : (s : List ℕ) (at : ℕ) → entries_of (operands_at row_row.widths s at) ≡ entries_at s (at + 2)
unfolding operands_at
entries_at_lem s at =
    let xs = operands_at (replicate row_entries 1) s (at + 2) in
    let same : first_of row_entries xs ≡ xs = first_all row_entries xs (length_many row_entries 1 s (at + 2)) in
    ap (map (to_z w8)) same ∙ signed_operands w8 row_entries s (at + 2) ∙ join_cong row_entries _ _ (λ j l. ap (λ x. int_at w8 s (at + 2 + x) ∷ []) (one-mul j))

-- and whether those past the choices are 0
pub zeros_at : (n : ℕ) (s : List ℕ) (at : ℕ) → zero_past n (λ j. get_or (entries_of (operands_at row_row.widths s at)) j (pos 0)) ≡ zero_past n (λ j. int_at w8 s (at + 2 + j))
zeros_at n s at =
    zeros_same n (λ j. get_or (entries_of (operands_at row_row.widths s at)) j (pos 0)) (λ j. int_at w8 s (at + 2 + j))
    (λ j l. ap (λ es. get_or es j (pos 0)) (entries_at_lem s at) ∙ ones_at (λ j. int_at w8 s (at + 2 + j)) row_entries j (pos 0) l)
