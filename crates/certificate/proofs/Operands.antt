-- The operands of a multiplier command and of a square, one by one.
use mathlib.Core.Path.{◌≡◌, refl, sym, ap, ◌∙◌}
use mathlib.Core.List.{List, [], ◌∷◌, ◌++◌, map}
use Prim.Native.Nat.{ℕ, zero, suc, ◌+◌, ◌*◌, ◌<◌, ◌≤◌}
use native.Mathlib.Nat.{one-mul}
use native.Mathlib.Omega.{arith}
use lib.ListN.{length, get_or, take, drop, replicate, get_or-eq_default, length-take}
use Rattle.std.proofs.lemmas.List.{get_or-take, get_or-drop}
use native.Mathlib.Decide.{dec_lt}
use Rattle.wire.proofs.Number.{nat_at_one}
use lib.IntN.{ℤ, pos}
use mir.Syntax.{w16}
use mir.Val.{to_z}
use Rattle.integers.proofs.Blocks.{ones_are}
use Rattle.wire.specs.Number.{nat_at, int_at}
use Rattle.wire.specs.Part.{operands_at, total}
use Rattle.wire.specs.Rows.{first_of}
use Rattle.wire.proofs.Many.{first_all, length_many, operand_at, signed_operands}
use Rattle.certificate.specs.declared.Square.{Square as Filled}
use Rattle.certificate.specs.Limits.{square_entries}
use Rattle.certificate.specs.Answer.{filled_of, square_read}

-- a number that a multiplier command names, 0 where it names fewer

pub name_there : (k : ℕ) (s : List ℕ) (at i : ℕ) → i < k → get_or (operands_at (replicate k 1) s at) i 0 ≡ nat_at 1 s (at + i)
name_there k s at i l = operand_at k 1 s at i l ∙ ap (λ x. nat_at 1 s (at + x)) (one-mul i)

pub name_past : (k : ℕ) (s : List ℕ) (at i : ℕ) → k ≤ i → get_or (operands_at (replicate k 1) s at) i 0 ≡ 0
name_past k s at i l =
    get_or-eq_default (operands_at (replicate k 1) s at) 0 (omega (arith, length_many k 1 s at))

-- and so it is among the bytes that stand there
pub name_is : (k : ℕ) (s : List ℕ) (at i : ℕ) → at + k ≤ length s → get_or (take k (drop at s)) i 0 ≡ get_or (operands_at (replicate k 1) s at) i 0
name_is k s at i l = by (dec_lt i k)
  where
    by : Dec (i < k) → get_or (take k (drop at s)) i 0 ≡ get_or (operands_at (replicate k 1) s at) i 0
    by (yes b) =
        get_or-take k (drop at s) i 0 b ∙ get_or-drop at s i 0
        ∙ sym (name_there k s at i b ∙ nat_at_one s (at + i) (omega arith))
    by (no d) = get_or-eq_default (take k (drop at s)) 0 (omega (arith, length-take k (drop at s))) ∙ sym (name_past k s at i (omega arith))

-- the numbers that a multiplier command names, and the multiplier after them

pub names_first : (k : ℕ) (s : List ℕ) (at : ℕ) → first_of k (operands_at (replicate k 1 ++ (8 ∷ [])) s at) ≡ operands_at (replicate k 1) s at
unfolding operands_at
names_first zero s at = refl
names_first (suc k) s at = ap (λ xs. nat_at 1 s at ∷ xs) (names_first k s (at + 1))

pub multiplier_last : (k : ℕ) (s : List ℕ) (at : ℕ) → get_or (operands_at (replicate k 1 ++ (8 ∷ [])) s at) k 0 ≡ nat_at 8 s (at + k)
unfolding operands_at
multiplier_last zero s at = ap (nat_at 8 s) (omega arith)
multiplier_last (suc k) s at = multiplier_last k s (at + 1) ∙ ap (nat_at 8 s) (omega arith)

pub total_multiplier : (k : ℕ) → suc (total (replicate k 1 ++ (8 ∷ []))) ≡ 9 + k
unfolding total
total_multiplier zero = refl
total_multiplier (suc k) = omega (arith, total_multiplier k)

-- the entries of a square
pub entries_are : (k : ℕ) (s : List ℕ) (at : ℕ) (v : List ℤ) → length v ≡ k → ((i : ℕ) → i < k → get_or v i (pos 0) ≡ int_at w16 s (at + 2 * i)) → v ≡ map (to_z w16) (operands_at (replicate k 2) s at)
entries_are k s at v l h = sym (ones_are (pos 0) k (λ i. int_at w16 s (at + 2 * i)) v l h) ∙ sym (signed_operands w16 k s at)

-- a square whose weight and entries are those at a position
pub square_is : (s : List ℕ) (at : ℕ) (q : Filled) → q.weight ≡ nat_at 4 s (at + 1) → q.entries ≡ map (to_z w16) (operands_at (replicate square_entries 2) s (at + 1 + 4)) → q ≡ filled_of (square_read s at)
unfolding square_read operands_at
square_is s at q e f =
    let xs = operands_at (replicate square_entries 2) s (at + 1 + 4) in
    let all : first_of square_entries xs ≡ xs = first_all square_entries xs (length_many square_entries 2 s (at + 1 + 4)) in
    λ i. record { weight = e i; entries = (f ∙ ap (map (to_z w16)) (sym all)) i }
