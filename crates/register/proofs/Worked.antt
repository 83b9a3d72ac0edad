-- The rows of the paper's refusal table that speak of the register, and its example; minutes at the end of the long, the short and
-- the usual day, another length, and a second one; a row, one whose total is out of range, one with an entry past the choices, and one
-- after a term; a range that is 0 alone, one below 0, one that is out of range, one that names a choice that is not there before it is
-- seen to be out of order, and one out of order; a term that does not rise above a range, and a row after one; a term by `15` with a
-- mask that `12` could say, one whose mask names choice 32, which is not there, one that is 0, and a `12` and a row after one.
use mathlib.Core.Path.{◌≡◌, refl}
use mathlib.Core.List.{List, [], ◌∷◌, ◌++◌, map}
use Prim.Native.Nat.{ℕ}
use lib.ListN.{replicate}
use Rattle.wire.specs.Number.{nat_at, little}
use Rattle.wire.specs.Checks.{refusal, command_checks}
use Rattle.wire.specs.Part.{Reading, refused, accepted, operands_at, total, checks_at, after_at, command, step, follow, run, read_from, read_part, by_itself}
use Rattle.wire.specs.Rows.{Progress, row_of}
use Rattle.register.specs.Register.{fresh}
use Rattle.integers.specs.Lists.{all_below, comes_before}
use Rattle.register.specs.declared.Register.{Register}
use Rattle.register.proofs.Example.{register_bytes}
use Rattle.register.specs.Format.{base_checks, choice_checks, term_checks, window_checks, row_checks, range_checks, length_checks, end_checks, register_in_job, register_by_itself}

-- number and position of a refusal, 0 and the position past the end where there is none
abbrev answer : Reading (Progress Register) → ℕ × ℕ
answer (refused number at) = (number, at)
answer (accepted p end) = (0, end)

-- `10` and one choice
abbrev one_choice : List ℕ
one_choice = 0x10 ∷ 0 ∷ 0 ∷ 0 ∷ 0 ∷ 0x11 ∷ 1 ∷ 0 ∷ 0 ∷ 0 ∷ []

-- a row with this total, in two bytes, and these entries for choices 0 and 1
abbrev row : (low high a b : ℕ) → List ℕ
row low high a b = 0x14 ∷ low ∷ high ∷ a ∷ b ∷ replicate 30 0

-- a range of the terms with this mask, its low and its high in four bytes each
abbrev range : ℕ → (low high : List ℕ) → List ℕ
range mask low high = 0x16 ∷ mask ∷ 0 ∷ 0 ∷ 0 ∷ (low ++ high)

-- a `15` with this mask, in its first and its fifth byte, and this coefficient
abbrev wide : (low high coefficient : ℕ) → List ℕ
wide low high coefficient = 0x15 ∷ low ∷ 0 ∷ 0 ∷ 0 ∷ high ∷ 0 ∷ 0 ∷ 0 ∷ coefficient ∷ 0 ∷ 0 ∷ 0 ∷ []

abbrev small : ℕ → List ℕ
small n = n ∷ 0 ∷ 0 ∷ 0 ∷ []

abbrev minus_one : List ℕ
minus_one = 0xFF ∷ 0xFF ∷ 0xFF ∷ 0xFF ∷ []

pub answers : map (λ s. answer (register_by_itself s))
    (register_bytes
    ∷ (0x7E ∷ [])
    ∷ []
    ∷ (0x10 ∷ 0 ∷ 0 ∷ 0 ∷ 0 ∷ 0x1F ∷ [])
    ∷ (0x10 ∷ 0 ∷ 0 ∷ 0 ∷ 0 ∷ 0x11 ∷ 0 ∷ 0 ∷ 0 ∷ 0 ∷ [])
    ∷ (0x10 ∷ 0 ∷ 0 ∷ 0 ∷ 0 ∷ 0x11 ∷ 1 ∷ 0 ∷ 0 ∷ 0 ∷ 0x12 ∷ 2 ∷ 0 ∷ 0 ∷ 0 ∷ 1 ∷ 0 ∷ 0 ∷ 0 ∷ [])
    ∷ (0x10 ∷ 0 ∷ 0 ∷ 0 ∷ 0 ∷ 0x11 ∷ 2 ∷ 0 ∷ 0 ∷ 0 ∷ 0x11 ∷ 1 ∷ 0 ∷ 0 ∷ 0 ∷ [])
    ∷ (0x10 ∷ 0 ∷ 0 ∷ 0 ∷ 0 ∷ 0x13 ∷ 1 ∷ 0 ∷ 2 ∷ 0 ∷ 2 ∷ 0 ∷ [])
    ∷ (0x10 ∷ 0 ∷ 0 ∷ 0 ∷ 0 ∷ 0x13 ∷ 1 ∷ 0 ∷ 2 ∷ 0 ∷ 4 ∷ 0 ∷ 0x11 ∷ 1 ∷ 0 ∷ 3 ∷ 0 ∷ 0x11 ∷ 1 ∷ 0 ∷ 4 ∷ 0 ∷ [])
    ∷ (0x10 ∷ 0 ∷ 0 ∷ 0 ∷ 0 ∷ 0x18 ∷ 0xDC ∷ 5 ∷ 0x11 ∷ 1 ∷ 0 ∷ 0xDB ∷ 5 ∷ 0x1F ∷ [])
    ∷ (0x10 ∷ 0 ∷ 0 ∷ 0 ∷ 0 ∷ 0x18 ∷ 0x64 ∷ 5 ∷ 0x11 ∷ 1 ∷ 0 ∷ 0x64 ∷ 5 ∷ 0x1F ∷ [])
    ∷ (0x10 ∷ 0 ∷ 0 ∷ 0 ∷ 0 ∷ 0x11 ∷ 1 ∷ 0 ∷ 0xA0 ∷ 5 ∷ 0x1F ∷ [])
    ∷ (0x10 ∷ 0 ∷ 0 ∷ 0 ∷ 0 ∷ 0x18 ∷ 0xDB ∷ 5 ∷ [])
    ∷ (0x10 ∷ 0 ∷ 0 ∷ 0 ∷ 0 ∷ 0x18 ∷ 0xDC ∷ 5 ∷ 0x18 ∷ 0xDC ∷ 5 ∷ [])
    ∷ (one_choice ++ row 0x20 0xF0 0x80 0 ++ (0x1F ∷ []))
    ∷ (one_choice ++ row 0xE1 0x0F 1 0)
    ∷ (one_choice ++ row 1 0 1 1)
    ∷ (one_choice ++ (0x12 ∷ 1 ∷ 0 ∷ 0 ∷ 0 ∷ 1 ∷ 0 ∷ 0 ∷ 0 ∷ []) ++ row 1 0 1 0)
    ∷ (one_choice ++ range 1 (small 0) (small 0) ++ (0x1F ∷ []))
    ∷ (one_choice ++ range 1 minus_one (small 0) ++ (0x1F ∷ []))
    ∷ (one_choice ++ range 1 (small 0) (0x41 ∷ 0x42 ∷ 0x0F ∷ 0 ∷ []))
    ∷ (one_choice ++ range 2 (small 1) (small 0))
    ∷ (one_choice ++ range 1 (small 0) minus_one)
    ∷ (one_choice ++ range 1 (small 0) (small 1) ++ (0x12 ∷ 1 ∷ 0 ∷ 0 ∷ 0 ∷ 1 ∷ 0 ∷ 0 ∷ 0 ∷ []))
    ∷ (one_choice ++ range 1 (small 0) (small 1) ++ row 1 0 1 0)
    ∷ (one_choice ++ wide 1 0 1 ++ (0x1F ∷ []))
    ∷ (one_choice ++ wide 0 1 1)
    ∷ (one_choice ++ wide 0 1 0)
    ∷ (one_choice ++ wide 1 0 1 ++ (0x12 ∷ 1 ∷ 0 ∷ 0 ∷ 0 ∷ 1 ∷ 0 ∷ 0 ∷ 0 ∷ []))
    ∷ (one_choice ++ wide 1 0 1 ++ row 1 0 1 0)
    ∷ [])
    ≡ (0, 48) ∷ (1, 0) ∷ (2, 0) ∷ (3, 5) ∷ (4, 5) ∷ (5, 10) ∷ (7, 10) ∷ (6, 5) ∷ (13, 17) ∷ (0, 14) ∷ (4, 8) ∷ (4, 5) ∷ (4, 5) ∷ (1, 8) ∷ (0, 46) ∷ (4, 10) ∷ (5, 10) ∷ (1, 19) ∷ (0, 24) ∷ (0, 24) ∷ (4, 10) ∷ (5, 10) ∷ (6, 10) ∷ (7, 23) ∷ (1, 23) ∷ (0, 24) ∷ (5, 10) ∷ (4, 10) ∷ (7, 23) ∷ (1, 23) ∷ []
unfolding register_by_itself register_in_job by_itself read_part read_from run follow step command command_checks checks_at after_at operands_at total nat_at little refusal row_of fresh base_checks choice_checks term_checks window_checks row_checks range_checks length_checks end_checks all_below comes_before
answers = refl
