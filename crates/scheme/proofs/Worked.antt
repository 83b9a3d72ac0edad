-- The paper's example of a scheme, its worked row on sets, and the rows of the refusal table that speak of the scheme.
use mathlib.Core.Path.{◌≡◌, refl}
use mathlib.Core.List.{[], ◌∷◌, map}
use Prim.Native.Nat.{ℕ}
use Rattle.integers.specs.Lists.{all_below, join_below, comes_before}
use Rattle.wire.specs.Number.{nat_at, little, bytes_of}
use Rattle.wire.specs.Checks.{refusal, command_checks}
use Rattle.wire.specs.Part.{Reading, refused, accepted, operands_at, total, checks_at, after_at, command, step, follow, run, read_from, read_part, by_itself}
use Rattle.wire.specs.Rows.{Progress, row_of}
use Rattle.register.specs.Register as R
use Rattle.register.specs.Format as F
use Rattle.register.specs.Format.{register_in_job, register_by_itself}
use Rattle.register.proofs.Example.{register_bytes, example_register}
use Rattle.scheme.proofs.Example.{scheme_bytes, example_scheme}
use Rattle.scheme.specs.declared.Scheme.{Scheme}
use Rattle.scheme.specs.Scheme.{fresh}
use Rattle.scheme.specs.Variables.{up_to, upward, E}
use Rattle.scheme.specs.Format.{is_new, product_checks, split_checks, end_checks, scheme_in_job, scheme_by_itself}
use Rattle.scheme.specs.Encoding.{encode_product, encode_split, encode_scheme}
use Rattle.scheme.specs.Answer.{scheme_answer}
use Rattle.scheme.proofs.Whole.{answered}

-- W1: the sets of the example's two products
pub w1 : map (E 3 example_scheme) (3 ∷ 4 ∷ []) ≡ 3 ∷ 7 ∷ []
unfolding E upward up_to
w1 = refl

pub example_bytes : encode_scheme 3 example_scheme ≡ scheme_bytes
unfolding encode_scheme encode_product encode_split bytes_of join_below
example_bytes = refl

-- number and position of a refusal, 0 and the position past the end where there is none
abbrev answer : Reading (Progress Scheme) → ℕ × ℕ
answer (refused number at) = (number, at)
answer (accepted p end) = (0, end)

-- the example, and the table's rows; then `21` after `22`, no byte, `2F` with a split missing, a variable not there, and a
-- product with the operands, and one with the set, of an earlier one
pub answers : map (λ s. answer (scheme_by_itself example_register s))
    (scheme_bytes
    ∷ (0x21 ∷ 1 ∷ 0 ∷ [])
    ∷ (0x21 ∷ 0 ∷ 1 ∷ 0x22 ∷ 0 ∷ 1 ∷ [])
    ∷ (0x22 ∷ 0 ∷ 0 ∷ 0x21 ∷ 0 ∷ 1 ∷ [])
    ∷ []
    ∷ (0x2F ∷ [])
    ∷ (0x21 ∷ 0 ∷ 3 ∷ [])
    ∷ (0x21 ∷ 0 ∷ 1 ∷ 0x21 ∷ 0 ∷ 1 ∷ [])
    ∷ (0x21 ∷ 0 ∷ 1 ∷ 0x21 ∷ 0 ∷ 3 ∷ [])
    ∷ [])
    ≡ (0, 16) ∷ (6, 0) ∷ (8, 3) ∷ (1, 3) ∷ (2, 0) ∷ (3, 0) ∷ (5, 0) ∷ (8, 3) ∷ (8, 3) ∷ []
unfolding scheme_by_itself scheme_in_job by_itself read_part read_from run follow step command command_checks checks_at after_at operands_at total nat_at little refusal row_of fresh product_checks split_checks end_checks is_new all_below E upward up_to
answers = refl

-- what the call answers to parts 1 and 2
pub example_answer : scheme_answer register_bytes scheme_bytes ≡ answered example_scheme
unfolding register_by_itself register_in_job scheme_by_itself scheme_in_job by_itself read_part read_from run follow step command command_checks checks_at after_at operands_at total nat_at little refusal row_of R.fresh F.base_checks F.choice_checks F.term_checks F.end_checks comes_before fresh product_checks split_checks end_checks is_new all_below E upward up_to
example_answer = refl
