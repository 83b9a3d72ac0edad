-- Costliest registers: the bytes of two terms of three choices and the products of them, the longest, a product past 32 bits, terms that
-- share a choice and form as many products, and a term that needs a 65th variable since most choices are in no term.
use Prim.Native.Nat.{ℕ, ◌≤◌}
use native.Mathlib.Omega.{arith}
use mathlib.Core.Path.{◌≡◌, refl}
use mathlib.Core.Logic.{inr}
use mathlib.Core.List.{List, [], ◌∷◌, ◌++◌}
use lib.ListN.{length, replicate}
use Rattle.integers.specs.Lists.{join_below, all_below, first_below, comes_before}
use Rattle.sets.specs.Sets.{is_member, set_of}
use Rattle.wire.specs.Number.{nat_at, little, bytes_of}
use Rattle.wire.specs.Checks.{refusal, command_checks}
use Rattle.wire.specs.Part.{operands_at, total, checks_at, after_at, command, step, run, follow, read_from, read_part, by_itself}
use Rattle.wire.specs.Rows.{row_of}
use Rattle.wire.specs.Walk.{positions_from, position_of}
use Rattle.wire.specs.Writer.{written_answer, bytes_answer}
use Rattle.register.specs.Register as Reg
use Rattle.register.specs.Encoding.{encode_base, encode_choice, encode_term}
use Rattle.register.specs.Format.{base_checks, choice_checks, term_checks, register_in_job, register_by_itself}
use Rattle.register.specs.Format as RegFormat
use Rattle.register.specs.Position.{term_position}
use Rattle.scheme.specs.Scheme as Sch
use Rattle.scheme.specs.Variables.{up_to, upward, E}
use Rattle.scheme.specs.Encoding.{encode_product, encode_split, encode_scheme}
use Rattle.builder.specs.Builder.{and_then, choices_of, first_with, join_pair, pair_up, reduce, split_of, build_term, build_from, build}
use Rattle.builder.specs.Builder as Builder
use Rattle.builder.specs.Answer.{build_answer, build_buffer}
use Rattle.costliest.specs.Costliest.{Admitted, term_mask, costliest_bytes}
use Rattle.costliest.specs.Answer.{costliest_size, costliest_room}
use Rattle.soundness.specs.Calls.{build_call, costliest_call}
use Rattle.soundness.specs.Writers.{handed_back, refused_back}
use Rattle.soundness.proofs.CostliestRegister.{costliest_register}

-- base cost 0, and choices of tank 1 at the first n minutes
abbrev front : ℕ → List ℕ
front n = (0x10 ∷ 0 ∷ 0 ∷ 0 ∷ 0 ∷ []) ++ join_below n (λ i. 0x11 ∷ 1 ∷ 0 ∷ i ∷ 0 ∷ [])

-- a term with a mask that three bytes have, and coefficient 1
abbrev term : (low middle high : ℕ) → List ℕ
term low middle high = 0x12 ∷ low ∷ middle ∷ high ∷ 0 ∷ 1 ∷ 0 ∷ 0 ∷ 0 ∷ []

-- ---- two terms of three choices

abbrev two_of_three : Admitted 2 3
two_of_three = record { some_term = omega arith; deep = omega arith; narrow = omega arith; small = omega arith }

-- choices 0 to 2, and 3 to 5
abbrev two_of_three_bytes : List ℕ
two_of_three_bytes = front 6 ++ (term 0x07 0 0 ++ (term 0x38 0 0 ++ (0x1F ∷ [])))

bytes_are : costliest_bytes 2 3 ≡ two_of_three_bytes
unfolding costliest_bytes encode_base encode_choice encode_term term_mask set_of join_below bytes_of
bytes_are = refl

-- they are written into a buffer that has 54 bytes or more
pub two_of_three_written : (lent : List ℕ) → 54 ≤ length lent → costliest_call 2 3 lent ≡ handed_back two_of_three_bytes lent
unfolding join_below
two_of_three_written lent l = rw bytes_are at ((costliest_register.written.writes 2 3 two_of_three).fits lent (rw bytes_are l))

-- choices 0 to 2, and 2 to 4: these share one
abbrev shared : List ℕ
shared = front 5 ++ (term 0x07 0 0 ++ (term 0x1C 0 0 ++ (0x1F ∷ [])))

-- of either the builder's call makes two products, and a split for each term: the count alone does not tell which was written
abbrev Built : (register scheme : List ℕ) → Type 0
Built register scheme = (build_answer register (replicate 13 0) ≡ written_answer 13) × (build_buffer register (replicate 13 0) ≡ scheme)

pub both_built : Built two_of_three_bytes (0x21 ∷ 0 ∷ 1 ∷ 0x21 ∷ 3 ∷ 4 ∷ 0x22 ∷ 2 ∷ 6 ∷ 0x22 ∷ 5 ∷ 7 ∷ 0x2F ∷ [])
    × Built shared (0x21 ∷ 0 ∷ 1 ∷ 0x21 ∷ 2 ∷ 3 ∷ 0x22 ∷ 2 ∷ 5 ∷ 0x22 ∷ 4 ∷ 6 ∷ 0x2F ∷ [])
unfolding join_below first_below is_member all_below comes_before nat_at little bytes_of bytes_answer refusal command_checks operands_at total checks_at after_at command step follow run read_from read_part by_itself row_of Reg.fresh base_checks choice_checks term_checks RegFormat.end_checks register_in_job register_by_itself Sch.fresh up_to upward E encode_product encode_split encode_scheme build build_from Builder.follow build_term split_of reduce pair_up join_pair first_with choices_of and_then
both_built = ((refl, refl), (refl, refl))

-- ---- limits

-- the longest has 246 bytes
pub longest : (costliest_size 10 3 ≡ 246) × (costliest_room ≡ 246)
longest = (refl, refl)

-- 1,073,741,824 times 4 is 2³², which is 0 in 32 bits
pub past_32_bits : (lent : List ℕ) → costliest_call 1_073_741_824 4 lent ≡ refused_back 18 0 0 lent
past_32_bits lent = costliest_register.written.refused 1_073_741_824 4 lent (inr (inr (inr (omega arith))))

-- ---- one term of 19 choices in a register with 48: 17 products would be 65 variables

abbrev unnamed : List ℕ
unnamed = front 48 ++ (term 0xFF 0xFF 0x07 ++ (0x1F ∷ []))

pub unnamed_built : (buffer : List ℕ) → build_call unnamed buffer ≡ refused_back 10 1 245 buffer
unfolding join_below first_below is_member all_below comes_before nat_at little refusal command_checks operands_at total checks_at after_at command step follow run read_from read_part by_itself row_of positions_from position_of Reg.fresh base_checks choice_checks term_checks RegFormat.end_checks register_in_job register_by_itself term_position Sch.fresh up_to upward E build build_from Builder.follow build_term split_of reduce pair_up join_pair first_with choices_of and_then
unnamed_built buffer = refl
