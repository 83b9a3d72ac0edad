-- W3 and W4 of the paper's worked set.
use mathlib.Core.Path.{◌≡◌, refl}
use mathlib.Core.Bool.{false}
use Prim.Native.Nat.{ℕ, ◌-◌, ◌≤◌}
use mathlib.Core.List.{List, [], ◌∷◌, ◌++◌}
use lib.IntN.{pos}
use lib.ListN.{length, drop, replicate}
use borrow.Author.Tests.{le-ltb}
use Rattle.integers.specs.Lists.{first_below, join_below, comes_before}
use Rattle.wire.specs.Number.{nat_at, little, bytes_of}
use Rattle.wire.specs.Checks.{refusal, command_checks}
use Rattle.wire.specs.Part.{accepted, operands_at, total, checks_at, after_at, command, step, run, read_from, read_part, by_itself}
use Rattle.wire.specs.Part as Part
use Rattle.wire.specs.Rows.{row_of}
use Rattle.wire.specs.Writer.{written_answer, bytes_answer}
use Rattle.sets.specs.Sets.{is_member}
use Rattle.register.specs.Limits.{max_choices, usual_day}
use Rattle.register.specs.declared.Register.{Register}
use Rattle.register.specs.Register as Reg
use Rattle.register.specs.Format.{base_checks, choice_checks, term_checks, end_checks, register_in_job, register_by_itself}
use Rattle.scheme.specs.declared.Scheme.{Scheme}
use Rattle.scheme.specs.Scheme.{fresh}
use Rattle.scheme.specs.Variables.{E, up_to, upward}
use Rattle.register.proofs.Example.{register_bytes, example_register}
use Rattle.scheme.proofs.Example.{built_scheme}
use Rattle.scheme.specs.Encoding.{encode_product, encode_split, encode_scheme}
use Rattle.builder.specs.Answer.{build_answer, build_buffer}
use Rattle.builder.specs.Builder.{and_then, choices_of, first_with, join_pair, pair_up, reduce, split_of, build_term, built, follow, build_from, build}

-- the call at a register's bytes answers that these bytes were written, and the buffer begins with them
abbrev pub Writes : List ℕ → List ℕ → List ℕ → Type 0
Writes register buffer bytes = (build_answer register buffer ≡ written_answer (length bytes)) × (build_buffer register buffer ≡ bytes ++ drop (length bytes) buffer)

called : (register : List ℕ) (reg : Register) (end : ℕ) (sch : Scheme) (bytes buffer : List ℕ) →
    register_by_itself register ≡ accepted (record { previous = 0x1F; parsed = reg }) end → build reg ≡ built sch → encode_scheme reg.choices sch ≡ bytes →
    length bytes ≤ length buffer → Writes register buffer bytes
unfolding bytes_answer
called register reg end sch bytes buffer r b e l = let f = le-ltb (length buffer) (length bytes) l in (rw (r, b, e, f), rw (r, b, e, f))

-- W3, on the example's register
pub w3 : build example_register ≡ built built_scheme
unfolding build build_from follow build_term split_of reduce pair_up join_pair first_with first_below choices_of and_then join_below is_member E upward up_to fresh
w3 = refl

-- and its bytes
abbrev pub w3_bytes : List ℕ
w3_bytes = 0x21 ∷ 0 ∷ 1 ∷ 0x22 ∷ 0 ∷ 0 ∷ 0x22 ∷ 1 ∷ 1 ∷ 0x22 ∷ 2 ∷ 3 ∷ 0x2F ∷ []

-- the call at the register's bytes, with a buffer that is long enough
pub w3_call : (buffer : List ℕ) → 13 ≤ length buffer → Writes register_bytes buffer w3_bytes
unfolding encode_scheme encode_product encode_split join_below bytes_of register_by_itself register_in_job by_itself read_part read_from run Part.follow step command command_checks checks_at after_at operands_at total nat_at little refusal row_of Reg.fresh base_checks choice_checks term_checks end_checks comes_before
w3_call buffer l = called register_bytes example_register 48 built_scheme w3_bytes buffer refl w3 refl l

-- W4's register: its bytes and its record

abbrev pub five_bytes : List ℕ
five_bytes =
    0x10 ∷ 0 ∷ 0 ∷ 0 ∷ 0
    ∷ 0x11 ∷ 1 ∷ 0 ∷ 0 ∷ 0 ∷ 0x11 ∷ 1 ∷ 0 ∷ 1 ∷ 0 ∷ 0x11 ∷ 1 ∷ 0 ∷ 2 ∷ 0 ∷ 0x11 ∷ 1 ∷ 0 ∷ 3 ∷ 0 ∷ 0x11 ∷ 1 ∷ 0 ∷ 4 ∷ 0
    ∷ 0x12 ∷ 31 ∷ 0 ∷ 0 ∷ 0 ∷ 1 ∷ 0 ∷ 0 ∷ 0
    ∷ 0x1F ∷ []

abbrev pub five : Register
five = record { base = pos 0; day_length = usual_day; choices = 5; terms = 1; tanks = 1 ∷ 1 ∷ 1 ∷ 1 ∷ 1 ∷ replicate (max_choices - 5) 0; minutes = 0 ∷ 1 ∷ 2 ∷ 3 ∷ 4 ∷ replicate (max_choices - 5) 0; masks = 31 ∷ replicate 255 0; coefficients = pos 1 ∷ replicate 255 (pos 0); highs = pos 1 ∷ replicate 255 (pos 0); ranged = replicate 256 false; windows = 0; window_tanks = replicate 64 0; window_froms = replicate 64 0; window_tos = replicate 64 0; rows = 0; row_totals = replicate 8 (pos 0); row_entries = replicate 256 (pos 0) }

-- and the scheme made for it
abbrev pub five_scheme : Scheme
five_scheme = record { products = 3; splits = 1; lefts = 0 ∷ 2 ∷ 5 ∷ replicate 29 0; rights = 1 ∷ 3 ∷ 6 ∷ replicate 29 0; split_lefts = 4 ∷ replicate 255 0; split_rights = 7 ∷ replicate 255 0; factor = 1 }

pub w4 : build five ≡ built five_scheme
unfolding build build_from follow build_term split_of reduce pair_up join_pair first_with first_below choices_of and_then join_below is_member E upward up_to fresh
w4 = refl

abbrev pub w4_bytes : List ℕ
w4_bytes = 0x21 ∷ 0 ∷ 1 ∷ 0x21 ∷ 2 ∷ 3 ∷ 0x21 ∷ 5 ∷ 6 ∷ 0x22 ∷ 4 ∷ 7 ∷ 0x2F ∷ []

pub w4_call : (buffer : List ℕ) → 13 ≤ length buffer → Writes five_bytes buffer w4_bytes
unfolding encode_scheme encode_product encode_split join_below bytes_of register_by_itself register_in_job by_itself read_part read_from run Part.follow step command command_checks checks_at after_at operands_at total nat_at little refusal row_of Reg.fresh base_checks choice_checks term_checks end_checks comes_before
w4_call buffer l = called five_bytes five 40 five_scheme w4_bytes buffer refl w4 refl l
