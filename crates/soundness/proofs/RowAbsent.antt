-- A `3B` of a row that is not there is refused 5.
use Prim.Native.Nat.{ℕ, ◌+◌, ◌-◌, ◌^◌, ◌≤◌, ◌<◌}
use native.Mathlib.Omega.{arith}
use mathlib.Core.Path.{◌≡◌, refl, sym, ◌∙◌, ap, subst}
use mathlib.Core.Bool.{true, false}
use mathlib.Core.List.{List, [], ◌∷◌, ◌++◌, append_assoc, append-nil, flat_map}
use lib.IntN.{ℤ, pos, neg_ℤ, nat_abs}
use lib.ListN.{length, drop, length-append}
use lib.Signed.{lt_z, ◌≤ℤ◌}
use borrow.Author.Tests.{le-ltb}
use mir.Syntax.{w64}
use mir.Val.{of_z}
use mir.Facts.{Fits-of_z}
use Rattle.integers.proofs.Diff.{diff₁, diffs}
use Rattle.integers.proofs.Lists.{flag}
use Rattle.integers.proofs.Parts.{orders}
use Rattle.integers.proofs.Machine.{lt_z-true, read_signed, fits_signed}
use Rattle.wire.specs.Number.{bytes_of}
use Rattle.wire.specs.Checks.{refusal, command_checks}
use Rattle.wire.specs.Part.{Part, refused, size, checks_at, read_part}
use Rattle.wire.specs.Rows.{Progress, row_of}
use Rattle.wire.specs.Encoding.{Command, Fit, Allowed, fields, encode_command, encode, after_command}
use Rattle.wire.proofs.Part.{read_from_refused}
use Rattle.wire.proofs.Encoding.{command_at, command_at_reads, length_command, after_first, reads_through}
use Rattle.wire.proofs.Outcome.{itself_refused}
use Rattle.forms.specs.Table.{table_numbers}
use Rattle.register.specs.declared.Register.{Register}
use Rattle.scheme.specs.declared.Scheme.{Scheme}
use Rattle.plan.specs.Chosen.{chosen}
use Rattle.certificate.specs.Limits.{max_row_multiplier}
use Rattle.certificate.specs.Certificate.{Certificate}
use Rattle.certificate.specs.Rules.{by_key, arity, rule_of}
use Rattle.certificate.specs.Format.{multiplier_checks, certificate_part, commands_in_job}
use Rattle.certificate.specs.Encoding.{encode_scale, encode_multiplier}
use Rattle.certificate.proofs.Entries.{scale_command}
use Rattle.certificate.proofs.Passes.{scale_iff}
use Rattle.bound.specs.Format.{dominance_checked, certificate_in_job, certificate_by_itself}
use Rattle.bound.specs.Check.{check_answer}
use Rattle.bound.proofs.Answers.{after_certificate, parts_accepted}
use Rattle.soundness.specs.Parts.{Part1, Part2, Choosing}
use Rattle.soundness.specs.Rows.{RowAbsent, row_multiplier, row_absent}
use Rattle.soundness.proofs.Choosing.{chosen_parts}

-- a command that stands at a position and where it may is refused by its own checks
stands_refused : {S : Type 0} (P : Part S) (s : List ℕ) (read : S) (at : ℕ) (c : Command) → command_at P s at ≡ c → P.here read c.byte ≡ true → size P c.byte ≤ length s - at →
    refusal (checks_at P s read at) ≡ refusal (P.checks read c.byte c.operands)
unfolding checks_at command_checks refusal
stands_refused P s read at c e =
    subst (λ (c : Command). P.here read c.byte ≡ true → size P c.byte ≤ length s - at → refusal (checks_at P s read at) ≡ refusal (P.checks read c.byte c.operands)) e
    (λ h l. rw (h, le-ltb _ _ l))

not_less : (a b : ℤ) → b ≤ℤ a → lt_z a b ≡ false
not_less a b h = flag (lt_z a b) (λ t. let x = lt_z-true a b t in absurd (omega (arith, orders))) (λ t. t)

from_least : (m : ℤ) → nat_abs m ≤ max_row_multiplier → neg_ℤ (pos max_row_multiplier) ≤ℤ m
from_least = diff₁ _ λ p q. simp diffs (omega arith)

to_most : (m : ℤ) → nat_abs m ≤ max_row_multiplier → m ≤ℤ pos max_row_multiplier
to_most = diff₁ _ λ p q. simp diffs (omega arith)

module _ (reg : Register) (sch : Scheme) (s : List ℕ) (a : RowAbsent reg s) where
  abbrev P : Part (Progress Certificate)
  P = certificate_part reg sch

  abbrev first : Command
  first = scale_command a.scale a.target

  abbrev second : Command
  second = record { byte = 0x3B; operands = a.row ∷ a.variable ∷ of_z w64 a.m ∷ [] }

  wide : (z : ℤ) → nat_abs z < 2 ^ 63 → of_z w64 z < 256 ^ 8
  wide z l = (Fits-of_z (fits_signed w64 z l)).fits

  first_fits : Fit (P.widths 0x30) first.operands
  unfolding row_of
  first_fits = (omega (arith, a.scale_within), (wide a.target (omega (arith, a.target_within)), tt))

  second_fits : Fit (P.widths 0x3B) second.operands
  unfolding row_of arity by_key
  second_fits = (a.row_byte, (a.variable_byte, (wide a.m (omega (arith, a.m_within)), tt)))

  first_allowed : Allowed P P.start first
  unfolding row_of
  first_allowed = record {
    byte = omega arith;
    here = refl;
    operands = first_fits;
    passes =
        rw (read_signed w64 a.target (omega (arith, a.target_within)))
        ((scale_iff a.scale a.target).1 (record { scale_above = a.scale_above; scale_within = a.scale_within; target_within = a.target_within }));
  }

  first_bytes : encode P (first ∷ []) ≡ encode_scale a.scale a.target
  unfolding encode flat_map encode_command encode_scale row_of fields
  first_bytes = rw (append-nil, append-nil)

  second_bytes : encode_command P second ≡ encode_multiplier (row_multiplier a.row a.variable a.m)
  unfolding flat_map encode_command encode_multiplier row_of fields arity by_key
  second_bytes = simp (append-nil, append_assoc)

  -- what has been read before it
  abbrev read : Progress Certificate
  read = after_command P P.start first

  abbrev rest : List ℕ
  rest = encode_command P second ++ a.rest

  whole : s ≡ encode P (first ∷ []) ++ rest
  whole = a.bytes ∙ rw (first_bytes, second_bytes)

  long : length (encode P (first ∷ [])) ≡ 13
  unfolding encode_scale bytes_of
  long = ap length first_bytes

  there : drop 13 s ≡ rest
  there = after_first s 0 13 (encode P (first ∷ [])) rest long whole

  room : size P 0x3B ≤ length s - 13
  unfolding row_of
  room =
      let l : length s ≡ 13 + length rest = ap length whole ∙ length-append (encode P (first ∷ [])) rest ∙ ap (λ n. n + length rest) long in
      omega (arith, l, length-append (encode_command P second) a.rest, length_command P second second_fits)

  own_5 : refusal (P.checks read 0x3B second.operands) ≡ 5
  unfolding row_of multiplier_checks refusal rule_of by_key arity
  own_5 =
      rw (
        read_signed w64 a.m (omega (arith, a.m_within)),
        not_less a.m (neg_ℤ (pos max_row_multiplier)) (from_least a.m a.m_within),
        not_less (pos max_row_multiplier) a.m (to_most a.m a.m_within),
        le-ltb a.row reg.rows a.absent,
      )

  commands_5 : commands_in_job reg sch s ≡ refused 5 13
  unfolding commands_in_job read_part row_of
  commands_5 =
      reads_through P (first ∷ []) s P.start 0 read rest (first_allowed, (refl, refl)) whole
      ∙ rw long (read_from_refused P s read 13 5 (omega (arith, room)) (stands_refused P s read 13 second (command_at_reads P s 13 second a.rest second_fits there) refl room ∙ own_5) (λ z. omega arith))

  part_5 : (c : ℕ → ℤ) → certificate_by_itself c reg sch s ≡ refused 5 13
  unfolding certificate_by_itself certificate_in_job dominance_checked
  part_5 c = itself_refused s (rw commands_5)

pub row_absent_lem : (t s k q : List ℕ) (reg : Register) (sch : Scheme) (fed : ℕ) (table : List ℤ) → table_numbers ≤ length table → Part1 t reg → Part2 reg s sch → Choosing reg q fed → RowAbsent reg k →
    check_answer t s k q table ≡ row_absent
row_absent_lem t s k q reg sch fed table l p₁ p₂ chooses a =
    sym (parts_accepted t s k q table l reg sch fed (chosen_parts p₁ p₂ chooses)).answers ∙ ap after_certificate (part_5 reg sch k a (chosen reg fed))
