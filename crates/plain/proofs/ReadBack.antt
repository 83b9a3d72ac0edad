-- What is written reads back to our own certificate, the check accepts it with every register, scheme and plan that are accepted, and its
-- bound is its target. The bytes checked are those that the call hands back at the front of the lent buffer.
use Prim.Native.Nat.{ℕ, ◌≤◌}
use native.Mathlib.Omega.{arith}
use mathlib.Core.Path.{◌≡◌, refl, sym, ◌∙◌, ap}
use mathlib.Core.List.{List, [], ◌∷◌, map, flat_map}
use lib.IntN.{ℤ}
use lib.ListN.{length}
use Rattle.wire.specs.Part.{accepted}
use Rattle.wire.proofs.Writer.{HandedBack, bytes_back, bytes_enough}
use Rattle.wire.proofs.Accepting.{reached}
use Rattle.forms.specs.Table.{table_numbers}
use Rattle.register.specs.declared.Register.{Register}
use Rattle.register.specs.Valid as R
use Rattle.plan.specs.Chosen.{chosen}
use Rattle.scheme.specs.declared.Scheme.{Scheme}
use Rattle.scheme.specs.Valid.{Valid}
use Rattle.certificate.specs.Certificate.{Multiplier}
use Rattle.certificate.specs.Encoding.{Entry, multiplier, multipliers_of, squares_of, encode_entry, Encodes}
use Rattle.bound.specs.Format.{certificate_by_itself}
use Rattle.bound.specs.Check.{check_answer}
use Rattle.bound.proofs.Accept.{encoding_accepted}
use Rattle.bound.proofs.Opening.{Chosen}
use Rattle.bound.proofs.Answers as C
use Rattle.plain.specs.Plain.{plain}
use Rattle.plain.specs.Encoding.{encode_multipliers, encode_with, encode_plain}
use Rattle.plain.specs.Answer.{own_bytes, own_room, plain_answer, plain_buffer}
use Rattle.plain.proofs.Valid.{Low, low_chosen, plain_valid, plain_bound}
use Rattle.plain.proofs.Encoded.{plain_bytes}
use Rattle.plain.proofs.Answers.{parts_accepted}

-- ---- a certificate without squares

abbrev entries : List Multiplier → List Entry
entries ts = map multiplier ts

multipliers_back : (ts : List Multiplier) → multipliers_of (entries ts) ≡ ts
unfolding flat_map
multipliers_back [] = refl
multipliers_back (t ∷ ts) = ap (λ x. t ∷ x) (multipliers_back ts)

squares_none : (ts : List Multiplier) → squares_of (entries ts) ≡ []
unfolding flat_map
squares_none [] = refl
squares_none (t ∷ ts) = squares_none ts

encode_entries : (ts : List Multiplier) → encode_multipliers ts ≡ flat_map encode_entry (entries ts)
unfolding flat_map
encode_entries [] = refl
encode_entries (t ∷ ts) = rw (encode_entries ts)

-- the bytes are an encoding of our own certificate
pub plain_encodes : (c : ℕ → ℤ) (reg : Register) (sch : Scheme) → Encodes (plain c reg sch) (encode_plain c reg sch)
unfolding plain encode_plain encode_with
plain_encodes c reg sch = record {
  entries = entries ts;
  commands = record { multipliers_are = multipliers_back ts; squares_are = squares_none ts };
  bytes = rw (encode_entries ts);
}
  where
    ts : List Multiplier
    ts = (plain c reg sch).multipliers

-- ---- read back, with coefficients within their limits

module _ (c : ℕ → ℤ) (reg : Register) (sch : Scheme) (low : Low c reg) (register : R.Valid reg) (scheme : Valid reg sch) where
  -- by itself it is accepted, and what was read is our own certificate
  pub plain_reads : certificate_by_itself c reg sch (encode_plain c reg sch) ≡ accepted (reached 0x3F (plain c reg sch)) (length (encode_plain c reg sch))
  plain_reads = encoding_accepted reg register sch scheme c (plain c reg sch) (encode_plain c reg sch) (plain_valid c reg sch low register scheme) (plain_encodes c reg sch)

-- ---- over bytes, with the coefficients that a plan chooses

module _ (t s q : List ℕ) (reg : Register) (sch : Scheme) (plan : ℕ) (o : Chosen t s q reg sch plan) where
  pub own_reads : certificate_by_itself (chosen reg plan) reg sch (own_bytes reg sch plan) ≡ accepted (reached 0x3F (plain (chosen reg plan) reg sch)) (length (own_bytes reg sch plan))
  own_reads = plain_reads (chosen reg plan) reg sch (low_chosen reg o.parts.register_valid plan) o.parts.register_valid o.parts.scheme_valid

  -- where the call answers 0, it hands them back
  pub handed_back : (lent : List ℕ) → (plain_answer t s q lent).number ≡ 0 → HandedBack (own_bytes reg sch plan) lent (plain_answer t s q lent) (plain_buffer t s q lent)
  handed_back lent = let p = parts_accepted t s q lent reg sch plan o in bytes_back (own_bytes reg sch plan) lent _ _ p.0 p.1

  -- it does where there is room for the longest
  pub enough : (lent : List ℕ) → own_room ≤ length lent → (plain_answer t s q lent).number ≡ 0
  enough lent l =
      let p = parts_accepted t s q lent reg sch plan o in
      bytes_enough (own_bytes reg sch plan) lent _ _ p.0 p.1 (omega (arith, plain_bytes (chosen reg plan) reg sch o.parts.scheme_valid))

  -- the check accepts them, beside the same plan, and the bound is T
  pub own_accepted : (lent : List ℤ) → table_numbers ≤ length lent →
      check_answer t s (own_bytes reg sch plan) q lent ≡ record { number = 0; part = 0; position = 0; bound = (plain (chosen reg plan) reg sch).target }
  own_accepted lent l =
      sym (C.parts_accepted t s (own_bytes reg sch plan) q lent l reg sch plan o).answers
      ∙ ap C.after_certificate own_reads
      ∙ ap (λ b. record { number = 0; part = 0; position = 0; bound = b }) (plain_bound (chosen reg plan) reg sch)
