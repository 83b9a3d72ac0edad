-- The bytes of our own certificate: ten for each command, none for a multiplier of 0, and the room that is enough for all.
use Prim.Native.Nat.{ℕ, suc, ◌+◌, ◌*◌, ◌^◌, ◌≤◌, ◌<◌}
use native.Mathlib.Omega.{arith}
use mathlib.Core.Path.{◌≡◌, refl, ap, ◌∙◌}
use mathlib.Core.List.{List, [], ◌∷◌, ◌++◌, append-nil, append_assoc, flat_map}
use lib.Dec.{eqb}
use lib.IntN.{ℤ, pos, negsuc}
use lib.ListN.{length, length-append}
use borrow.Author.Tests.{ne_eqb}
use Rattle.integers.specs.Lists.{All, join_below}
use Rattle.integers.proofs.Lists.{All-append, All-join, cond_cases}
use Rattle.integers.proofs.Join.{flat_map_append}
use Rattle.wire.specs.Number.{bytes_of}
use Rattle.wire.specs.Part.{total}
use Rattle.wire.proofs.Number.{length-bytes_of}
use Rattle.register.specs.declared.Register.{Register}
use Rattle.scheme.specs.declared.Scheme.{Scheme}
use Rattle.scheme.specs.Scheme.{variables}
use Rattle.scheme.specs.Valid.{Valid}
use Rattle.certificate.specs.Certificate.{Multiplier}
use Rattle.certificate.proofs.Commands.{command}
use Rattle.plain.specs.Plain.{half_row_sum, linear_left, unless_zero, cancelling, plain}
use Rattle.certificate.specs.Encoding.{encode_scale, encode_multiplier}
use Rattle.certificate.specs.Format.{command_size}
use Rattle.certificate.specs.Rules.{arity, by_key}
use Rattle.plain.specs.Encoding.{encode_multipliers, encode_with, encode_plain}
use Rattle.plain.specs.Answer.{own_room}
use Rattle.plain.proofs.Commands.{plain_count}

-- ---- commands of ten bytes

abbrev Ten : Multiplier → Type 0
Ten t = length (encode_multiplier t) ≡ 10

pub encode_command : (kind i m : ℕ) → encode_multipliers (command kind i m ∷ []) ≡ kind ∷ (bytes_of 1 i ++ bytes_of 8 m)
unfolding encode_multiplier flat_map
encode_command kind i m = rw (append-nil (bytes_of 1 i)) (append-nil _)

ten_command : (kind i m : ℕ) → length (encode_multiplier (command kind i m)) ≡ 10
unfolding encode_multiplier flat_map
ten_command kind i m = rw (append-nil (bytes_of 1 i), length-append (bytes_of 1 i) (bytes_of 8 m), length-bytes_of 1 i, length-bytes_of 8 m)

ten_unless_zero : (kind i m : ℕ) → All Ten (unless_zero kind i m)
unfolding unless_zero
ten_unless_zero kind i m = cond_cases (All Ten) (eqb m 0) [] (command kind i m ∷ []) (λ _. tt) (λ _. (ten_command kind i m, tt))

ten_cancelling : (i : ℕ) (x : ℤ) → All Ten (cancelling i x)
unfolding cancelling
ten_cancelling i (pos m) = ten_unless_zero _ i m
ten_cancelling i (negsuc m) = ten_unless_zero _ i (suc m)

length_multipliers : (ts : List Multiplier) → All Ten ts → length (encode_multipliers ts) ≡ 10 * length ts
unfolding flat_map
length_multipliers [] h = refl
length_multipliers (t ∷ ts) h = rw (length-append, h.0, length_multipliers ts h.1) (omega arith)

pub length_scale : (s : ℕ) (target : ℤ) → length (encode_scale s target) ≡ 13
unfolding encode_scale
length_scale s target = rw (length-append, length-bytes_of 4 s, length-bytes_of 8)

-- the first command, the multipliers a and then b, and `3F`
module _ (s : ℕ) (target : ℤ) (a b : List Multiplier) where
  pub encode_parts : ((encode_scale s target ++ encode_multipliers a) ++ encode_multipliers b) ++ (0x3F ∷ []) ≡ encode_with s target (a ++ b)
  unfolding encode_with
  encode_parts = rw (append_assoc (encode_scale s target) (encode_multipliers a) (encode_multipliers b), ← (flat_map_append encode_multiplier a b))

  pub length_parts : length (encode_with s target (a ++ b)) ≡ 13 + length (encode_multipliers a) + length (encode_multipliers b) + 1
  length_parts = rw (← encode_parts) (simp length-append (omega (arith, length_scale s target)))

-- ---- a multiplier of 0 has no command

module _ (kind i : ℕ) where
  pub unless_zero_none : (m : ℕ) → m ≡ 0 → unless_zero kind i m ≡ []
  unfolding unless_zero
  unless_zero_none m e = rw e

  pub unless_zero_one : (m : ℕ) → (m ≡ 0 → ⊥) → unless_zero kind i m ≡ command kind i m ∷ []
  unfolding unless_zero
  unless_zero_one m d = rw (ne_eqb m 0 d)

  pub unless_zero_ten : (m : ℕ) → (m ≡ 0 → ⊥) → length (encode_multipliers (unless_zero kind i m)) ≡ 10
  unless_zero_ten m d = ap (λ l. length (encode_multipliers l)) (unless_zero_one m d) ∙ length_multipliers (command kind i m ∷ []) (ten_command kind i m, tt)

-- ---- the whole certificate

module _ (c : ℕ → ℤ) (r : Register) (s : Scheme) where
  ten_plain : All Ten (plain c r s).multipliers
  unfolding plain
  ten_plain =
      let N = variables r.choices s in
      All-append Ten (join_below N (λ i. unless_zero 0x31 i (half_row_sum c r s i))) (join_below N (λ i. cancelling i (linear_left c r s i)))
      (All-join Ten N _ (λ i l. ten_unless_zero 0x31 i (half_row_sum c r s i)))
      (All-join Ten N _ (λ i l. ten_cancelling i (linear_left c r s i)))

  pub length-plain : length (encode_plain c r s) ≡ 14 + 10 * length (plain c r s).multipliers
  unfolding encode_plain encode_with
  length-plain = simp length-append (omega (arith, length_scale (plain c r s).scale (plain c r s).target, length_multipliers (plain c r s).multipliers ten_plain))

-- the room that users are told
pub room_is : own_room ≡ 1_294
unfolding command_size total by_key arity
room_is = refl

pub room_small : own_room < 2 ^ 32
room_small = omega (arith, room_is)

-- it is enough, whatever the coefficients
pub plain_bytes : (c : ℕ → ℤ) (r : Register) (s : Scheme) → Valid r s → length (encode_plain c r s) ≤ own_room
plain_bytes c r s scheme = omega (arith, room_is, length-plain c r s, plain_count c r s, scheme.within.variables_within)
