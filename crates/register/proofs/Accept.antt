-- A register is accepted from just those runs of bytes that are encodings of it, where it is valid.
use Prim.Native.Nat.{ℕ, ◌≤◌}
use native.Mathlib.Omega.{arith}
use mathlib.Core.Path.{◌≡◌, refl, ◌∙◌, ap}
use mathlib.Core.Logic.{◌↔◌}
use mathlib.Core.List.{List, ◌++◌}
use lib.ListN.{length, take}
use Rattle.wire.specs.Number.{Bytes}
use Rattle.wire.specs.Part.{Reading, refused, accepted}
use Rattle.wire.specs.Rows.{Progress}
use Rattle.wire.specs.Encoding.{Command, Accepts}
use Rattle.wire.specs.Grammar.{Only}
use Rattle.wire.proofs.Encoding.{by_itself_end}
use Rattle.wire.proofs.Grammar.{last_from, only_map, optional_map}
use Rattle.wire.proofs.Accepting.{reached}
use Rattle.wire.proofs.Acceptance as A
use Rattle.wire.proofs.Ends.{ends_means}
use Rattle.wire.proofs.Acceptance.{Means, said_accepts, front_valid, front_encodes, front_accepted, determines, whole_accepted, whole_iff}
use Rattle.register.specs.declared.Register.{Register}
use Rattle.register.specs.Limits.{usual_day}
use Rattle.register.specs.Register.{fresh}
use Rattle.register.specs.Format.{register_rows, register_part, register_in_job, register_by_itself}
use Rattle.register.specs.Valid.{Valid}
use Rattle.register.specs.Encoding.{base_command, length_command, Header, end_command, kinds, Commands, Encodes}
use Rattle.register.specs.Answer.{register_answer}
use Rattle.register.proofs.Laws.{BaseWhere, LengthWhere, HeaderWhere, Done, laws}

-- a header, by what its commands say

pub header_said : (B : Type 0) (r : Register) (cs : List Command) → B → HeaderWhere B r cs → Header r cs
header_said B r cs b h =
    optional_map (Only (BaseWhere B r)) (Only (λ c. c ≡ base_command r.base)) (r.day_length ≡ usual_day) (LengthWhere B r) (λ c. c ≡ length_command r.day_length) (λ ds. only_map (BaseWhere B r) (λ c. c ≡ base_command r.base) (λ c f. f.1 b)) (λ c f. f.1 b) h

pub header_says : (B : Type 0) (r : Register) (cs : List Command) → Header r cs → HeaderWhere B r cs
header_says B r cs h =
    optional_map (Only (λ c. c ≡ base_command r.base)) (Only (BaseWhere B r)) (r.day_length ≡ usual_day) (λ c. c ≡ length_command r.day_length) (LengthWhere B r) (λ ds. only_map (λ c. c ≡ base_command r.base) (BaseWhere B r) (λ c f. (rw f, λ b. f))) (λ c f. (rw f, λ b. f)) h

means : Means Done Valid Commands (λ b. b ≡ 0x1F)
means = ends_means Valid HeaderWhere kinds end_command Header header_said header_says

pub commands_accepted : (r : Register) (cs : List Command) → Valid r → Commands r cs → Accepts register_part register_part.start cs (reached (last_from 0 cs) r)
commands_accepted = said_accepts fresh register_rows laws means

-- ---- in a job

module _ (s : List ℕ) (p : Progress Register) (end : ℕ) (e : register_in_job s ≡ accepted p end) where
  pub valid_accepted : Valid p.parsed × (p.previous ≡ 0x1F)
  unfolding register_in_job
  valid_accepted = front_valid fresh register_rows laws means s p end e

  pub bytes_accepted : Bytes s → Encodes p.parsed (take end s) × (end ≤ length s)
  unfolding register_in_job
  bytes_accepted = front_encodes fresh register_rows laws means s p end e

-- every encoding of a valid register is accepted, whatever stands after it, and by itself

pub register_accepted : (r : Register) (x rest : List ℕ) → Valid r → Encodes r x → register_in_job (x ++ rest) ≡ accepted (reached 0x1F r) (length x)
unfolding register_in_job
register_accepted = front_accepted fresh register_rows laws means

pub encoding_accepted : (s : List ℕ) (r : Register) → Valid r → Encodes r s → register_by_itself s ≡ accepted (reached 0x1F r) (length s)
unfolding register_by_itself register_in_job
encoding_accepted s r = whole_accepted fresh register_rows laws means r s

-- and accepted by itself

module _ (s : List ℕ) (p : Progress Register) (end : ℕ) (e : register_by_itself s ≡ accepted p end) where
  pub whole_valid : Valid p.parsed × (p.previous ≡ 0x1F)
  unfolding register_by_itself register_in_job
  whole_valid = A.whole_valid fresh register_rows laws means s p end e

  pub whole_encodes : Bytes s → Encodes p.parsed s
  unfolding register_by_itself register_in_job
  whole_encodes = A.whole_encodes fresh register_rows laws means s p end e

-- two valid registers with one encoding are one
pub encodes_determines : (r r' : Register) (x : List ℕ) → Valid r → Valid r' → Encodes r x → Encodes r' x → r ≡ r'
encodes_determines = determines fresh register_rows laws means

module _ (s : List ℕ) (r : Register) (b : Bytes s) where
  pub accepted_iff : (register_by_itself s ≡ accepted (reached 0x1F r) (length s)) ↔ (Valid r × Encodes r s)
  unfolding register_by_itself register_in_job
  accepted_iff = whole_iff fresh register_rows laws means s r b

  -- the answer of the call
  pub answer_iff : (register_answer (register_by_itself s) ≡ record { number = 0; part = 0; position = 0; register = r }) ↔ (Valid r × Encodes r s)
  unfolding register_by_itself register_in_job
  answer_iff = (to (register_by_itself s) refl, λ h. rw (accepted_iff.1 h))
    where
      to : (x : Reading (Progress Register)) → register_by_itself s ≡ x → register_answer x ≡ record { number = 0; part = 0; position = 0; register = r } → Valid r × Encodes r s
      to (refused n at) q e = let z : ◌≡◌ {A = ℕ} 1 0 = ap (λ a. a.part) e in absurd (omega arith)
      to (accepted p end) q e =
          let g : p.parsed ≡ r = ap (λ a. a.register) e in
          let (j, l) = by_itself_end register_part s p end q in
          let f : p.previous ≡ 0x1F = (valid_accepted s p end j).1 in
          accepted_iff.0 (q ∙ rw (l, ← f, ← g))
