-- A scheme is accepted, with a valid register, from just those runs of bytes that are encodings of it, where it is valid for the
-- register.
use Prim.Native.Nat.{ℕ, ◌≤◌}
use mathlib.Core.Path.{◌≡◌}
use mathlib.Core.Logic.{◌↔◌, inl, inr, ⊎_elim}
use mathlib.Core.List.{List, ◌++◌}
use lib.ListN.{length, take}
use Rattle.wire.specs.Number.{Bytes}
use Rattle.wire.specs.Part.{accepted}
use Rattle.wire.specs.Rows.{Progress}
use Rattle.wire.specs.Encoding.{Command}
use Rattle.wire.proofs.Grammar.{only_map}
use Rattle.wire.proofs.Accepting.{reached}
use Rattle.wire.proofs.Acceptance as A
use Rattle.wire.proofs.Acceptance.{Means, front_valid, front_encodes, front_accepted, whole_accepted, whole_iff}
use Rattle.wire.proofs.Ends.{ends_means}
use Rattle.register.specs.declared.Register.{Register}
use Rattle.register.specs.Valid as R
use Rattle.scheme.specs.declared.Scheme.{Scheme}
use Rattle.scheme.specs.Scheme.{initial}
use Rattle.scheme.specs.Format.{scheme_rows, scheme_in_job, scheme_by_itself}
use Rattle.scheme.specs.Valid.{Valid}
use Rattle.scheme.specs.Encoding.{factor_command, Header, kinds, end_command, Commands, Encodes}
use Rattle.scheme.proofs.Laws.{FactorWhere, HeaderWhere, Done, laws}

-- a header, by what its commands say

pub header_said : (B : Type 0) (s : Scheme) (cs : List Command) → B → HeaderWhere B s cs → Header s cs
header_said B s cs b h = ⊎_elim (λ d. inl d) (λ o. inr (only_map (FactorWhere B s) (λ c. c ≡ factor_command s.factor) (λ c f. f.1 b) o)) h

pub header_says : (B : Type 0) (s : Scheme) (cs : List Command) → Header s cs → HeaderWhere B s cs
header_says B s cs h = ⊎_elim (λ d. inl d) (λ o. inr (only_map (λ c. c ≡ factor_command s.factor) (FactorWhere B s) (λ c f. (rw f, λ b. f)) o)) h

module _ (reg : Register) (ok : R.Valid reg) where
  means : Means (Done reg) (Valid reg) Commands (λ b. b ≡ 0x2F)
  means = ends_means (Valid reg) HeaderWhere kinds end_command Header header_said header_says

  -- ---- in a job

  module _ (s : List ℕ) (p : Progress Scheme) (end : ℕ) (e : scheme_in_job reg s ≡ accepted p end) where
    pub valid_accepted : Valid reg p.parsed × (p.previous ≡ 0x2F)
    unfolding scheme_in_job
    valid_accepted = front_valid initial (scheme_rows reg) (laws reg ok) means s p end e

    pub bytes_accepted : Bytes s → Encodes reg p.parsed (take end s) × (end ≤ length s)
    unfolding scheme_in_job
    bytes_accepted = front_encodes initial (scheme_rows reg) (laws reg ok) means s p end e

  -- every encoding of a valid scheme is accepted, whatever stands after it
  pub scheme_accepted : (c : Scheme) (x rest : List ℕ) → Valid reg c → Encodes reg c x → scheme_in_job reg (x ++ rest) ≡ accepted (reached 0x2F c) (length x)
  unfolding scheme_in_job
  scheme_accepted = front_accepted initial (scheme_rows reg) (laws reg ok) means

  -- ---- by itself

  pub encoding_accepted : (s : List ℕ) (c : Scheme) → Valid reg c → Encodes reg c s → scheme_by_itself reg s ≡ accepted (reached 0x2F c) (length s)
  unfolding scheme_by_itself scheme_in_job
  encoding_accepted s c = whole_accepted initial (scheme_rows reg) (laws reg ok) means c s

  module _ (s : List ℕ) (p : Progress Scheme) (end : ℕ) (e : scheme_by_itself reg s ≡ accepted p end) where
    pub whole_valid : Valid reg p.parsed × (p.previous ≡ 0x2F)
    unfolding scheme_by_itself scheme_in_job
    whole_valid = A.whole_valid initial (scheme_rows reg) (laws reg ok) means s p end e

    pub whole_encodes : Bytes s → Encodes reg p.parsed s
    unfolding scheme_by_itself scheme_in_job
    whole_encodes = A.whole_encodes initial (scheme_rows reg) (laws reg ok) means s p end e

  module _ (s : List ℕ) (c : Scheme) (b : Bytes s) where
    pub accepted_iff : (scheme_by_itself reg s ≡ accepted (reached 0x2F c) (length s)) ↔ (Valid reg c × Encodes reg c s)
    unfolding scheme_by_itself scheme_in_job
    accepted_iff = whole_iff initial (scheme_rows reg) (laws reg ok) means s c b
