-- What it means that the commands are accepted, over all runs of bytes: they are within the limits for the register and the
-- scheme, and what was read is an encoding of the certificate.
use Prim.Native.Nat.{ℕ, ◌+◌, ◌-◌, ◌≤◌, ◌<◌}
use native.Mathlib.Omega.{arith}
use mathlib.Core.Path.{◌≡◌, sym, ◌∙◌, ap}
use mathlib.Core.List.{List, [], ◌++◌, append-nil}
use lib.ListN.{length, get_or, take}
use lib.Seq.{take_all}
use Rattle.wire.specs.Number.{Bytes}
use Rattle.wire.specs.Part.{Part, Reading, accepted, size, after_at, read_part}
use Rattle.wire.specs.Rows.{Progress}
use Rattle.wire.proofs.Part.{Ways, by_ways, read_from_end}
use Rattle.wire.proofs.Accepting.{reached}
use Rattle.wire.proofs.Acceptance as A
use Rattle.register.specs.Limits.{max_rows}
use Rattle.register.specs.declared.Register.{Register}
use Rattle.scheme.specs.declared.Scheme.{Scheme}
use Rattle.scheme.specs.Scheme.{max_variables, variables}
use Rattle.certificate.specs.Certificate.{Certificate, fresh}
use Rattle.certificate.specs.Format.{command_size, certificate_rows, certificate_part, commands_in_job}
use Rattle.certificate.specs.Within.{Within}
use Rattle.certificate.specs.Encoding.{Encodes}
use Rattle.certificate.proofs.Sizes.{size_is, size_end}
use Rattle.certificate.proofs.Laws.{laws, means}
use Rattle.certificate.proofs.Encoded.{says_encodes, encodes_says}

module _ (reg : Register) (sch : Scheme) where
  abbrev P : Part (Progress Certificate)
  P = certificate_part reg sch

  module _ (s : List ℕ) (p : Progress Certificate) (end : ℕ) (e : commands_in_job reg sch s ≡ accepted p end) where
    pub within_accepted : Within reg sch p.parsed × (p.previous ≡ 0x3F)
    unfolding commands_in_job
    within_accepted = A.front_valid fresh (certificate_rows reg sch) (laws reg sch) (means reg sch) s p end e

    -- there is an end, within the bytes
    end_between : (0 < end) × (end ≤ length s)
    unfolding commands_in_job read_part
    end_between = read_from_end P s P.start 0 e

    pub end_within : end ≤ length s
    end_within = end_between.1

    -- `3F` stands one byte before the end
    pub end_stands : get_or s (end - 1) 0 ≡ 0x3F
    unfolding commands_in_job read_part after_at
    end_stands = by_ways P s Q ways P.start 0 e
      where
        Q : Progress Certificate → ℕ → Reading (Progress Certificate) → Type 0
        Q read at x = x ≡ accepted p end → get_or s (end - 1) 0 ≡ 0x3F

        ways : Ways P s Q
        ways = record {
          missing = λ read at l q. let z : ◌≡◌ {A = ℕ} 0 1 = cc in absurd (omega arith);
          refuses = λ read at n l f d q. let z : ◌≡◌ {A = ℕ} 0 1 = cc in absurd (omega arith);
          goes = λ read at x h l rest q. rest q;
          ends = λ read at h l q.
              let d : after_at P s read at ≡ p = cc in
              let k : at + size P (get_or s at 0) ≡ end = cc in
              let f : get_or s at 0 ≡ 0x3F = ap (λ r. r.previous) d ∙ within_accepted.1 in
              let one : size P (get_or s at 0) ≡ 1 = size_is reg sch (get_or s at 0) ∙ ap command_size f ∙ size_end in
              ap (λ i. get_or s i 0) (omega arith) ∙ f;
        }

  -- what was read, by its own bytes
  pub front_encodes : (s : List ℕ) (p : Progress Certificate) (end : ℕ) → Bytes s → commands_in_job reg sch s ≡ accepted p end → Encodes p.parsed (take end s) × (0 < end) × (end ≤ length s)
  unfolding commands_in_job
  front_encodes s p end b e =
      let (c, _) = A.front_encodes fresh (certificate_rows reg sch) (laws reg sch) (means reg sch) s p end e b in
      let (some, l) = end_between s p end e in
      (says_encodes reg sch p.parsed (take end s) (within_accepted s p end e).0 c, some, l)

  -- where nothing stands behind it
  pub encodes_accepted : (s : List ℕ) (p : Progress Certificate) (end : ℕ) → commands_in_job reg sch s ≡ accepted p end → Bytes s → end ≡ length s → Encodes p.parsed s
  encodes_accepted s p end e b l = rw (take_all end s (omega arith)) at (front_encodes s p end b e).0

  -- every encoding of a certificate within the limits is accepted
  module _ (few : variables reg.choices sch ≤ max_variables) (rows : reg.rows ≤ max_rows) (k : Certificate) (s : List ℕ) where
    -- at the front of a run of bytes
    pub certificate_front : (rest : List ℕ) → Within reg sch k → Encodes k s → commands_in_job reg sch (s ++ rest) ≡ accepted (reached 0x3F k) (length s)
    unfolding commands_in_job
    certificate_front rest w e = A.front_accepted fresh (certificate_rows reg sch) (laws reg sch) (means reg sch) k s rest w (encodes_says reg sch few rows k s w e)

    -- by itself
    pub certificate_accepted : Within reg sch k → Encodes k s → commands_in_job reg sch s ≡ accepted (reached 0x3F k) (length s)
    certificate_accepted w e = ap (commands_in_job reg sch) (sym (append-nil s)) ∙ certificate_front [] w e
