-- What acceptance means, over all runs of bytes: the certificate is valid for the register and the scheme, and what was read is
-- an encoding of it.
use Prim.Native.Nat.{ℕ, ◌-◌}
use native.Mathlib.Omega.{arith}
use mathlib.Core.Path.{◌≡◌, refl}
use mathlib.Core.Logic.{◌↔◌}
use mathlib.Core.Bool.{Bool, true, false, cond}
use mathlib.Core.List.{List, ◌++◌}
use lib.Dec.{T}
use lib.IntN.{ℤ}
use lib.ListN.{length}
use borrow.Author.Tests.{le-ltb}
use Rattle.integers.proofs.Lists.{T_true}
use Rattle.wire.specs.Number.{Bytes}
use Rattle.wire.specs.Part.{Reading, refused, accepted, by_itself}
use Rattle.wire.specs.Rows.{Progress}
use Rattle.wire.proofs.Encoding.{by_itself_accepted}
use Rattle.wire.proofs.Accepting.{reached}
use Rattle.register.specs.declared.Register.{Register}
use Rattle.register.specs.Valid as R
use Rattle.scheme.specs.declared.Scheme.{Scheme}
use Rattle.scheme.specs.Valid as S
use Rattle.certificate.specs.Certificate.{Certificate}
use Rattle.certificate.specs.Format.{commands_in_job}
use Rattle.certificate.specs.Encoding.{Encodes}
use Rattle.certificate.proofs.Accept.{within_accepted, end_within, encodes_accepted, certificate_front, certificate_accepted}
use Rattle.bound.specs.Bound.{carries}
use Rattle.bound.specs.Format.{dominance_checked, certificate_in_job, certificate_by_itself}
use Rattle.bound.specs.Valid.{Valid}
use Rattle.bound.proofs.Conditions.{carries_iff}

module _ (reg : Register) (sch : Scheme) where
  module _ (c : ℕ → ℤ) where
    -- ---- in a job: R carries T

    dominance_accepted : (x : Reading (Progress Certificate)) (p : Progress Certificate) (end : ℕ) → dominance_checked c reg sch x ≡ accepted p end → (x ≡ accepted p end) × T (carries c reg sch p.parsed)
    unfolding dominance_checked
    dominance_accepted (refused n at) p end e = let z : ◌≡◌ {A = ℕ} 0 1 = cc in absurd (omega arith)
    dominance_accepted (accepted q to) p end e = by (carries c reg sch q.parsed) refl e
      where
        by : (t : Bool) → carries c reg sch q.parsed ≡ t → ◌≡◌ {A = Reading (Progress Certificate)} (cond t (accepted q to) (refused 9 (to - 1))) (accepted p end) → (◌≡◌ {A = Reading (Progress Certificate)} (accepted q to) (accepted p end)) × T (carries c reg sch p.parsed)
        by true u e = let k : q ≡ p = cc in (e, rw (← k) ((T_true _).1 u))
        by false u e = let z : ◌≡◌ {A = ℕ} 0 1 = cc in absurd (omega arith)

    module _ (s : List ℕ) (p : Progress Certificate) (end : ℕ) (e : certificate_in_job c reg sch s ≡ accepted p end) where
      pub commands_accepted : (commands_in_job reg sch s ≡ accepted p end) × T (carries c reg sch p.parsed)
      unfolding certificate_in_job
      commands_accepted = dominance_accepted (commands_in_job reg sch s) p end e

      pub valid_accepted : Valid c reg sch p.parsed × (p.previous ≡ 0x3F)
      valid_accepted =
          let (q, t) = commands_accepted in
          let (w, f) = within_accepted reg sch s p end q in
          (record { within = w; carried = (carries_iff c reg sch p.parsed).0 ((T_true _).0 t) }, f)

-- ---- a run of bytes by itself

module _ (reg : Register) (sch : Scheme) (c : ℕ → ℤ) (s : List ℕ) (p : Progress Certificate) (end : ℕ) (e : certificate_by_itself c reg sch s ≡ accepted p end) where
  -- it is accepted in a job too, and ends with its last byte
  pub whole_accepted : (certificate_in_job c reg sch s ≡ accepted p end) × (end ≡ length s)
  unfolding certificate_by_itself
  whole_accepted =
      let (q, l) = by_itself_accepted s (certificate_in_job c reg sch s) p end e in
      (q, omega (arith, end_within reg sch s p end (commands_accepted reg sch c s p end q).0))

  -- what was read is valid, and the bytes are an encoding of it
  pub whole_valid : Valid c reg sch p.parsed
  whole_valid = (valid_accepted reg sch c s p end whole_accepted.0).0

  pub whole_encodes : Bytes s → Encodes p.parsed s
  whole_encodes b = let (q, l) = whole_accepted in encodes_accepted reg sch s p end (commands_accepted reg sch c s p end q).0 b l

module _ (reg : Register) (reg_valid : R.Valid reg) (sch : Scheme) (sch_valid : S.Valid reg sch) (c : ℕ → ℤ) (k : Certificate) (s : List ℕ) where
  -- every encoding of a valid certificate is accepted
  pub encoding_accepted : Valid c reg sch k → Encodes k s → certificate_by_itself c reg sch s ≡ accepted (reached 0x3F k) (length s)
  unfolding certificate_by_itself certificate_in_job dominance_checked by_itself
  encoding_accepted v e =
      let x = certificate_accepted reg sch sch_valid.within.variables_within reg_valid.within.rows.few k s v.within e in
      let t : carries c reg sch k ≡ true = (carries_iff c reg sch k).1 v.carried in
      rw (x, t, le-ltb (length s) (length s) (omega arith))

  -- also at the front of a run of bytes, as in a job
  pub encoding_front : (rest : List ℕ) → Valid c reg sch k → Encodes k s → certificate_in_job c reg sch (s ++ rest) ≡ accepted (reached 0x3F k) (length s)
  unfolding certificate_in_job dominance_checked
  encoding_front rest v e =
      let x = certificate_front reg sch sch_valid.within.variables_within reg_valid.within.rows.few k s rest v.within e in
      let (in_job, _) = whole_accepted reg sch c s _ _ (encoding_accepted v e) in
      let t : carries c reg sch k ≡ true = (T_true (carries c reg sch k)).0 (commands_accepted reg sch c s _ _ in_job).1 in
      rw (x, t)

  -- a certificate is accepted from just those runs of bytes that encode it, where it is valid
  pub accepted_iff : Bytes s → (certificate_by_itself c reg sch s ≡ accepted (reached 0x3F k) (length s)) ↔ (Valid c reg sch k × Encodes k s)
  accepted_iff b = (λ e. (whole_valid reg sch c s _ _ e, whole_encodes reg sch c s _ _ e b), λ h. encoding_accepted h.0 h.1)
