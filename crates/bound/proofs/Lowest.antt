-- Where a certificate is refused and with which number: R is looked at where no command is refused.
use Prim.Native.Nat.{ℕ, ◌+◌, ◌-◌, ◌≤◌}
use native.Mathlib.Omega.{arith}
use mathlib.Core.Path.{◌≡◌, refl, sym, ◌∙◌}
use mathlib.Core.Logic.{inl, inr, ◌↔◌}
use mathlib.Core.Bool.{Bool, true, false, cond, true≢false}
use mathlib.Core.List.{List}
use lib.Dec.{ltb}
use lib.IntN.{ℤ}
use lib.ListN.{length, take, drop, take-append-drop}
use lib.Seq.{length-take-le}
use borrow.Author.Tests.{ltb-true, lt-ltb}
use Rattle.integers.proofs.Lists.{T_true}
use Rattle.wire.specs.Number.{Bytes}
use Rattle.wire.specs.Part.{Reading, refused, accepted, by_itself}
use Rattle.wire.specs.Rows.{Progress}
use Rattle.wire.proofs.Number.{bytes_take}
use Rattle.wire.proofs.Fronts.{whole_front}
use Rattle.wire.proofs.Accepting.{reached}
use Rattle.register.specs.declared.Register.{Register}
use Rattle.register.specs.Valid as R
use Rattle.scheme.specs.declared.Scheme.{Scheme}
use Rattle.scheme.specs.Valid as S
use Rattle.certificate.specs.Certificate.{Certificate}
use Rattle.certificate.specs.Format.{certificate_part, commands_in_job}
use Rattle.certificate.specs.Within.{Within}
use Rattle.certificate.specs.Encoding.{Encodes}
use Rattle.certificate.proofs.Accept.{within_accepted, front_encodes, end_stands, certificate_accepted}
use Rattle.certificate.proofs.Lowest.{commands_refused}
use Rattle.bound.specs.Bound.{carries}
use Rattle.bound.specs.Format.{dominance_checked, certificate_in_job, certificate_by_itself}
use Rattle.bound.specs.Valid.{Valid}
use Rattle.bound.specs.Refused.{FallsShort, CertificateRefused, CertificateRefusedByItself}
use Rattle.bound.proofs.Accept.{commands_accepted, valid_accepted, whole_accepted, encoding_accepted}

module _ (reg : Register) (reg_valid : R.Valid reg) (sch : Scheme) (sch_valid : S.Valid reg sch) (c : ℕ → ℤ) where
  -- a valid certificate is one whose R carries T
  valid_carries : (k : Certificate) (s : List ℕ) → Encodes k s → Valid c reg sch k → carries c reg sch k ≡ true
  valid_carries k s e v =
      let (q, _) = whole_accepted reg sch c s _ _ (encoding_accepted reg reg_valid sch sch_valid c k s v e) in
      (T_true _).0 (commands_accepted reg sch c s _ _ q).1

  module _ (s : List ℕ) (b : Bytes s) where
    falls_short : (p : Progress Certificate) (end : ℕ) → commands_in_job reg sch s ≡ accepted p end → carries c reg sch p.parsed ≡ false → FallsShort c reg sch s 9 (end - 1)
    falls_short p end q short =
        let (e, some, l) = front_encodes reg sch s p end b q in
        let k : end - 1 + 1 ≡ end = omega arith in
        record {
          nine = refl;
          inside = omega arith;
          end = end_stands reg sch s p end q;
          certificate = p.parsed;
          bytes = rw k e;
          conditions = (within_accepted reg sch s p end q).0;
          short = λ v. true≢false (sym (valid_carries p.parsed (take end s) e v) ∙ short);
        }

    refused_certificate : (n at : ℕ) → certificate_in_job c reg sch s ≡ refused n at → CertificateRefused c reg sch s n at
    unfolding certificate_in_job dominance_checked
    refused_certificate n at = go (commands_in_job reg sch s) refl
      where
        by : (p : Progress Certificate) (end : ℕ) → commands_in_job reg sch s ≡ accepted p end → (t : Bool) → carries c reg sch p.parsed ≡ t →
            ◌≡◌ {A = Reading (Progress Certificate)} (cond t (accepted p end) (refused 9 (end - 1))) (refused n at) → CertificateRefused c reg sch s n at
        by p end e true u q = let z : ◌≡◌ {A = ℕ} 0 1 = cc in absurd (omega arith)
        by p end e false u q =
            let m : 9 ≡ n = cc in
            let k : end - 1 ≡ at = cc in
            inr (rw (m, k) at (falls_short p end e u))

        go : (x : Reading (Progress Certificate)) → commands_in_job reg sch s ≡ x → dominance_checked c reg sch x ≡ refused n at → CertificateRefused c reg sch s n at
        go (refused m k) e q = inl ((commands_refused reg sch s n at b).0 (e ∙ q))
        go (accepted p end) e q = by p end e (carries c reg sch p.parsed) refl q

    refused_by_itself : (n at : ℕ) → certificate_by_itself c reg sch s ≡ refused n at → CertificateRefusedByItself c reg sch s n at
    unfolding certificate_by_itself by_itself
    refused_by_itself n at = go (certificate_in_job c reg sch s) refl
      where
        by : (p : Progress Certificate) (end : ℕ) → certificate_in_job c reg sch s ≡ accepted p end → (t : Bool) → ltb end (length s) ≡ t →
            ◌≡◌ {A = Reading (Progress Certificate)} (cond t (refused 12 end) (accepted p end)) (refused n at) → CertificateRefusedByItself c reg sch s n at
        by p end e true u q =
            let m : 12 ≡ n = cc in
            let k : end ≡ at = cc in
            let (x, _) = commands_accepted reg sch c s p end e in
            inr (record {
              twelve = sym m;
              inside = omega (arith, ltb-true end (length s) u);
              certificate = p.parsed;
              bytes = rw k at (front_encodes reg sch s p end b x).0;
              conditions = (valid_accepted reg sch c s p end e).0;
            })
        by p end e false u q = let z : ◌≡◌ {A = ℕ} 0 1 = cc in absurd (omega arith)

        go : (x : Reading (Progress Certificate)) → certificate_in_job c reg sch s ≡ x → by_itself s x ≡ refused n at → CertificateRefusedByItself c reg sch s n at
        go (refused m k) e q = inl (refused_certificate n at (e ∙ q))
        go (accepted p end) e q = by p end e (ltb end (length s)) refl q

    -- and it is refused with just that number at just that position

    -- the commands of a certificate within the limits at the front
    front_read : (k : Certificate) (end : ℕ) → end ≤ length s → Within reg sch k → Encodes k (take end s) → commands_in_job reg sch s ≡ accepted (reached 0x3F k) end
    unfolding commands_in_job
    front_read k end l w e =
        let n : length (take end s) ≡ end = length-take-le end s l in
        let q = whole_front (certificate_part reg sch) (take end s) (drop end s) (reached 0x3F k) (bytes_take end s b) (certificate_accepted reg sch sch_valid.within.variables_within reg_valid.within.rows.few k (take end s) w e) in
        rw (take-append-drop end s, n) at q

    certificate_refuses : (n at : ℕ) → CertificateRefused c reg sch s n at → certificate_in_job c reg sch s ≡ refused n at
    unfolding certificate_in_job dominance_checked
    certificate_refuses n at (inl r) = rw ((commands_refused reg sch s n at b).1 r)
    certificate_refuses n at (inr f) =
        let q = front_read f.certificate (at + 1) (omega (arith, f.inside)) f.conditions f.bytes in
        let k : at + 1 - 1 ≡ at = omega arith in
        by (carries c reg sch f.certificate) refl q ∙ rw (k, f.nine)
      where
        by : (t : Bool) → carries c reg sch f.certificate ≡ t → commands_in_job reg sch s ≡ accepted (reached 0x3F f.certificate) (at + 1) → certificate_in_job c reg sch s ≡ refused 9 (at + 1 - 1)
        by true u q =
            let x : certificate_in_job c reg sch s ≡ accepted (reached 0x3F f.certificate) (at + 1) = rw (q, u) in
            absurd (f.short (valid_accepted reg sch c s _ (at + 1) x).0)
        by false u q = rw (q, u)

    refuses_by_itself : (n at : ℕ) → CertificateRefusedByItself c reg sch s n at → certificate_by_itself c reg sch s ≡ refused n at
    unfolding certificate_by_itself certificate_in_job dominance_checked by_itself
    refuses_by_itself n at (inl r) = rw (certificate_refuses n at r)
    refuses_by_itself n at (inr f) =
        let q = front_read f.certificate at (omega (arith, f.inside)) f.conditions.within f.bytes in
        rw (q, valid_carries f.certificate (take at s) f.bytes f.conditions, lt-ltb at (length s) f.inside, f.twelve)

    pub certificate_refused : (n at : ℕ) → (certificate_in_job c reg sch s ≡ refused n at) ↔ CertificateRefused c reg sch s n at
    certificate_refused n at = (refused_certificate n at, certificate_refuses n at)

    pub certificate_refused_by_itself : (n at : ℕ) → (certificate_by_itself c reg sch s ≡ refused n at) ↔ CertificateRefusedByItself c reg sch s n at
    certificate_refused_by_itself n at = (refused_by_itself n at, refuses_by_itself n at)
