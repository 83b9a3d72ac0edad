-- How a certificate is refused, with a register and a scheme. c t is the coefficient of term t.
use Rattle.std.specs.Prelude.{ℕ, ◌+◌, ◌<◌, ◌≡◌, ◌⊎◌, List, ℤ, length, get_or, take}
use Rattle.wire.specs.Refused.{RefusedAt}
use Rattle.register.specs.declared.Register.{Register}
use Rattle.scheme.specs.declared.Scheme.{Scheme}
use Rattle.certificate.specs.Certificate.{Certificate}
use Rattle.certificate.specs.Format.{certificate_part}
use Rattle.certificate.specs.Within.{Within}
use Rattle.bound.specs.Valid.{Valid}
use Rattle.certificate.specs.Encoding.{Encodes}

module _ (c : ℕ → ℤ) (reg : Register) (sch : Scheme) where
  -- 9, at the position of `3F`: up to it stands a certificate that meets every condition but the last, that R carries T
  pub record FallsShort (s : List ℕ) (number at : ℕ) : Type 0 where
    pub nine : number ≡ 9
    pub inside : at < length s
    pub end : get_or s at 0 ≡ 0x3F
    pub certificate : Certificate
    pub bytes : Encodes certificate (take (at + 1) s)
    pub conditions : Within reg sch certificate
    pub short : Valid c reg sch certificate → ⊥

  -- 12, at the first byte after a certificate that meets its conditions
  pub record PastEnd (s : List ℕ) (number at : ℕ) : Type 0 where
    pub twelve : number ≡ 12
    pub inside : at < length s
    pub certificate : Certificate
    pub bytes : Encodes certificate (take at s)
    pub conditions : Valid c reg sch certificate

  -- at the front of a run of bytes, as in a job: a command is refused, or R falls short
  abbrev pub CertificateRefused : List ℕ → ℕ → ℕ → Type 0
  CertificateRefused s number at = RefusedAt (certificate_part reg sch) s number at ⊎ FallsShort s number at

  -- a run of bytes by itself
  abbrev pub CertificateRefusedByItself : List ℕ → ℕ → ℕ → Type 0
  CertificateRefusedByItself s number at = CertificateRefused s number at ⊎ PastEnd s number at
