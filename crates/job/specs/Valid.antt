-- The paper's conditions on the parts of a job, and the bytes of a job. Written without the readers.
use Rattle.std.specs.Prelude.{ℕ, ◌≡◌, cond, List, ◌++◌}
use Rattle.register.specs.Register.{has_range}
use Rattle.register.specs.Valid.{Valid as RegisterValid}
use Rattle.register.specs.Encoding as RE
use Rattle.scheme.specs.Valid.{Valid as SchemeValid}
use Rattle.scheme.specs.Encoding as SE
use Rattle.bound.specs.Valid.{Valid as CertificateValid}
use Rattle.certificate.specs.Encoding.{Encodes as CertificateEncodes}
use Rattle.plan.specs.Encoding as PE
use Rattle.plan.specs.Valid.{Valid as PlanValid}
use Rattle.job.specs.Outcome.{Parts, coefficients}

-- each part meets its conditions, the certificate with the coefficients that the plan chooses
pub record Valid (p : Parts) : Type 0 where
  pub register : RegisterValid p.register
  pub scheme : SchemeValid p.register p.scheme
  pub certificate : CertificateValid (coefficients p) p.register p.scheme p.certificate
  pub plan : PlanValid p.register p.plan

-- four parts follow each other, each in an encoding of it: where a term has a range, the plan comes before the certificate
pub record Encodes (p : Parts) (s : List ℕ) : Type 0 where
  pub first : List ℕ
  pub second : List ℕ
  pub third : List ℕ
  pub fourth : List ℕ
  pub register : RE.Encodes p.register first
  pub scheme : SE.Encodes p.register p.scheme second
  pub certificate : CertificateEncodes p.certificate third
  pub plan : PE.Encodes p.register p.plan fourth
  pub bytes : s ≡ first ++ (second ++ cond (has_range p.register) (fourth ++ third) (third ++ fourth))
