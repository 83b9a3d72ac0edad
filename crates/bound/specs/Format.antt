-- A certificate as a whole: its commands, and at `3F` whether R carries T. c t is the coefficient of term t.
use Rattle.std.specs.Prelude.{ℕ, ◌-◌, cond, List, ℤ}
use Rattle.wire.specs.Part.{Reading, refused, accepted, by_itself}
use Rattle.wire.specs.Rows.{Progress}
use Rattle.register.specs.declared.Register.{Register}
use Rattle.scheme.specs.declared.Scheme.{Scheme}
use Rattle.certificate.specs.Certificate.{Certificate}
use Rattle.certificate.specs.Format.{commands_in_job}
use Rattle.bound.specs.Bound.{carries}

-- at `3F`, R falls short, that is, does not carry T: 9, at the position of `3F`, one byte before the end (`end_stands` in
-- certificate/proofs/Accept)
unfoldable pub dominance_checked : (ℕ → ℤ) → Register → Scheme → Reading (Progress Certificate) → Reading (Progress Certificate)
dominance_checked c reg sch (refused number at) = refused number at
dominance_checked c reg sch (accepted p end) = cond (carries c reg sch p.parsed) (accepted p end) (refused 9 (end - 1))

-- the certificate at the front of a run of bytes, as in a job
unfoldable pub certificate_in_job : (ℕ → ℤ) → Register → Scheme → List ℕ → Reading (Progress Certificate)
certificate_in_job c reg sch s = dominance_checked c reg sch (commands_in_job reg sch s)

-- the certificate as a run of bytes by itself
unfoldable pub certificate_by_itself : (ℕ → ℤ) → Register → Scheme → List ℕ → Reading (Progress Certificate)
certificate_by_itself c reg sch s = by_itself s (certificate_in_job c reg sch s)
