-- Where a scheme is refused and with which number: the numbers of a command's checks do not fall.
use Prim.Native.Nat.{ℕ}
use mathlib.Core.Path.{◌≡◌}
use mathlib.Core.Logic.{◌↔◌}
use mathlib.Core.List.{List}
use Rattle.integers.specs.Lists.{All}
use Rattle.integers.proofs.Lists.{◌▹◌}
use Rattle.wire.specs.Number.{Bytes}
use Rattle.wire.specs.Part.{refused}
use Rattle.wire.specs.Refused.{RefusedAt, RefusedByItself}
use Rattle.wire.proofs.Lowest.{Rising, Rises, rows_rising, refused_iff, refused_by_itself_iff}
use Rattle.register.specs.declared.Register.{Register}
use Rattle.scheme.specs.Scheme.{initial}
use Rattle.scheme.specs.Format.{factor_checks, product_checks, split_checks, end_checks, scheme_rows, scheme_part, scheme_in_job, scheme_by_itself}

module _ (reg : Register) where
  scheme_rises : All Rises (scheme_rows reg)
  unfolding factor_checks product_checks split_checks end_checks
  scheme_rises = (λ r xs. tt) ▹ (λ r xs. tt) ▹ (λ r xs. tt) ▹ (λ r xs. tt) ▹ tt

  scheme_rising : Rising (scheme_part reg)
  scheme_rising = rows_rising initial (scheme_rows reg) scheme_rises

  module _ (s : List ℕ) (b : Bytes s) (n at : ℕ) where
    pub scheme_refused : (scheme_in_job reg s ≡ refused n at) ↔ RefusedAt (scheme_part reg) s n at
    unfolding scheme_in_job
    scheme_refused = refused_iff (scheme_part reg) s scheme_rising n at b

    pub scheme_refused_by_itself : (scheme_by_itself reg s ≡ refused n at) ↔ RefusedByItself (scheme_part reg) s n at
    unfolding scheme_by_itself scheme_in_job
    scheme_refused_by_itself = refused_by_itself_iff (scheme_part reg) s scheme_rising n at b
