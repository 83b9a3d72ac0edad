-- Where a command is refused and with which number: the numbers of its checks do not fall.
use Prim.Native.Nat.{ℕ}
use mathlib.Core.Path.{◌≡◌}
use mathlib.Core.Logic.{◌↔◌}
use mathlib.Core.List.{List, [], ◌∷◌, map}
use Rattle.integers.specs.Lists.{All}
use Rattle.integers.proofs.Lists.{◌▹◌, All-append}
use Rattle.wire.specs.Number.{Bytes}
use Rattle.wire.specs.Part.{refused}
use Rattle.wire.specs.Refused.{RefusedAt}
use Rattle.wire.proofs.Lowest.{Rising, Rises, rows_rising, refused_iff}
use Rattle.register.specs.declared.Register.{Register}
use Rattle.scheme.specs.declared.Scheme.{Scheme}
use Rattle.certificate.specs.Certificate.{fresh}
use Rattle.certificate.specs.Format.{scale_checks, multiplier_checks, multiplier_kinds, multiplier_row, square_checks, square_row, end_row, certificate_rows, certificate_part, commands_in_job}
use Rattle.certificate.proofs.Ranges.{rows_alike}

module _ (reg : Register) (sch : Scheme) where
  certificate_rises : All Rises (certificate_rows reg sch)
  unfolding scale_checks multiplier_checks square_checks
  certificate_rises =
      let square : Rises (square_row reg sch) = λ r xs. tt in
      let end : Rises end_row = λ r xs. tt in
      (λ r xs. tt) ▹ All-append Rises (map (multiplier_row reg sch) multiplier_kinds) (square_row reg sch ∷ end_row ∷ []) (rows_alike Rises (multiplier_row reg sch) (λ kind h r xs. tt)) (square ▹ end ▹ tt)

  certificate_rising : Rising (certificate_part reg sch)
  certificate_rising = rows_rising fresh (certificate_rows reg sch) certificate_rises

  -- everything before a refused command is right, and its number is the lowest of its checks that fail
  pub commands_refused : (s : List ℕ) (n at : ℕ) → Bytes s → (commands_in_job reg sch s ≡ refused n at) ↔ RefusedAt (certificate_part reg sch) s n at
  unfolding commands_in_job
  commands_refused s n at b = refused_iff (certificate_part reg sch) s certificate_rising n at b
