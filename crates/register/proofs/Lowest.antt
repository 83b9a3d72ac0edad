-- Where a register is refused and with which number: the numbers of a command's checks do not fall.
use Prim.Native.Nat.{ℕ}
use mathlib.Core.Path.{◌≡◌}
use mathlib.Core.Logic.{◌↔◌}
use mathlib.Core.List.{List}
use Rattle.integers.specs.Lists.{All}
use Rattle.integers.proofs.Lists.{◌▹◌}
use Rattle.wire.specs.Number.{Bytes}
use Rattle.wire.specs.Part.{refused}
use Rattle.wire.specs.Refused.{RefusedAt, RefusedByItself}
use Rattle.wire.proofs.Lowest.{Rising, Rises, rows_rising, refused_iff, refused_by_itself_iff}
use Rattle.register.specs.Register.{fresh}
use Rattle.register.specs.Format.{base_checks, choice_checks, term_checks, window_checks, row_checks, range_checks, length_checks, end_checks, register_rows, register_part, register_in_job, register_by_itself}

register_rises : All Rises register_rows
unfolding base_checks choice_checks term_checks window_checks row_checks range_checks length_checks end_checks
register_rises = (λ r xs. tt) ▹ (λ r xs. tt) ▹ (λ r xs. tt) ▹ (λ r xs. tt) ▹ (λ r xs. tt) ▹ (λ r xs. tt) ▹ (λ r xs. tt) ▹ (λ r xs. tt) ▹ (λ r xs. tt) ▹ tt

register_rising : Rising register_part
register_rising = rows_rising fresh register_rows register_rises

module _ (s : List ℕ) (b : Bytes s) (n at : ℕ) where
  pub register_refused : (register_in_job s ≡ refused n at) ↔ RefusedAt register_part s n at
  unfolding register_in_job
  register_refused = refused_iff register_part s register_rising n at b

  pub register_refused_by_itself : (register_by_itself s ≡ refused n at) ↔ RefusedByItself register_part s n at
  unfolding register_by_itself register_in_job
  register_refused_by_itself = refused_by_itself_iff register_part s register_rising n at b
