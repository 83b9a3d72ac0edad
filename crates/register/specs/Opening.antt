-- For calls that open part 1: the register as a run of bytes by itself.
use Rattle.std.specs.Prelude.{ℕ, List}
use Rattle.wire.specs.Outcome.{Outcome, given}
use Rattle.register.specs.declared.Register.{Register}
use Rattle.register.specs.Format.{register_by_itself}

abbrev pub open_register : List ℕ → Outcome Register
open_register s = given 1 (register_by_itself s)
