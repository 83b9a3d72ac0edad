-- The conditions on a plan of a register. Written without the reader.
use Rattle.std.specs.Prelude.{ℕ, ◌^◌, ◌<◌}
use Rattle.register.specs.declared.Register.{Register}
use Rattle.plan.specs.Fits.{Fits}

-- every choice that it feeds is there, and it fits the rows
pub record Valid (reg : Register) (plan : ℕ) : Type 0 where
  pub inside : plan < 2 ^ reg.choices
  pub fits : Fits reg plan
