use Prim.Native.Nat.{ℕ, ◌<◌}
use mathlib.Core.Logic.{◌⊎◌}
use Rattle.register.specs.Register.{window_tank}
use Rattle.register.proofs.windows.pass_windows.Given as goal

-- each window before j was passed, or is of a lower tank
abbrev pub invariant-loop-j : goal.invariant-loop-j
invariant-loop-j l = (i : ℕ) → i < l.j → (i < l.passed) ⊎ (window_tank l.register i < l.tank)
