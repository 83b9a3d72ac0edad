use Prim.Native.Nat.{ℕ, ◌<◌}
use Rattle.register.specs.Register.{window_tank}
use Rattle.register.proofs.MayFeed.{Looked}
use Rattle.register.proofs.windows.may_feed.Given as goal

abbrev pub invariant-loop-j : goal.invariant-loop-j
invariant-loop-j l = let r = l.register in ((i : ℕ) → i < l.passed → window_tank r i < l.tank) → Looked r.window_tanks r.window_froms r.window_tos l.tank l.minute l.none l.j
