-- The entries looked at are 0.
use Prim.Native.Nat.{ℕ, ◌+◌, ◌≤◌, ◌<◌}
use mathlib.Core.Path.{◌≡◌}
use lib.IntN.{pos}
use mir.Syntax.{w8}
use Rattle.wire.specs.Number.{int_at}
use Rattle.register.proofs.rows.past_zero.Given as goal

abbrev pub invariant-loop-j : goal.invariant-loop-j
invariant-loop-j l = (i : ℕ) → l.n ≤ i → i < l.j → int_at w8 l.bytes (l.at + i) ≡ pos 0
