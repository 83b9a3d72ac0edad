-- The entries passed are stored.
use Prim.Native.Nat.{◌+◌}
use mathlib.Core.Path.{◌≡◌}
use mathlib.Core.List.{[], ◌∷◌}
use lib.Seq.{sets}
use mir.Syntax.{w8}
use Rattle.integers.specs.Lists.{join_below}
use Rattle.wire.specs.Number.{int_at}
use Rattle.register.proofs.rows.put_entries.Given as goal

abbrev pub invariant-loop-j : goal.invariant-loop-j
invariant-loop-j l = l.entries ≡ sets l.fn.entries l.place (join_below l.j (λ i. int_at w8 l.bytes (l.at + i) ∷ []))
