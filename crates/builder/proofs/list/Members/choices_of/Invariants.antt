-- The choices passed are listed.
use Prim.Native.Nat.{◌≤◌}
use mathlib.Core.Path.{◌≡◌}
use Rattle.builder.specs.Builder.{choices_of}
use Rattle.builder.specs.Work.{listed}
use Rattle.builder.proofs.list.Members.choices_of.Given as goal

abbrev pub invariant-loop-i : goal.invariant-loop-i
invariant-loop-i l = record { list_is : listed l.members ≡ choices_of l.i l.mask; count_within : l.members.count ≤ l.i }
