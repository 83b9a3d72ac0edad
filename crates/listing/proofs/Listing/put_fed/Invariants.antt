use mathlib.Core.Bool.{cond}
use mathlib.Core.List.{[]}
use Rattle.register.specs.Register.{tank, minute}
use Rattle.sets.specs.Sets.{is_member}
use Rattle.listing.specs.Listing.{fed_line}
use Rattle.listing.proofs.Joined.{Going}
use Rattle.listing.proofs.Listing.put_fed.Given as goal

abbrev pub invariant-loop-i : goal.invariant-loop-i
invariant-loop-i l = Going (λ i. cond (is_member i l.fn.plan) (fed_line (tank l.fn.register i) (minute l.fn.register i)) []) l.fn.register.choices l.initial.self l.i l.self
