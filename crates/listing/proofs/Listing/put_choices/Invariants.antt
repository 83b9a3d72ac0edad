use Rattle.register.specs.Register.{tank, minute}
use Rattle.listing.specs.Listing.{choice_line}
use Rattle.listing.proofs.Joined.{Going}
use Rattle.listing.proofs.Listing.put_choices.Given as goal

abbrev pub invariant-loop-i : goal.invariant-loop-i
invariant-loop-i l = Going (λ i. choice_line i (tank l.fn.register i) (minute l.fn.register i)) l.fn.register.choices l.initial.self l.i l.self
