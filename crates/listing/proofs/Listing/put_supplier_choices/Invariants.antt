use Rattle.sets.specs.Sets.{is_member}
use Rattle.listing.specs.Listing.{supplier_line}
use Rattle.listing.proofs.Joined.{Going}
use Rattle.listing.proofs.Listing.put_supplier_choices.Given as goal

abbrev pub invariant-loop-i : goal.invariant-loop-i
invariant-loop-i l = Going (λ i. supplier_line i (is_member i l.fn.plan)) l.fn.register.choices l.initial.self l.i l.self
