use native.Mathlib.Omega.{arith}
use mathlib.Core.Path.{ap, ◌∙◌, sym}
use mathlib.Core.List.{◌++◌, append_assoc}
use lib.ListN.{length, length-append}
use mir.Syntax.{w64}
use mir.Val.{SFits}
use borrow.Author.Rules.{rules}
use Rattle.listing.specs.Listing.{bound_line}
use Rattle.listing.specs.Readers.{lines_for}
use Rattle.listing.proofs.Bits.{bound_bits}
use Rattle.listing.proofs.Lengths.{accepted_is, length_accepted}
use Rattle.listing.proofs.Listing.put_accepted.Goals as goal

pub put_plan-requires-clause-room : goal.put_plan-requires-clause-room
put_plan-requires-clause-room c = let r = c.args.read in omega (arith, length_accepted (lines_for c.args.reader) r.register r.plan r.bound r.cost r.gap)

pub put_line-requires : goal.put_line-requires
put_line-requires c =
    let r = c.args.read in
    let b : SFits w64 r.bound = search rules in
    let k : SFits w64 r.cost = search rules in
    let g : SFits w64 r.gap = search rules in
    rw (bound_bits r.bound r.cost r.gap b k g) (omega (
      arith,
      ap length c.put_plan.ensures,
      length-append c.args.self.now (lines_for c.args.reader r.register r.plan),
      length_accepted (lines_for c.args.reader) r.register r.plan r.bound r.cost r.gap,
    ))

pub returns : goal.returns
returns c =
    let r = c.args.read in
    let b : SFits w64 r.bound = search rules in
    let k : SFits w64 r.cost = search rules in
    let g : SFits w64 r.gap = search rules in
    let lines = lines_for c.args.reader in
    c.put_line.ensures
    ∙ ap (λ l. c.put_plan.new.self ++ l) (bound_bits r.bound r.cost r.gap b k g)
    ∙ ap (λ l. l ++ bound_line r.bound r.cost r.gap) c.put_plan.ensures
    ∙ append_assoc c.args.self.now (lines r.register r.plan) (bound_line r.bound r.cost r.gap)
    ∙ ap (λ l. c.args.self.now ++ l) (sym (accepted_is lines r.register r.plan r.bound r.cost r.gap))
