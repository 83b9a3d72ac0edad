use Rattle.std.proofs.Common.{rules}
use mathlib.Core.Path.{◌≡◌, refl, ◌∙◌, ap}
use Prim.Native.Nat.{◌-◌, ◌/◌}
use native.Mathlib.Omega.{arith}
use lib.ListN.{take}
use Rattle.builder.specs.Builder.{full, next}
use Rattle.builder.specs.Work.{list_step}
use Rattle.builder.proofs.Passing.{pairing_starts, pair_inside, passes_full, passes_on, passes_odd, passes_even}
use Rattle.builder.proofs.state.Work.pair_up.Goals as goal
use Rattle.builder.proofs.state.Work.pair_up.Goals.{then-pairs-count, else-pairs-count}

pub loop-i-init : goal.loop-i-init
loop-i-init c = pairing_starts _ _ c.requires

pub join-requires-clause-a_bound : goal.join-requires-clause-a_bound
join-requires-clause-a_bound c = let g = c.loop-i.invariant in rw g.choices_kept (pair_inside g c.loop-i-test.true).0

pub join-requires-clause-b_bound : goal.join-requires-clause-b_bound
join-requires-clause-b_bound c = let g = c.loop-i.invariant in rw g.choices_kept (pair_inside g c.loop-i-test.true).1

pub loop-i-preserved : goal.loop-i-preserved
loop-i-preserved c =
    let g = c.loop-i.invariant in
    let j = c.in_ok-members.ensures in
    passes_on g c.loop-i-test.true c.join.new.self _ (rw g.choices_kept at (j.same)) (j.choices ∙ g.choices_kept) _ refl refl

pub returns-in_err-members-clause-same : goal.returns-in_err-members-clause-same
returns-in_err-members-clause-same c =
    let g = c.loop-i.invariant in
    let j = c.in_err-members.ensures in
    let answer : list_step c.join.new.self c.loop-i.members c.from_residual.result ≡ full = search rules in
    answer ∙ passes_full g c.loop-i-test.true (rw g.choices_kept at (j.same))

pub returns-clause-same : goal.returns-clause-same
returns-clause-same c =
    let g = c.loop-i.invariant in
    let i = c.loop-i.i in
    let count = c.args.members.now.count in
    elim c.if-pairs-count.branch [
      | then-pairs-count w ↦
          ap (λ x. next (record { scheme = c.loop-i.self.scheme; members = take (count - count / 2) x.1.1.0 })) w.members-is
          ∙ passes_odd g (count / 2) (count - count / 2) (omega arith) (omega arith) c.loop-i-test.false (omega arith)
      | else-pairs-count w ↦
          ap (λ x. next (record { scheme = c.loop-i.self.scheme; members = take (count - count / 2) x.1.1.0 })) w.members-is
          ∙ passes_even g (count - count / 2) (omega arith) (omega arith)
    ]

pub returns-clause-choices : goal.returns-clause-choices
returns-clause-choices c = c.loop-i.invariant.choices_kept
