use Prim.Native.Nat.{◌≤◌}
use native.Mathlib.Omega.{arith}
use mathlib.Core.Path.{sym, ◌∙◌}
use Rattle.wire.proofs.Walk.{walking_starts, walking_none, walking_found, walking_counted, walking_passed}
use Rattle.register.specs.Format.{register_part}
use Rattle.register.specs.Encoding.{term_kind}
use Rattle.register.specs.Position.{term_position}
use Rattle.register.proofs.Prefix.{size_within}
use Rattle.register.proofs.walk.term_position.Goals.{then-is_term+else-left-eq0, else-is_term}
use Rattle.register.proofs.walk.term_position.Goals as goal

pub loop-at-init : goal.loop-at-init
unfolding term_position
loop-at-init c = walking_starts register_part term_kind.bytes _ _

pub returns-then-left-eq0 : goal.returns-then-left-eq0
returns-then-left-eq0 c = walking_found register_part _ _ c.loop-at.invariant c.loop-at-test.true (sym c.is_term.ensures ∙ c.if-is_term.true) c.if-left-eq0.true

pub overflow_add-at : goal.overflow_add-at
overflow_add-at c =
    let small : c.command_size-at.result ≤ 35 = rw c.command_size-at.ensures (size_within _) in
    record { fits = omega arith }

pub loop-at-preserved : goal.loop-at-preserved
loop-at-preserved c = rw c.command_size-at.ensures (elim c.if-is_term.branch [
  | then-is_term+else-left-eq0 w ↦ let h = w.left-is in walking_counted register_part _ _ c.loop-at.invariant c.loop-at-test.true _ (sym c.is_term.ensures ∙ w.if-is_term.true) (omega arith)
  | else-is_term w ↦ rw w.left-is (walking_passed register_part _ _ c.loop-at.invariant c.loop-at-test.true (sym c.is_term.ensures ∙ w.if-is_term.false))
])

pub returns : goal.returns
returns c = walking_none register_part _ _ c.loop-at.invariant c.loop-at-test.false
