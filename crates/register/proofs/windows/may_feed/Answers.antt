use native.Mathlib.Omega.{arith}
use Rattle.register.proofs.MayFeed.{looked_starts, looked_inside, looked_past}
use Rattle.register.proofs.windows.may_feed.Goals as goal

pub loop-j-init : goal.loop-j-init
loop-j-init c = looked_starts _ _ _ _ _ _

pub returns-then-tank-of : goal.returns-then-tank-of
returns-then-tank-of c = λ rise ahead. looked_past _ _ _ _ _ _ (c.loop-j.invariant ahead) (omega arith) (λ i k l. omega (arith, c.if-tank-of.true, rise _ i k l))

pub returns-then-own-register : goal.returns-then-own-register
returns-then-own-register c = λ rise ahead. let r = c.args.register.now in looked_inside r.window_tanks r.window_froms r.window_tos c.args.tank c.args.minute r.windows c.loop-j.j (omega arith) c.if-own-register.true
