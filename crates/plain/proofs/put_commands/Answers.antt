use mathlib.Core.Path.{sym, ap}
use native.Mathlib.Omega.{arith}
use lib.ListN.{length}
use Rattle.integers.proofs.Join.{flat_map_join}
use Rattle.certificate.specs.Encoding.{encode_multiplier}
use Rattle.plain.specs.Encoding.{encode_multipliers}
use Rattle.wire.proofs.Written.{begins, room, turn, ends, same}
use Rattle.plain.proofs.put_commands.Goals as goal

pub loop-i-init : goal.loop-i-init
loop-i-init g c = begins _ _ _ _

pub put-at-requires : goal.put-at-requires
put-at-requires g c =
    let n = c.args.n in
    let d = c.requires.1.1.0 c.loop-i.i c.command.result (omega arith) c.command.ensures in
    omega (
      arith,
      ap (λ ts. length (encode_multipliers ts)) d,
      room _ _ _ _ c.loop-i.invariant (omega arith) (rw (← (flat_map_join encode_multiplier n g.multipliers)) c.requires.1.1.1),
    )

pub loop-i-preserved : goal.loop-i-preserved
loop-i-preserved g c =
    let d = c.requires.1.1.0 c.loop-i.i c.command.result (omega arith) c.command.ensures in
    turn _ _ _ _ c.loop-i.invariant (omega arith) (same _ _ (ap encode_multipliers d) (c.put-at.ensures.value, c.put-at.ensures.out_after))

pub returns : goal.returns
returns g c =
    let w = same _ _ (sym (flat_map_join encode_multiplier c.args.n g.multipliers)) (ends _ _ _ _ c.loop-i.invariant (omega arith)) in
    record { value = w.0; out_after = w.1 }
