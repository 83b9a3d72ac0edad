use mathlib.Core.Path.{refl, sym, ◌∙◌, ap}
use mathlib.Core.List.{flat_map}
use native.Mathlib.Omega.{arith}
use Rattle.wire.specs.Number.{written}
use Rattle.plain.specs.Encoding.{encode_multipliers}
use Rattle.wire.proofs.Written.{command_stored, same, nothing}
use Rattle.plain.proofs.Encoded.{encode_command, unless_zero_none, unless_zero_one, unless_zero_ten}
use Rattle.plain.proofs.Command.put.Goals as goal

pub returns-then-self-eq0 : goal.returns-then-self-eq0
unfolding flat_map
returns-then-self-eq0 c =
    let a = c.args in
    let w = same a.out.now a.at (ap encode_multipliers (sym (unless_zero_none a.self.kind a.self.name a.self.m c.if-self-eq0.true))) (nothing a.out.now a.at) in
    record { value = w.0; out_after = w.1 }

-- ten bytes where the multiplier is not 0

pub write-requires : goal.write-requires
write-requires c = let a = c.args in omega (arith, unless_zero_ten a.self.kind a.self.name a.self.m c.if-self-eq0.false)

pub write-requires-2 : goal.write-requires-2
write-requires-2 c = let a = c.args in omega (arith, unless_zero_ten a.self.kind a.self.name a.self.m c.if-self-eq0.false)

pub write-requires-3 : goal.write-requires-3
write-requires-3 c = let a = c.args in omega (arith, unless_zero_ten a.self.kind a.self.name a.self.m c.if-self-eq0.false)

pub returns : goal.returns
returns c =
    let a = c.args in
    let out = a.out.now in
    record {
      value = omega (arith, unless_zero_ten a.self.kind a.self.name a.self.m c.if-self-eq0.false);
      out_after =
          command_stored out a.at 1 8 a.self.kind a.self.name a.self.m (omega arith) c.write.ensures c.write-2.ensures c.write-3.ensures refl (omega arith)
          ∙ ap (written out a.at) (sym (encode_command a.self.kind a.self.name a.self.m) ∙ ap encode_multipliers (sym (unless_zero_one a.self.kind a.self.name a.self.m c.if-self-eq0.false)));
    }
