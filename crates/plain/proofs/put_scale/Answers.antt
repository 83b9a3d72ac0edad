use mathlib.Core.Path.{refl, ◌∙◌, ap}
use mathlib.Core.List.{◌∷◌, ◌++◌}
use native.Mathlib.Omega.{arith}
use mir.Facts.{to_z-of_z}
use mir.Syntax.{w64}
use mir.Val.{of_z}
use Rattle.wire.specs.Number.{bytes_of, written}
use Rattle.certificate.specs.Encoding.{encode_scale}
use Rattle.wire.proofs.Written.{command_stored}
use Rattle.plain.proofs.put_scale.Goals as goal

pub returns : goal.returns
unfolding encode_scale
returns c =
    let out = c.args.out.now in
    command_stored out 0 4 8 0x30 1 _ (omega arith) c.write.ensures c.write-2.ensures c.write-3.ensures refl refl
    ∙ ap (λ x. written out 0 (0x30 ∷ (bytes_of 4 1 ++ bytes_of 8 (of_z w64 x)))) (to_z-of_z c.ranges.target)
