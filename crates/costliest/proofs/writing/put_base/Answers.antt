-- A byte and a number.
use mathlib.Core.Path.{refl, ◌∙◌, ap}
use mathlib.Core.List.{◌++◌}
use native.Mathlib.Omega.{arith}
use Rattle.wire.specs.Number.{bytes_of, put_at, written}
use Rattle.wire.proofs.Written.{put_at-written, put_at_next, one_byte}
use Rattle.register.specs.Encoding.{encode_base}
use Rattle.costliest.proofs.writing.put_base.Goals as goal

pub returns : goal.returns
unfolding encode_base bytes_of
returns c =
    let out = c.args.out.now in
    c.write-2.ensures
    ∙ ap (λ l. put_at 4 l 1 0) (c.write.ensures ∙ put_at-written out 0 1 0x10)
    ∙ put_at_next out 0 (bytes_of 1 0x10) 1 4 0 refl
    ∙ ap (λ l. written out 0 (l ++ bytes_of 4 0)) (one_byte 0x10 (omega arith))
