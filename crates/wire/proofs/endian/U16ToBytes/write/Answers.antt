-- By the law that splits what is written.
use Prim.Native.Nat.{ℕ, ◌+◌, ◌/◌}
use mathlib.Core.Path.{ap, ◌∙◌}
use mathlib.Core.List.{List}
use Rattle.wire.specs.Number.{put_at}
use Rattle.wire.proofs.Number.{put_at_split}
use Rattle.wire.proofs.endian.U16ToBytes.write.Goals as goal

pub returns : goal.returns
returns c =
    c.write-2.ensures
    ∙ ap (λ (l : List ℕ). put_at 1 l (c.args.at + 1) (c.args.self / 256)) c.write.ensures
    ∙ put_at_split 1 1 c.args.bytes.now c.args.at c.args.self
