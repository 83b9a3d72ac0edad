-- Three stores.
use Prim.Native.Nat.{ℕ, ◌+◌}
use mathlib.Core.Path.{ap, ◌∙◌}
use mathlib.Core.List.{List}
use Rattle.wire.specs.Number.{put_at}
use Rattle.builder.proofs.Bytes.{pair_put}
use Rattle.builder.proofs.writing.put_pair.Goals as goal

pub returns : goal.returns
returns c =
    c.write-2.ensures
    ∙ ap (λ (l : List ℕ). put_at 1 l (c.args.at + 2) c.args.r) c.write.ensures
    ∙ pair_put c.args.out.now c.args.at c.args.byte c.args.l c.args.r
