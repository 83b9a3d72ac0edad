-- The products, the splits and the end.
use Prim.Native.Nat.{ℕ, ◌+◌, ◌*◌}
use mathlib.Core.Path.{ap, ◌∙◌}
use mathlib.Core.List.{List}
use lib.ListN.{set}
use lib.Seq.{sets}
use Rattle.builder.specs.Encoding.{encode_pairs}
use Rattle.builder.proofs.Bytes.{scheme_put}
use Rattle.builder.proofs.writing.put_scheme.Goals as goal

pub returns : goal.returns
returns c = let s = c.args.scheme.now in λ n.
    ap (λ (l : List ℕ). set l (3 * s.products + 3 * s.splits) 0x2F) (c.put_pairs-2.ensures ∙ ap (λ (l : List ℕ). sets l (3 * s.products) (encode_pairs 0x22 s.splits s.split_lefts s.split_rights)) c.put_pairs.ensures)
    ∙ scheme_put n s c.args.out.now c.requires.splits_in_bounds
