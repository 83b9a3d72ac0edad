use Prim.Native.Nat.{ℕ, ◌+◌, ◌*◌}
use mathlib.Core.Path.{refl, ap, ◌∙◌}
use mathlib.Core.List.{List}
use lib.ListN.{get_or}
use lib.Seq.{sets}
use Rattle.integers.specs.Lists.{join_below}
use Rattle.builder.specs.Encoding.{encode_pair}
use Rattle.builder.proofs.Bytes.{pairs_put}
use Rattle.builder.proofs.writing.put_pairs.Goals as goal

pub loop-k-init : goal.loop-k-init
unfolding join_below
loop-k-init c = record { so_far = refl }

pub loop-k-preserved : goal.loop-k-preserved
loop-k-preserved c = record {
  so_far =
      c.put_pair.ensures
      ∙ ap (λ (l : List ℕ). sets l (c.args.at + 3 * c.loop-k.k) (encode_pair c.args.byte (get_or c.args.lefts.now c.loop-k.k 0) (get_or c.args.rights.now c.loop-k.k 0))) c.loop-k.invariant.so_far
      ∙ pairs_put c.args.byte c.args.lefts.now c.args.rights.now c.args.out.now c.args.at c.loop-k.k;
}
