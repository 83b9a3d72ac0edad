-- The commands passed are written.
use mathlib.Core.Path.{◌≡◌}
use lib.Seq.{sets}
use Rattle.builder.specs.Encoding.{encode_pairs}
use Rattle.builder.proofs.writing.put_pairs.Given as goal

abbrev pub invariant-loop-k : goal.invariant-loop-k
invariant-loop-k l = record { so_far : l.out ≡ sets l.fn.out l.at (encode_pairs l.byte l.k l.lefts l.rights) }
