-- The terms passed are written.
use Prim.Native.Nat.{◌+◌, ◌*◌}
use lib.IntN.{pos}
use Rattle.wire.proofs.Written.{Going}
use Rattle.register.specs.Encoding.{encode_term}
use Rattle.costliest.specs.Costliest.{term_mask}
use Rattle.costliest.proofs.writing.put_terms.Given as goal

abbrev pub invariant-loop-t : goal.invariant-loop-t
invariant-loop-t l = record { so_far : Going (λ t. encode_term (term_mask l.shape.terms l.shape.degree t) (pos 1)) l.shape.terms l.start l.fn.out l.t (l.start + 9 * l.t) l.out }
