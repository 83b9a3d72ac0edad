-- A term is written after those passed.
use Prim.Native.Nat.{◌+◌, ◌*◌}
use native.Mathlib.Nat.{add-zero}
use native.Mathlib.Omega.{arith}
use mathlib.Core.Path.{◌∙◌, ap}
use lib.IntN.{pos}
use Rattle.wire.specs.Number.{written}
use Rattle.wire.proofs.Written.{begins, turn}
use Rattle.register.specs.Encoding.{encode_term}
use Rattle.costliest.specs.Costliest.{term_mask}
use Rattle.costliest.proofs.Lengths.{length_term}
use Rattle.costliest.proofs.writing.put_terms.Goals as goal

pub loop-t-init : goal.loop-t-init
loop-t-init c = let s = c.args.shape in
    let a = c.args in
    record { so_far = rw add-zero (begins (λ t. encode_term (term_mask s.terms s.degree t) (pos 1)) s.terms a.start a.out.now) }

pub loop-t-preserved : goal.loop-t-preserved
loop-t-preserved c =
    let s = c.args.shape in
    let a = c.args in
    let t = c.loop-t.t in
    record {
      so_far =
          turn (λ t. encode_term (term_mask s.terms s.degree t) (pos 1)) s.terms a.start a.out.now c.loop-t.invariant.so_far c.loop-t-test.true (
            omega (arith, length_term (term_mask s.terms s.degree t) (pos 1)),
            c.put_term.ensures ∙ ap (λ x. written c.loop-t.out (a.start + 9 * t) (encode_term x (pos 1))) c.mask.ensures,
          );
    }
