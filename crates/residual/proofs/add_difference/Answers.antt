-- The two monomials.
use Prim.Native.Nat.{ℕ}
use mathlib.Core.Path.{◌≡◌}
use mathlib.Core.List.{[], ◌∷◌}
use native.Mathlib.Omega.{arith}
use lib.IntN.{ℤ, pos, ◌*ℤ◌}
use Rattle.forms.specs.Form.{Form, mono, times}
use Rattle.forms.specs.Store.{max_before_monomial}
use Rattle.forms.proofs.Form.{below-[], below_∷}
use Rattle.forms.proofs.Store.{norm1}
use Rattle.forms.proofs.Added.{adds_then, adds_same, room_after}
use Rattle.certificate.specs.Rules.{minus1}
use Rattle.residual.proofs.Adds.{multiple_read, multiple_small}
use Rattle.residual.proofs.add_difference.Goals as goal

-- by k as the code has it
both : (p q p' q' : ℕ) (k k' : ℤ) → k' ≡ k → ◌≡◌ {A = Form} (mono p q (k' *ℤ pos 1) ∷ mono p' q' (k' *ℤ minus1) ∷ []) (times k (mono p q (pos 1) ∷ mono p' q' minus1 ∷ []))
unfolding times
both p q p' q' k k' e = rw e

pub add_multiple-requires-2-clause-room : goal.add_multiple-requires-2-clause-room
unfolding norm1
add_multiple-requires-2-clause-room c =
    room_after c.requires.room c.add_multiple.ensures (below_∷ (omega arith) (omega arith) below-[]) max_before_monomial (omega (arith, multiple_small c.args.k (pos 1) c.requires.k_bound (omega arith)))

pub returns : goal.returns
returns c = adds_same (adds_then c.add_multiple.ensures c.add_multiple-2.ensures) (both _ _ _ _ c.args.k _ (multiple_read c.args.k c.requires.k_bound))
