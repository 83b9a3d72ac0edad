-- `search::terms::sum_at` meets its contract.
use Prim.Native.Nat.{ℕ, ◌+◌, ◌≤◌}
use mathlib.Core.Path.{◌≡◌}
use lib.IntN.{◌+ℤ◌}
use mir.Syntax.{w64}
use mir.Val.{SFits, to_z, of_z}
use mir.Facts.{to_z-of_z}
use Rattle.std.proofs.Common.{arith}
use Rattle.std.proofs.lemmas.Int.{ints}
use Rattle.integers.proofs.Machine.{fits_signed}
use Rattle.register.specs.declared.Register.{Register}
use Rattle.register.specs.Valid.{Within}
use Rattle.search.specs.Lent.{terms_in, sum_to}
use Rattle.search.proofs.Sums.{sum_to-zero, sum_to-next, sum_to_small, within_small}
use Rattle.search.proofs.terms.sum_at.Goals as goal

fits : (r : Register) (fed possible t : ℕ) → Within r → t + 1 ≤ r.terms → SFits w64 (sum_to r.base (terms_in r) (t + 1) fed possible)
fits r fed possible t w l = fits_signed w64 (sum_to r.base (terms_in r) (t + 1) fed possible) (omega (arith, sum_to_small r.base (terms_in r) fed possible w.base (within_small r w) (t + 1) l))

-- the total that a turn makes
total : (c : goal.After-from-total-in-loop-t) → to_z w64 c.loop-t.total-bits +ℤ to_z w64 (of_z w64 c.from-total-in-loop-t.result) ≡ sum_to c.args.register.now.base (terms_in c.args.register.now) (c.loop-t.t + 1) c.args.fed c.args.possible
total c = grind (arith, ints, to_z-of_z, sum_to-next)

pub loop-t-init : goal.loop-t-init
loop-t-init c = grind (arith, ints, to_z-of_z, sum_to-zero)

pub overflow_add-total : goal.overflow_add-total
overflow_add-total c = rw (total c) (fits c.args.register.now c.args.fed c.args.possible c.loop-t.t c.requires (omega arith))

pub loop-t-preserved : goal.loop-t-preserved
loop-t-preserved c = rw (total c) (to_z-of_z (fits c.args.register.now c.args.fed c.args.possible c.loop-t.t c.requires (omega arith)))
