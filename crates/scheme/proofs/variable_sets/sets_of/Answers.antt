use Prim.Native.Nat.{◌+◌, ◌<◌}
use native.Mathlib.Nat.{add-zero, add_assoc}
use native.Mathlib.Omega.{arith}
use native.Mathlib.Numerals.{add-one}
use Rattle.scheme.specs.Scheme.{left}
use Rattle.scheme.proofs.Variables.{left_falls}
use Rattle.scheme.proofs.Sets.{left_at, right_at, sets_product}
use Rattle.scheme.proofs.variable_sets.sets_of.Goals as goal

pub loop-k-init : goal.loop-k-init
loop-k-init c = record { so_far = rw add-zero (c.choice_sets-sets.ensures _) }

pub loop-k-preserved : goal.loop-k-preserved
loop-k-preserved c =
    let n = c.args.n in
    let s = c.args.scheme in
    let k = c.loop-k.k in
    let p = c.requires.products (n + k) (omega arith) (omega arith) in
    let l : left n s (n + k) < n + k = left_falls n s c.requires.products (n + k) (omega arith) (omega arith) in
    record {
      so_far = rw (c.union_of.ensures, ← (add_assoc n k 1), add-one (n + k)) (sets_product c.loop-k.invariant.so_far _ _ (left_at n s k) (right_at n s k) (omega arith) (omega arith) (rw left_at at l) (rw right_at at p.falls));
    }
