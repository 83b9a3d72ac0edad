use Prim.Native.Nat.{◌^◌}
use native.Mathlib.Omega.{arith}
use native.Mathlib.Numerals.{add-one}
use mathlib.Core.Path.{◌≡◌, sym}
use mir.Syntax.{w64}
use Rattle.integers.proofs.Machine.{one_shifted}
use Rattle.scheme.proofs.Variables.{E_choice}
use Rattle.scheme.proofs.Sets.{sets_none, sets_put}
use Rattle.scheme.proofs.variable_sets.choice_sets.Goals as goal

pub loop-i-init : goal.loop-i-init
loop-i-init c = record { so_far = sets_none _ }

pub loop-i-preserved : goal.loop-i-preserved
loop-i-preserved c = record {
  so_far = λ s. rw (← (one_shifted w64 c.loop-i.i (omega arith)), add-one) (sets_put (c.loop-i.invariant.so_far s) (2 ^ c.loop-i.i) (omega arith) (sym (E_choice _ s c.loop-i.i (omega arith))));
}

pub returns : goal.returns
returns c = let e : c.loop-i.i ≡ c.args.n = omega arith in λ s. rw e at (c.loop-i.invariant.so_far s)
