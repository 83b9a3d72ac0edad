-- By what `fresh` and `choice_sets` ensure.
use mathlib.Core.Path.{refl}
use native.Mathlib.Nat.{add-zero}
use native.Mathlib.Omega.{arith}
use Rattle.scheme.specs.Scheme.{fresh, initial}
use Rattle.builder.proofs.state.Work.fresh.Goals as goal

pub invariant_of-result : goal.invariant_of-result
unfolding fresh
invariant_of-result c = record {
  ready = record {
    few = c.requires;
    within = rw c.initial.ensures (omega arith);
    variables_within = rw c.initial.ensures (omega (arith, c.requires));
    lengths = rw c.initial.ensures (record { lefts = refl; rights = refl; split_lefts = refl; split_rights = refl });
    sets_are = rw (c.initial.ensures, add-zero) (c.choice_sets.ensures initial);
  };
}
