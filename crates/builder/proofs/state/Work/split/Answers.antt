-- By one member or two.
use mathlib.Core.Path.{sym, ◌∙◌, ap₂}
use native.Mathlib.Omega.{arith}
use Rattle.scheme.specs.Scheme.{with_split}
use Rattle.builder.proofs.Joining.{split_is}
use Rattle.builder.proofs.Terms.{split_ready}
use Rattle.builder.proofs.state.Work.split.Goals as goal

pub invariant_of-self : goal.invariant_of-self
invariant_of-self c = record { ready = split_ready c.args.self.now.ready _ _ _ c.with_split-self.ensures }

pub returns-clause-scheme : goal.returns-clause-scheme
returns-clause-scheme c =
    let s = c.args.self.now.scheme in
    let m = c.args.members.now in
    c.with_split-self.ensures ∙ ap₂ (with_split s) c.min.ensures c.max.ensures
    ∙ sym (split_is s m.entries m.count c.requires.le_count c.requires.count_bound (omega (arith, m.long)))
