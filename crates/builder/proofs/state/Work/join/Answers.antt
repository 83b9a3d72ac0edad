-- By the variable that is found.
use mathlib.Core.Path.{◌∙◌, ap₂}
use Rattle.scheme.specs.Scheme.{with_product}
use Rattle.builder.proofs.Joining.{joins_found, joins_full, joins_new, new_ready}
use Rattle.builder.proofs.state.Work.join.Goals as goal

pub returns-in-Some-clause-same : goal.returns-in-Some-clause-same
returns-in-Some-clause-same c =
    let (there, first) = c.in-Some.ensures in
    joins_found c.args.self.now.ready c.requires.a_bound c.requires.b_bound c.union_of-union.ensures c.in-Some.v there first

pub returns-then-full-clause-same : goal.returns-then-full-clause-same
returns-then-full-clause-same c =
    joins_full c.args.self.now.ready c.requires.a_bound c.requires.b_bound c.union_of-union.ensures c.in_default.ensures c.if-full.true

pub invariant_of-self : goal.invariant_of-self
invariant_of-self c =
    let made = c.with_product-self.ensures ∙ ap₂ (with_product c.args.self.now.scheme) c.min.ensures c.max.ensures in
    record { ready = new_ready c.args.self.now.ready c.requires.a_bound c.requires.b_bound c.union_of-union.ensures c.in_default.ensures c.if-full.false c.with_product-self.result made }

pub returns-clause-same : goal.returns-clause-same
returns-clause-same c =
    let made = c.with_product-self.ensures ∙ ap₂ (with_product c.args.self.now.scheme) c.min.ensures c.max.ensures in
    joins_new c.args.self.now.ready c.requires.a_bound c.requires.b_bound c.union_of-union.ensures c.in_default.ensures c.if-full.false c.with_product-self.result made
