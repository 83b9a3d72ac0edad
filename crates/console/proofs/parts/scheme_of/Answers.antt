-- From what the builder's call answers.
use native.Mathlib.Omega.{arith}
use mathlib.Core.Path.{◌≡◌, ◌∙◌, ap}
use Rattle.console.specs.Parts.{made, built_scheme}
use Rattle.console.proofs.Made.{built_within, build_is, near, few, made_is, text_is}
use Rattle.console.proofs.parts.scheme_of.Goals as goal

pub made_of-requires-clause-position_bound : goal.made_of-requires-clause-position_bound
made_of-requires-clause-position_bound c =
    let s = c.args.register.now in
    let f = c.feedcheck_build-answer in
    omega (arith, ap (λ a. a.position) (f.ensures.answer ∙ (build_is c.args.text.now c.requires s).0), near _ _ (built_within s))

pub made_of-requires-clause-written : goal.made_of-requires-clause-written
made_of-requires-clause-written c =
    let s = c.args.register.now in
    let f = c.feedcheck_build-answer in
    omega (arith, ap (λ a. a.count) (f.ensures.answer ∙ (build_is c.args.text.now c.requires s).0), few _ _ (built_within s))

pub returns-clause-value : goal.returns-clause-value
returns-clause-value c =
    let s = c.args.register.now in
    let answer = c.feedcheck_build-answer.ensures.answer ∙ (build_is c.args.text.now c.requires s).0 in
    c.made_of.ensures.value ∙ rw answer (made_is _ _ (built_within s))

pub returns-clause-text_after : goal.returns-clause-text_after
returns-clause-text_after c =
    let s = c.args.register.now in
    let f = c.feedcheck_build-answer.ensures in
    let is = build_is c.args.text.now c.requires s in
    let answer = f.answer ∙ is.0 in
    let value : c.made_of.result ≡ made (built_scheme s) = c.made_of.ensures.value ∙ rw answer (made_is _ _ (built_within s)) in
    c.made_of.ensures.text_after ∙ rw (answer, f.buffer ∙ is.1, value) (text_is _ _ (built_within s) c.args.text.now)
