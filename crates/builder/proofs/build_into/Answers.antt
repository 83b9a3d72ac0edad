-- By what opening the register, the builder and the writer ensure.
use Rattle.std.proofs.Common.{rules}
use mathlib.Core.Path.{◌≡◌, sym, ◌∙◌}
use native.Mathlib.Omega.{arith}
use Rattle.register.proofs.Opened.{opened_by}
use Rattle.builder.specs.Builder.{built, build}
use Rattle.builder.proofs.Answers.{build_whole}
use Rattle.builder.proofs.Validity.{build_valid}
use Rattle.builder.proofs.build_into.Goals as goal

pub built-requires : goal.built-requires
built-requires c = (opened_by _ _ c.in_ok-given.ensures).valid

pub write_scheme-requires-clause-products_le_max_products : goal.write_scheme-requires-clause-products_le_max_products
write_scheme-requires-clause-products_le_max_products c =
    let v = (opened_by _ _ c.in_ok-given.ensures).valid in
    let e : built c.in_ok-scheme.scheme ≡ build c.in_ok-given.given = search rules in
    (build_valid _ v _ (sym e)).within.products_within

pub write_scheme-requires-clause-splits_le_max_terms : goal.write_scheme-requires-clause-splits_le_max_terms
write_scheme-requires-clause-splits_le_max_terms c =
    let v = (opened_by _ _ c.in_ok-given.ensures).valid in
    let e : built c.in_ok-scheme.scheme ≡ build c.in_ok-given.given = search rules in
    let w = build_valid _ v _ (sym e) in
    omega (arith, w.all_split, v.within.terms.few)

pub returns-clause-answer : goal.returns-clause-answer
returns-clause-answer c =
    let reg = c.in_ok-given.given in
    let e : built c.in_ok-scheme.scheme ≡ build reg = search rules in
    c.write_scheme.ensures.answer reg.choices ∙ (build_whole _ _ reg c.in_ok-given.ensures _ e).0

pub returns-clause-buffer : goal.returns-clause-buffer
returns-clause-buffer c =
    let reg = c.in_ok-given.given in
    let e : built c.in_ok-scheme.scheme ≡ build reg = search rules in
    c.write_scheme.ensures.buffer reg.choices ∙ (build_whole _ _ reg c.in_ok-given.ensures _ e).1
