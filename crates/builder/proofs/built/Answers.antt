use Rattle.std.proofs.Common.{rules}
use Prim.Native.Nat.{suc}
use native.Mathlib.Omega.{arith}
use mathlib.Core.Path.{◌≡◌, sym, ◌∙◌}
use Rattle.builder.specs.Builder.{full, next, stopped}
use Rattle.builder.specs.Work.{built_of, scheme_step}
use Rattle.builder.proofs.Terms.{building_starts, building_ends, building_stops, building_on}
use Rattle.builder.proofs.built.Goals as goal

pub loop-t-init : goal.loop-t-init
loop-t-init c = building_starts _ _ c.fresh-work.ensures.choices c.fresh-work.ensures.scheme

pub add_term-requires-clause-splits_lt_max_terms : goal.add_term-requires-clause-splits_lt_max_terms
add_term-requires-clause-splits_lt_max_terms c = omega (arith, c.requires.within.terms.few, c.loop-t.invariant.splits_are)

pub add_term-requires-clause-le_mask : goal.add_term-requires-clause-le_mask
add_term-requires-clause-le_mask c = (c.requires.within.terms.each c.loop-t.t-counter c.loop-t-test.true).mask_not_0

pub add_term-requires-clause-mask_bound : goal.add_term-requires-clause-mask_bound
add_term-requires-clause-mask_bound c = rw c.loop-t.invariant.choices_kept (c.requires.within.terms.each c.loop-t.t-counter c.loop-t-test.true).mask_names

pub returns-in_err-map_err : goal.returns-in_err-map_err
returns-in_err-map_err c =
    let g = c.loop-t.invariant in
    let answer : built_of c.from_residual.result ≡ stopped c.loop-t.t-counter = search rules in
    let step : scheme_step c.add_term.new.self c.add_term.result ≡ full = search rules in
    answer ∙ building_stops g c.loop-t-test.true (rw g.choices_kept at (sym step ∙ c.add_term.ensures.same))

pub loop-t-preserved : goal.loop-t-preserved
loop-t-preserved c =
    let g = c.loop-t.invariant in
    let r = c.add_term.new.self in
    let step : scheme_step r c.add_term.result ≡ next r.scheme = search rules in
    let more : r.scheme.splits ≡ suc c.loop-t.work.scheme.splits = search rules in
    building_on g c.loop-t-test.true r c.add_term.ensures.choices (rw g.choices_kept at (sym step ∙ c.add_term.ensures.same)) more

pub returns : goal.returns
returns c = building_ends c.loop-t.invariant c.loop-t-test.false
