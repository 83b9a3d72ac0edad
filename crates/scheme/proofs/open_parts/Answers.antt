-- By what opening the register and reading the scheme lead to.
use Rattle.std.proofs.Common.{rules}
use mathlib.Core.Path.{◌≡◌, sym, ◌∙◌}
use Rattle.wire.specs.Outcome.{refuses, accepts}
use Rattle.wire.specs.Results.{number_of}
use Rattle.scheme.specs.Answer.{parts_of}
use Rattle.scheme.proofs.Answers.{parts_opened}
use Rattle.register.proofs.Opened.{opened_by}
use Rattle.scheme.proofs.Opened.{opened}
use Rattle.scheme.proofs.open_parts.Goals as goal

pub read_scheme-requires : goal.read_scheme-requires
read_scheme-requires c = (opened_by _ _ c.in_ok-register.ensures).valid

pub returns-in_err-scheme : goal.returns-in_err-scheme
returns-in_err-scheme c =
    let f = c.in_err-scheme.field-0.0 in
    let answer : parts_of c.from_residual-in_err-scheme.result ≡ refuses (number_of f.refusal) f.part f.position = search rules in
    answer ∙ parts_opened _ _ _ c.read_scheme.result (refuses _ _ _) c.in_ok-register.ensures c.read_scheme.ensures c.in_err-scheme.ensures

pub returns : goal.returns
returns c = parts_opened _ _ _ c.read_scheme.result (accepts _) c.in_ok-register.ensures c.read_scheme.ensures c.in_ok-scheme.ensures

pub invariant_of-result : goal.invariant_of-result
invariant_of-result c =
    let o = opened c.args.register.now c.args.scheme.now _ _ (sym (parts_opened _ _ _ c.read_scheme.result (accepts _) c.in_ok-register.ensures c.read_scheme.ensures c.in_ok-scheme.ensures)) in
    record { register_valid = ∣ o.register_valid ∣₁; scheme_valid = o.scheme_valid }
