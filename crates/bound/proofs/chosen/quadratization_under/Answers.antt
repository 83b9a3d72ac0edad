-- The register with the chosen coefficients is valid, and so is the scheme with it.
use mathlib.Core.Path.{refl}
use Rattle.plan.proofs.Coefficients.{under_valid}
use Rattle.scheme.proofs.Truncated.{valid_register}
use Rattle.plan.specs.Chosen.{under}
use Rattle.bound.proofs.Opening.{scheme_for}
use Rattle.bound.proofs.chosen.quadratization_under.Goals as goal

pub under-register-requires : goal.under-register-requires
under-register-requires c = (valid_register c.args.quadratization.now.register_valid).within

pub invariant_of-result : goal.invariant_of-result
invariant_of-result c =
    let q = c.args.quadratization.now in
    rw c.under-register.ensures (record {
      register_valid = ∣ under_valid q.register (valid_register q.register_valid) c.args.plan ∣₁;
      scheme_valid = scheme_for q.register (under q.register c.args.plan) q.scheme refl refl refl q.scheme_valid;
    })
