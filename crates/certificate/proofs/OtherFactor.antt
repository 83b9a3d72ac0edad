-- With another factor of the scheme a certificate's commands are read as before: rules and conditions are the same.
use mathlib.Core.Path.{◌≡◌, refl, ap, fun_ext}
use mathlib.Core.List.{List}
use Prim.Native.Nat.{ℕ}
use Rattle.wire.specs.Part.{read_part}
use Rattle.integers.proofs.Lists.{All-map}
use Rattle.register.specs.declared.Register.{Register}
use Rattle.scheme.specs.declared.Scheme.{Scheme}
use Rattle.scheme.specs.Scheme.{with_factor}
use Rattle.scheme.proofs.OtherFactor.{E_with_factor}
use Rattle.certificate.specs.Certificate.{Certificate}
use Rattle.certificate.specs.Rules.{rule_of}
use Rattle.certificate.specs.Format.{certificate_part, commands_in_job}
use Rattle.certificate.specs.Within.{Allowed, Within}

module _ (reg : Register) (s : Scheme) (f : ℕ) where
  pub rule_with_factor : rule_of reg (with_factor s f) ≡ rule_of reg s
  unfolding rule_of
  rule_with_factor = fun_ext (λ t. rw (E_with_factor s f reg.choices) refl)

  part_with_factor : certificate_part reg (with_factor s f) ≡ certificate_part reg s
  part_with_factor = rw rule_with_factor refl

  pub commands_with_factor : (x : List ℕ) → commands_in_job reg (with_factor s f) x ≡ commands_in_job reg s x
  unfolding commands_in_job
  commands_with_factor x = ap (λ part. read_part part x) part_with_factor

  allowed_with_factor : Allowed reg (with_factor s f) ≡ Allowed reg s
  unfolding Allowed
  allowed_with_factor = fun_ext (λ t. rw (E_with_factor s f reg.choices) refl)

  pub certificate_with_factor : (k : Certificate) → Within reg s k → Within reg (with_factor s f) k
  certificate_with_factor k w = record {
    scale_above = w.scale_above;
    scale_within = w.scale_within;
    target_within = w.target_within;
    multipliers_within = w.multipliers_within;
    multipliers = rw allowed_with_factor w.multipliers;
    squares_within = w.squares_within;
    squares =
        All-map _ _
        (λ q a. record {
          w_above = a.w_above;
          w_within = a.w_within;
          entries = a.entries;
          entries_within = a.entries_within;
          past_0 = a.past_0;
        })
        k.squares w.squares;
  }
