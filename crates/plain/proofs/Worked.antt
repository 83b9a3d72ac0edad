-- Row W7 of the paper's worked set: our own certificate on the example's register and the scheme of W3.
use Prim.Native.Nat.{ℕ}
use mathlib.Core.Path.{◌≡◌, refl, ◌∙◌}
use mathlib.Core.Bool.{Bool, true, false, cond}
use mathlib.Core.List.{List, [], ◌∷◌, flat_map, map}
use lib.IntN.{ℤ, negsuc}
use Rattle.integers.specs.Integer.{abs}
use Rattle.integers.specs.Lists.{all_below, join_below}
use Rattle.integers.specs.Sum.{sum_below, sum_over, except}
use Rattle.integers.specs.Quadratic.{off_diagonal}
use Rattle.forms.specs.Form.{coefficient_of, times, entry}
use Rattle.sets.specs.Sets.{is_subset}
use Rattle.register.specs.Register.{mask, coefficient}
use Rattle.plan.specs.Chosen.{chosen}
use Rattle.scheme.specs.Function.{term, g}
use Rattle.certificate.specs.Certificate.{Certificate}
use Rattle.certificate.specs.Rules.{by_key, rule_of}
use Rattle.residual.specs.Residual.{null_part, subtracted_part, null_forms, subtracted_forms, reformulated, shifted, R}
use Rattle.bound.specs.Bound.{row_holds, carries}
use Rattle.register.proofs.Example.{example_register}
use Rattle.certificate.proofs.Commands.{command}
use Rattle.scheme.proofs.Example.{built_scheme}
use Rattle.wire.specs.Number.{bytes_of}
use Rattle.certificate.specs.Encoding.{encode_scale, encode_multiplier}
use Rattle.plain.specs.Encoding.{encode_with, encode_plain}
use Rattle.plain.specs.Answer.{own_bytes}
use Rattle.plain.specs.Plain.{half_row_sum, linear_left, unless_zero, cancelling, subtracted_constant, plain}
use Rattle.plain.proofs.Same.{encode_plain_same}

-- the certificate with T = −6 and both `31` at m
abbrev pub with31 : ℕ → Certificate
with31 m = record {
  scale = 1;
  target = negsuc 5;
  multipliers = command 0x31 2 m ∷ command 0x31 3 m ∷ command 0x39 0 6 ∷ command 0x39 1 4 ∷ command 0x39 2 3 ∷ command 0x39 3 3 ∷ [];
  squares = [];
}

-- ours has T = −6 and both at 3
pub w7 : plain (coefficient example_register) example_register built_scheme ≡ with31 3
unfolding plain subtracted_constant linear_left half_row_sum unless_zero cancelling coefficient_of g join_below term sum_below sum_over off_diagonal except abs
w7 = refl

-- it carries T, and with a smaller multiplier in both it doesn't
pub w7_carries : map (λ m. carries (coefficient example_register) example_register built_scheme (with31 m)) (3 ∷ 2 ∷ []) ≡ true ∷ false ∷ []
unfolding carries all_below row_holds R shifted reformulated null_forms subtracted_forms null_part subtracted_part rule_of by_key flat_map times entry g join_below term sum_below sum_over off_diagonal except abs
w7_carries = refl

-- the bytes of such a certificate, with m below 256
abbrev pub w7_bytes : ℕ → List ℕ
w7_bytes m =
    0x30 ∷ 1 ∷ 0 ∷ 0 ∷ 0 ∷ 0xFA ∷ 0xFF ∷ 0xFF ∷ 0xFF ∷ 0xFF ∷ 0xFF ∷ 0xFF ∷ 0xFF
    ∷ 0x31 ∷ 2 ∷ m ∷ 0 ∷ 0 ∷ 0 ∷ 0 ∷ 0 ∷ 0 ∷ 0
    ∷ 0x31 ∷ 3 ∷ m ∷ 0 ∷ 0 ∷ 0 ∷ 0 ∷ 0 ∷ 0 ∷ 0
    ∷ 0x39 ∷ 0 ∷ 6 ∷ 0 ∷ 0 ∷ 0 ∷ 0 ∷ 0 ∷ 0 ∷ 0
    ∷ 0x39 ∷ 1 ∷ 4 ∷ 0 ∷ 0 ∷ 0 ∷ 0 ∷ 0 ∷ 0 ∷ 0
    ∷ 0x39 ∷ 2 ∷ 3 ∷ 0 ∷ 0 ∷ 0 ∷ 0 ∷ 0 ∷ 0 ∷ 0
    ∷ 0x39 ∷ 3 ∷ 3 ∷ 0 ∷ 0 ∷ 0 ∷ 0 ∷ 0 ∷ 0 ∷ 0
    ∷ 0x3F ∷ []

written : encode_plain (coefficient example_register) example_register built_scheme ≡ w7_bytes 3
unfolding encode_plain encode_with encode_scale encode_multiplier flat_map bytes_of
written = rw w7

-- those of ours: whatever the plan, since no term has a range
pub w7_bytes_lem : (plan : ℕ) → own_bytes example_register built_scheme plan ≡ w7_bytes 3
w7_bytes_lem plan =
    encode_plain_same (chosen example_register plan) (coefficient example_register) example_register built_scheme (λ t l. one (is_subset (mask example_register t) plan) (coefficient example_register t)) ∙ written
  where
    one : (b : Bool) (x : ℤ) → cond b x x ≡ x
    one true x = refl
    one false x = refl
