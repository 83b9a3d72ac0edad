-- The rows of the paper's worked set that speak of the penalty form.
use Prim.Native.Nat.{ℕ, ◌+◌, ◌-◌}
use mathlib.Core.Path.{◌≡◌, refl, ◌∙◌, ap}
use mathlib.Core.List.{[], ◌∷◌, map}
use mathlib.Core.Bool.{Bool, true, false, cond}
use lib.IntN.{ℤ, pos, negsuc, ◌+ℤ◌, ◌*ℤ◌, +ℤ_idl}
use lib.ListN.{get_or, replicate}
use Rattle.integers.specs.Integer.{abs, bit}
use Rattle.integers.specs.Lists.{join_below}
use Rattle.integers.specs.Sum.{sum_below, sum_over}
use Rattle.integers.proofs.Ring.{one_*ℤ}
use Rattle.forms.specs.Form.{value, entry, times}
use Rattle.forms.specs.Table.{row}
use Rattle.register.specs.declared.Register.{Register}
use Rattle.register.specs.Limits.{max_choices}
use Rattle.register.specs.Register.{coefficient, set_base, set_choices}
use Rattle.scheme.specs.declared.Scheme.{Scheme}
use Rattle.scheme.specs.Scheme.{with_factor}
use Rattle.scheme.specs.Variables.{up_to, upward}
use Rattle.scheme.specs.Filling.{Filling, factor}
use Rattle.scheme.specs.Function.{g, term}
use Rattle.register.proofs.Example.{example_register, known_terms}
use Rattle.scheme.proofs.Example.{example_scheme, built_scheme}
use Rattle.penalty.specs.Weights.{reaches, uses, usage, weight}
use Rattle.penalty.specs.Penalty.{bracket, h}

-- W5: the bracket where (z_k, z_l, z_r) is 000, 001, .. 111, in this order
pub w5 : (k l r : ℕ) (z : Filling) → value (factor z) (bracket k l r)
    ≡ get_or (pos 0 ∷ pos 0 ∷ pos 0 ∷ pos 1 ∷ pos 3 ∷ pos 1 ∷ pos 1 ∷ pos 0 ∷ []) (cond (z k) 4 0 + cond (z l) 2 0 + cond (z r) 1 0) (pos 0)
unfolding value bracket sum_over
w5 k l r z = eight (z k) (z l) (z r)
  where
    eight : (a b c : Bool) →
        (pos 3 *ℤ pos 1 *ℤ bit a +ℤ (negsuc 1 *ℤ bit a *ℤ bit b +ℤ (negsuc 1 *ℤ bit a *ℤ bit c +ℤ (pos 1 *ℤ bit b *ℤ bit c +ℤ pos 0))))
        ≡ get_or (pos 0 ∷ pos 0 ∷ pos 0 ∷ pos 1 ∷ pos 3 ∷ pos 1 ∷ pos 1 ∷ pos 0 ∷ []) (cond a 4 0 + cond b 2 0 + cond c 1 0) (pos 0)
    eight false false false = refl
    eight false false true = refl
    eight false true false = refl
    eight false true true = refl
    eight true false false = refl
    eight true false true = refl
    eight true true false = refl
    eight true true true = refl

-- W6: P_3 = 5
pub w6 : weight (coefficient example_register) example_register built_scheme 3 ≡ pos 5
unfolding weight usage uses reaches upward up_to sum_below abs
w6 = refl

-- in the example's scheme the last term uses both products
weights : map (weight (coefficient example_register) example_register example_scheme) (3 ∷ 4 ∷ []) ≡ pos 5 ∷ pos 5 ∷ []
unfolding weight usage uses reaches upward up_to sum_below abs
weights = refl

-- an entry of its table: −2 P_3
table : entry (h (coefficient example_register) example_register example_scheme) 4 1 ≡ negsuc 9
unfolding entry h g weight usage uses reaches upward up_to sum_below sum_over abs join_below term bracket times
table = refl

-- its whole table where the factor is 2, so that both weights are 10
heavier_table : join_below 6 (λ i. row 6 (entry (h (coefficient example_register) example_register (with_factor example_scheme 2)) i))
    ≡ pos 20 ∷ negsuc 5 ∷ negsuc 3 ∷ pos 0 ∷ pos 30 ∷ pos 35
    ∷ negsuc 5 ∷ pos 0 ∷ pos 10 ∷ pos 0 ∷ negsuc 19 ∷ pos 0
    ∷ negsuc 3 ∷ pos 10 ∷ pos 0 ∷ pos 0 ∷ negsuc 19 ∷ pos 0
    ∷ pos 0 ∷ pos 0 ∷ pos 0 ∷ pos 0 ∷ pos 10 ∷ negsuc 19
    ∷ pos 30 ∷ negsuc 19 ∷ negsuc 19 ∷ pos 10 ∷ pos 0 ∷ negsuc 19
    ∷ pos 35 ∷ pos 0 ∷ pos 0 ∷ negsuc 19 ∷ negsuc 19 ∷ pos 0
    ∷ []
unfolding entry h g weight usage uses reaches upward up_to sum_below sum_over abs join_below term bracket times
heavier_table = refl

-- ---- two ways to a product: 4 is an operand of 5 and of 6, and those are the operands of 7. The one term, of all four choices and with
-- coefficient c, is 7 alone

abbrev pub four : ℤ → Register
four c = known_terms (set_choices (set_base example_register (pos 0)) 4 (1 ∷ 1 ∷ 1 ∷ 1 ∷ replicate (max_choices - 4) 0) (0 ∷ 1 ∷ 2 ∷ 3 ∷ replicate (max_choices - 4) 0)) 1 (15 ∷ replicate 255 0) (c ∷ replicate 255 (pos 0))

abbrev pub two_ways_scheme : Scheme
two_ways_scheme = record {
  products = 4;
  splits = 1;
  lefts = 0 ∷ 2 ∷ 3 ∷ 5 ∷ replicate 28 0;
  rights = 1 ∷ 4 ∷ 4 ∷ 6 ∷ replicate 28 0;
  split_lefts = 7 ∷ replicate 255 0;
  split_rights = 7 ∷ replicate 255 0;
  factor = 1;
}

-- the term counts once for each of the four products
pub two_ways : (c : ℤ) → map (weight (coefficient (four c)) (four c) two_ways_scheme) (4 ∷ 5 ∷ 6 ∷ 7 ∷ []) ≡ abs c ∷ abs c ∷ abs c ∷ abs c ∷ []
unfolding weight usage uses reaches upward up_to sum_below
two_ways c = ap (λ x. x ∷ x ∷ x ∷ x ∷ []) (one_*ℤ _ ∙ +ℤ_idl (abs c))
