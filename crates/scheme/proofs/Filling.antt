-- The filling that a plan induces: each product is that of its operands.
use mathlib.Core.Path.{◌≡◌, sym, ◌∙◌, ap}
use mathlib.Core.Bool.{◌&&◌}
use Prim.Native.Nat.{ℕ, ◌≤◌, ◌<◌}
use lib.Bits.{bit_or}
use lib.IntN.{◌*ℤ◌}
use Rattle.integers.specs.Integer.{bit}
use Rattle.integers.proofs.Lists.{bit_and}
use Rattle.integers.proofs.Ring.{one_*ℤ}
use Rattle.sets.specs.Sets.{is_subset}
use Rattle.sets.proofs.Sets.{subset_or}
use Rattle.forms.specs.Form.{place}
use Rattle.scheme.specs.declared.Scheme.{Scheme}
use Rattle.scheme.specs.Scheme.{left, right, variables}
use Rattle.scheme.specs.Variables.{E}
use Rattle.scheme.specs.Filling.{Filling, factor, induced}
use Rattle.scheme.specs.Valid.{Products}
use Rattle.scheme.proofs.Variables.{E_product}

-- z_k = z_l z_r
abbrev pub Consistent : ℕ → Scheme → Filling → ℕ → Type 0
Consistent n s z k = z k ≡ (z (left n s k) && z (right n s k))

module _ (n : ℕ) (s : Scheme) (plan : ℕ) where
  pub induced_consistent : Products n s → (k : ℕ) → n ≤ k → k < variables n s → Consistent n s (induced n s plan) k
  induced_consistent products k a m = ap (λ e. is_subset e plan) (E_product n s products k a m) ∙ subset_or _ _ plan

  -- products of its factors

  pub one_variable : (i : ℕ) → factor (induced n s plan) 0 *ℤ factor (induced n s plan) (place i) ≡ bit (is_subset (E n s i) plan)
  one_variable i = one_*ℤ (bit (is_subset (E n s i) plan))

  pub two_variables : (i j : ℕ) → factor (induced n s plan) (place i) *ℤ factor (induced n s plan) (place j) ≡ bit (is_subset (bit_or (E n s i) (E n s j)) plan)
  two_variables i j = bit_and (is_subset (E n s i) plan) (is_subset (E n s j) plan) ∙ ap bit (sym (subset_or (E n s i) (E n s j) plan))
