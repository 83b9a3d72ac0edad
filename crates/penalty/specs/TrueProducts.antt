-- Fillings whose products are true to their operands. c t is the coefficient of term t.
use Rattle.std.specs.Prelude.{◌≡◌, ℕ, ◌≤◌, ◌<◌, ◌&&◌, ℤ, pos, ◌<ℤ◌}
use Rattle.register.specs.declared.Register.{Register}
use Rattle.scheme.specs.declared.Scheme.{Scheme}
use Rattle.scheme.specs.Scheme.{left, right, variables}
use Rattle.scheme.specs.Filling.{Filling}
use Rattle.penalty.specs.Weights.{weight}

-- z_k = z_l z_r, where l and r are the operands of product k
abbrev pub IsTrue : ℕ → Scheme → Filling → ℕ → Type 0
IsTrue n s z k = z k ≡ (z (left n s k) && z (right n s k))

-- each product of weight above 0 is the product of its operands
abbrev pub TrueProducts : (ℕ → ℤ) → Register → Scheme → Filling → Type 0
TrueProducts c r s z = (k : ℕ) → r.choices ≤ k → k < variables r.choices s → pos 0 <ℤ weight c r s k → IsTrue r.choices s z k
