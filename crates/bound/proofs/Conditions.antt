-- The condition that R carries T is just what the check tests, row by row.
use Prim.Native.Nat.{ℕ}
use mathlib.Core.Path.{◌≡◌}
use mathlib.Core.Logic.{◌↔◌}
use mathlib.Core.Bool.{true}
use lib.IntN.{ℤ}
use lib.Signed.{le_z_yes}
use Rattle.integers.proofs.Lists.{T_true, all_below_at, all_below_by}
use Rattle.register.specs.declared.Register.{Register}
use Rattle.scheme.specs.declared.Scheme.{Scheme}
use Rattle.scheme.specs.Scheme.{side}
use Rattle.certificate.specs.Certificate.{Certificate}
use Rattle.residual.specs.Residual.{R}
use Rattle.bound.specs.Bound.{row_holds, carries}
use Rattle.bound.specs.Valid.{Carries}

pub carries_iff : (c : ℕ → ℤ) (r : Register) (s : Scheme) (k : Certificate) → (carries c r s k ≡ true) ↔ Carries c r s k
unfolding carries row_holds
carries_iff c r s k = (
  (λ e i h. le_z_yes (all_below_at N (row_holds N (R c r s k)) ((T_true _).1 e) i h)),
  (λ d. (T_true _).0 (all_below_by N (row_holds N (R c r s k)) (λ i h. (d i h).le))),
)
  where
    N : ℕ
    N = side r.choices s
