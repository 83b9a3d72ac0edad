-- Full plans under a partial plan, by the members of sets: none costs less than the sum.
use mathlib.Core.Path.{◌≡◌, sym, ◌∙◌, subst}
use mathlib.Core.Bool.{false}
use Prim.Native.Nat.{ℕ, zero, suc, ◌+◌, ◌*◌, ◌/◌, ◌%◌, ◌^◌, ◌≤◌, ◌<◌}
use native.Mathlib.Nat.{pow-suc}
use native.Mathlib.Omega.{arith}
use lib.Dec.{T}
use lib.IntN.{ℤ}
use lib.Signed.{◌≤ℤ◌}
use Rattle.sets.specs.Sets.{is_member}
use Rattle.sets.proofs.Sets.{member_zero, member_suc, same_members}
use Rattle.register.specs.declared.Register.{Register}
use Rattle.plan.specs.Plan.{cost}
use Rattle.search.specs.Sum.{sum}
use Rattle.search.proofs.Bound.{sum_bound}

-- the two as numbers: `fed` is a multiple of 2 ^ d, and the plan adds less than 2 ^ d to it
pub record Apart (d fed plan : ℕ) : Type 0 where
  pub block : ℕ
  pub rest : ℕ
  pub small : rest < 2 ^ d
  pub fed_is : fed ≡ block * 2 ^ d
  pub plan_is : plan ≡ block * 2 ^ d + rest

-- no undecided choice is in `fed`, and the decided ones are in both or in neither
pub apart : (d fed plan : ℕ) → ((i : ℕ) → i < d → is_member i fed ≡ false) → ((i : ℕ) → d ≤ i → is_member i plan ≡ is_member i fed) → Apart d fed plan
apart zero fed plan none same =
    let e = same_members plan fed (λ i. same i (omega arith)) in
    record { block = fed; rest = 0; small = omega arith; fed_is = omega arith; plan_is = omega (arith, e) }
apart (suc d) fed plan none same =
    let lower : (i : ℕ) → i < d → is_member i (fed / 2) ≡ false = λ i l. sym (member_suc i fed) ∙ none (suc i) (omega arith) in
    let upper : (i : ℕ) → d ≤ i → is_member i (plan / 2) ≡ is_member i (fed / 2) = λ i l. sym (member_suc i plan) ∙ same (suc i) (omega arith) ∙ member_suc i fed in
    let a = apart d (fed / 2) (plan / 2) lower upper in
    let odd : fed % 2 ≡ 1 → ⊥ = λ o. subst T (none 0 (omega arith)) ((member_zero fed).1 o) in
    let twice : a.block * 2 ^ suc d ≡ 2 * (a.block * 2 ^ d) = rw (pow-suc 2 d) (omega arith) in
    record {
      block = a.block;
      rest = 2 * a.rest + plan % 2;
      small = omega (arith, pow-suc 2 d, a.small);
      fed_is = omega (arith, odd, twice, a.fed_is);
      plan_is = omega (arith, twice, a.plan_is);
    }

pub under_sum : (c : ℕ → ℤ) (r : Register) (d fed plan : ℕ) →
    ((i : ℕ) → i < d → is_member i fed ≡ false) → ((i : ℕ) → d ≤ i → is_member i plan ≡ is_member i fed) → sum c r d fed ≤ℤ cost c r plan
under_sum c r d fed plan none same = by (apart d fed plan none same)
  where
    by : Apart d fed plan → sum c r d fed ≤ℤ cost c r plan
    by a = rw (a.fed_is, a.plan_is) (sum_bound d a.block a.rest a.small c r)
