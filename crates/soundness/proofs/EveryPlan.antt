-- The bound of a certificate without a multiplier `3B`, of our calls. Its conditions look at no row, so it meets them also with the
-- register without its rows, and there every plan fits.
use Prim.Native.Nat.{ℕ, suc, ◌≤◌, ◌<◌}
use native.Mathlib.Omega.{arith}
use mathlib.Core.Path.{◌≡◌, refl, ap, subst}
use mathlib.Core.List.{List, []}
use lib.Dec.{eqb}
use lib.IntN.{ℤ, pos, negsuc}
use lib.ListN.{length}
use lib.Signed.{◌≤ℤ◌}
use Rattle.integers.specs.Lists.{All, join_below}
use Rattle.integers.proofs.Lists.{cond_cases, All-append, All-join}
use Rattle.forms.specs.Table.{table_numbers}
use Rattle.register.specs.declared.Register.{Register}
use Rattle.scheme.specs.declared.Scheme.{Scheme}
use Rattle.scheme.specs.Scheme.{variables}
use Rattle.scheme.specs.Function.{g}
use Rattle.scheme.specs.Valid as S
use Rattle.certificate.specs.Certificate.{Certificate}
use Rattle.bound.specs.Bound.{bound}
use Rattle.bound.proofs.Bound.{every_plan_bound}
use Rattle.plain.specs.Plain.{half_row_sum, linear_left, unless_zero, cancelling, plain}
use Rattle.plan.specs.Plan.{cost}
use Rattle.plan.specs.Chosen.{chosen}
use Rattle.job.specs.Tally.{suppliers}
use Rattle.job.specs.Outcome.{coefficients}
use Rattle.soundness.specs.Calls.{check_call, plain_call, job_call}
use Rattle.soundness.specs.Parts.{Part3}
use Rattle.soundness.specs.Windows.{without_rows}
use Rattle.soundness.specs.BeforeRowMultipliers.{NoRowMultiplier, AllowedBeforeRows, rule_of_before_rows, null_part_before_rows, subtracted_part_before_rows, shifted_before_rows, R_before_rows, Part3BeforeRows, BoundsEveryPlan}
use Rattle.bound.proofs.Opening.{scheme_for}
use Rattle.soundness.proofs.RowForms.{rows_apart}
use Rattle.soundness.proofs.BeforeRowMultipliers.{NoRow, to_before, from_before}
use Rattle.soundness.proofs.Acceptance.{acceptance}
use Rattle.soundness.proofs.Writers.{writers}

-- ---- the same certificate with the register without its rows

module _ (c : ℕ → ℤ) (reg : Register) (sch : Scheme) where
  scheme_without : S.Valid reg sch → S.Valid (without_rows reg) sch
  scheme_without = scheme_for reg (without_rows reg) sch refl refl refl

  -- what part 3 was looks at no row
  before_without : (certificate : List ℕ) (cert : Certificate) → Part3BeforeRows c reg sch certificate cert → Part3BeforeRows c (without_rows reg) sch certificate cert
  unfolding AllowedBeforeRows R_before_rows shifted_before_rows null_part_before_rows subtracted_part_before_rows rule_of_before_rows g
  before_without certificate cert p = let w = p.within in record {
    within = record {
      scale_above = w.scale_above;
      scale_within = w.scale_within;
      target_within = w.target_within;
      multipliers_within = w.multipliers_within;
      multipliers = w.multipliers;
      squares_within = w.squares_within;
      squares = w.squares;
    };
    carried = p.carried;
    bytes = p.bytes;
  }

  -- so every plan costs at least the bound
  every_plan : (certificate : List ℕ) (cert : Certificate) → S.Valid reg sch → Part3 c reg sch certificate cert → NoRowMultiplier cert → (plan : ℕ) → bound cert ≤ℤ cost c reg plan
  every_plan certificate cert v p d plan =
      let q = from_before c (without_rows reg) sch certificate cert (before_without certificate cert (to_before c reg sch certificate cert (p, d))) in
      subst (λ z. bound cert ≤ℤ z) (rows_apart.costs c reg plan)
      (every_plan_bound c (without_rows reg) sch cert (scheme_without v) q.0.conditions refl plan)

-- ---- our own certificate

own_unless_zero : (kind i m : ℕ) → (kind ≡ 0x3B → ⊥) → All NoRow (unless_zero kind i m)
unfolding unless_zero
own_unless_zero kind i m d = cond_cases (All NoRow) (eqb m 0) [] _ (λ _. tt) (λ _. (d, tt))

own_cancelling : (i : ℕ) (x : ℤ) → All NoRow (cancelling i x)
unfolding cancelling
own_cancelling i (pos m) = own_unless_zero 0x38 i m (λ e. absurd (omega arith))
own_cancelling i (negsuc m) = own_unless_zero 0x39 i (suc m) (λ e. absurd (omega arith))

own : (c : ℕ → ℤ) (reg : Register) (sch : Scheme) → NoRowMultiplier (plain c reg sch)
unfolding plain
own c reg sch =
    let N = variables reg.choices sch in
    All-append NoRow (join_below N (λ i. unless_zero 0x31 i (half_row_sum c reg sch i))) (join_below N (λ i. cancelling i (linear_left c reg sch i)))
    (All-join NoRow N _ (λ i l. own_unless_zero 0x31 i (half_row_sum c reg sch i) (λ e. absurd (omega arith))))
    (All-join NoRow N _ (λ i l. own_cancelling i (linear_left c reg sch i)))

-- ---- the calls

not_below : (a b : ℕ) → (a < b → ⊥) → b ≤ a
not_below a b d = omega arith

below : (a b : ℕ) → (b ≤ a → ⊥) → a < b
below a b d = omega arith

pub bounds_every_plan : BoundsEveryPlan check_call plain_call job_call
bounds_every_plan = record {
  of_check = λ register scheme certificate plan table reg sch fed cert p q k r d z other.
      let a = acceptance.of_check in
      let long = not_below (length table) table_numbers (λ l. a.short register scheme certificate plan table l z) in
      let e = a.all register scheme certificate plan table (bound cert) long (record { reg = reg; sch = sch; fed = fed; cert = cert; part_1 = p; part_2 = q; choosing = k; part_3 = r; bound_is = refl }) in
      rw e (every_plan (chosen reg fed) reg sch certificate cert q.conditions r d other.fed);
  of_job = λ job table supplier tally parts v k d z plan.
      let a = acceptance.of_job in
      let reg = parts.register in
      let long = not_below (length table) table_numbers (λ l. a.short job table supplier tally l z) in
      let there = below supplier suppliers (λ l. a.unknown_supplier job table supplier tally l z) in
      let e = a.all job table supplier tally (bound parts.certificate) (cost (coefficients parts) reg parts.plan) there long (record { parts = parts; conditions = v; bytes = k; bound_is = refl; cost_is = refl }) in
      rw e (every_plan (coefficients parts) reg parts.scheme k.third parts.certificate v.scheme (record { conditions = v.certificate; bytes = k.certificate }) d plan.fed);
  own = λ reg sch fed. own (chosen reg fed) reg sch;
  of_own = λ register scheme plan lent table k z l other.
      let o = writers.of_plain in
      let c = chosen k.reg k.fed in
      let r = o.reads_back register scheme plan k lent z in
      let e = ap (λ w. w.0.bound) (o.checks register scheme plan k lent z table l) in
      rw e (every_plan c k.reg k.sch _ (plain c k.reg k.sch) k.part_2.conditions r (own c k.reg k.sch) other.fed);
}
