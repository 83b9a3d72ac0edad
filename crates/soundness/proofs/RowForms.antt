-- The form of `3B`, with the laws of row forms; and what rows leave as it is.
use Prim.Native.Nat.{ℕ, ◌<◌}
use native.Mathlib.Omega.{arith}
use mathlib.Core.Path.{◌≡◌, refl, sym, ◌∙◌, ap}
use mathlib.Core.Bool.{true}
use mathlib.Core.List.{List}
use lib.IntN.{ℤ, pos, ◌-ℤ◌, ◌*ℤ◌}
use lib.ListN.{get_or}
use Rattle.integers.specs.Integer.{bit}
use Rattle.integers.proofs.Diff.{diff₁, diffs}
use Rattle.integers.proofs.Lists.{All-map}
use Rattle.forms.specs.Form.{Form, value, times, entry}
use Rattle.forms.specs.Table.{with_table}
use Rattle.forms.proofs.Form.{value-times}
use Rattle.register.specs.declared.Register.{Register}
use Rattle.register.specs.Register.{coefficient, row_total, row_entry}
use Rattle.plan.specs.Plan.{cost}
use Rattle.plan.specs.Fits.{Fits, fed_sum}
use Rattle.plan.proofs.Fits.{fed_sum-set}
use Rattle.scheme.specs.declared.Scheme.{Scheme}
use Rattle.scheme.specs.Filling.{Filling, factor}
use Rattle.scheme.specs.Scheme.{side}
use Rattle.scheme.specs.Function.{g}
use Rattle.penalty.specs.Carried.{carried}
use Rattle.penalty.specs.Weights.{usage, weight}
use Rattle.penalty.specs.Penalty.{h}
use Rattle.plain.specs.Plain.{half_row_sum, linear_left, subtracted_constant, plain}
use Rattle.certificate.specs.Certificate.{Multiplier, Certificate}
use Rattle.certificate.specs.Rules.{by_key, rule_of}
use Rattle.certificate.specs.Within.{Allowed}
use Rattle.certificate.specs.RowForm.{row_form_of}
use Rattle.certificate.proofs.RowForm.{value_row, value_row_at, row_0, row_induced_0, row_constant, row_product, row_square, row_past, row_beside}
use Rattle.soundness.specs.Parts.{Part3}
use Rattle.soundness.specs.Rows.{row_multiplier, NamesRows, RowTable, RowForms, RowsApart}
use Rattle.soundness.specs.Windows.{without_rows}

-- what once it is 0 is 0
once_0 : (y : ℕ → ℤ) (f : Form) → value y (times (pos 1) f) ≡ pos 0 → value y f ≡ pos 0
once_0 y f e = once (value y f) (sym (value-times y (pos 1) f) ∙ e)
  where
    once : (v : ℤ) → pos 1 *ℤ v ≡ pos 0 → v ≡ pos 0
    once = diff₁ _ λ p q. simp diffs (omega arith)

rule_is : (reg : Register) (sch : Scheme) (k i : ℕ) (m : ℤ) → let rule = rule_of reg sch (row_multiplier k i m) in (rule.form ≡ row_form_of reg k i) × (rule.null ≡ true)
unfolding rule_of by_key
rule_is reg sch k i m = (refl, refl)

module _ (reg : Register) (k i : ℕ) where
  at_filling : (z : Filling) → value (factor z) (row_form_of reg k i) ≡ bit (z i) *ℤ (fed_sum reg.choices (row_entry reg k) (carried reg.choices z) -ℤ row_total reg k)
  unfolding carried
  at_filling z = value_row_at reg.choices (row_entry reg k) (row_total reg k) i z ∙ ap (λ s. bit (z i) *ℤ (s -ℤ row_total reg k)) (sym (fed_sum-set reg.choices (row_entry reg k) z))

  vanishes : k < reg.rows → (z : Filling) → Fits reg (carried reg.choices z) → value (factor z) (row_form_of reg k i) ≡ pos 0
  unfolding carried
  vanishes l z f = once_0 (factor z) (row_form_of reg k i) (row_0 reg.choices (row_entry reg k) (row_total reg k) i z (pos 1) (f k l))

  in_table : RowTable reg k i
  in_table =
      let n = reg.choices in
      let a = row_entry reg k in
      let b = row_total reg k in
      record { constant = row_constant n a b i; product = row_product n a b i; square = row_square n a b i; past = row_past n a b i; beside = row_beside n a b i }

pub row_forms : RowForms
row_forms = record {
  form = rule_is;
  at_list = λ reg k i y. value_row reg.choices (row_entry reg k) (row_total reg k) i y;
  at_filling = at_filling;
  vanishes = vanishes;
  vanishes_plan = λ reg sch k i l plan f. once_0 _ _ (row_induced_0 reg.choices (row_entry reg k) (row_total reg k) i sch plan (pos 1) (f k l));
  in_table = in_table;
}

-- ---- the rows that an accepted certificate names

names_row : (reg : Register) (sch : Scheme) (t : Multiplier) → Allowed reg sch t → t.kind ≡ 0x3B → get_or t.names 0 0 < reg.rows
unfolding Allowed by_key
names_row reg sch t a e = let (k, i, names, there, _, _) = rw e at a in rw names there

pub rows_named : (c : ℕ → ℤ) (reg : Register) (sch : Scheme) (certificate : List ℕ) (cert : Certificate) → Part3 c reg sch certificate cert → NamesRows reg cert
rows_named c reg sch certificate cert p = All-map (Allowed reg sch) _ (names_row reg sch) cert.multipliers p.conditions.within.multipliers

-- ---- what rows leave as it is: its definitions look at no row

module _ (c : ℕ → ℤ) (reg : Register) (sch : Scheme) where
  same_function : g c (without_rows reg) sch ≡ g c reg sch
  unfolding g
  same_function = refl

  same_form : h c (without_rows reg) sch ≡ h c reg sch
  unfolding h g weight usage
  same_form = refl

  same_plain : plain c (without_rows reg) sch ≡ plain c reg sch
  unfolding plain subtracted_constant linear_left half_row_sum g
  same_plain = refl

same_cost : (c : ℕ → ℤ) (reg : Register) (plan : ℕ) → cost c (without_rows reg) plan ≡ cost c reg plan
unfolding cost
same_cost c reg plan = refl

pub rows_apart : RowsApart
rows_apart = record {
  costs = same_cost;
  function = same_function;
  penalty_form = λ reg sch lent. ap (λ f. with_table (side reg.choices sch) (entry f) lent) (same_form (coefficient reg) reg sch);
  own_certificate = same_plain;
}
