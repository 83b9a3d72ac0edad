-- What a multiplier command adds to the form whose table is B and to the reformulated function, and what it subtracts.
use Prim.Native.Nat.{ℕ}
use native.Mathlib.Omega.{arith}
use mathlib.Core.Path.{◌≡◌, refl, sym, ◌∙◌, ap, ap₂}
use mathlib.Core.Bool.{true, false}
use mathlib.Core.List.{List, [], ◌∷◌, ◌++◌, flat_map}
use lib.IntN.{ℤ, pos, negsuc, neg_ℤ, ◌+ℤ◌, ◌-ℤ◌, ◌*ℤ◌, +ℤ_idr}
use Rattle.integers.specs.Sum.{sum_below, sum_over}
use Rattle.integers.proofs.Diff.{diff₁, diff₂, diffs}
use Rattle.integers.proofs.Solver.{quote, atoms, ring}
use Rattle.forms.specs.Form.{places, value, times, mono}
use Rattle.forms.proofs.Form.{value-[], value-append, value-times, value_flat_map}
use Rattle.register.specs.declared.Register.{Register}
use Rattle.register.specs.Register.{row_total, row_entry}
use Rattle.scheme.specs.declared.Scheme.{Scheme}
use Rattle.scheme.specs.Function.{g}
use Rattle.certificate.specs.Certificate.{Multiplier, Certificate, with_multiplier}
use Rattle.certificate.specs.Rules.{by_key, minus1, rule_of}
use Rattle.certificate.proofs.RowForm.{value_row}
use Rattle.certificate.proofs.Counts.{counts_apart}
use Rattle.certificate.proofs.MultiplierForms.{HasForm, form_31, form_32, form_33, form_34, form_35, form_36, form_37, form_38, form_39}
use Rattle.residual.specs.Residual.{null_part, subtracted_part, null_forms, subtracted_forms, reformulated, shifted}
use Rattle.residual.proofs.ByCommand.{sum_over_more}
use Rattle.soundness.specs.Multipliers.{at, Adds, Subtracts, MultiplierForms, MultiplierLaws}

-- ---- the two forms as sums

module _ (c : ℕ → ℤ) (reg : Register) (sch : Scheme) (y : ℕ → ℤ) where
  module _ (cert : Certificate) where
    abbrev nulls : ℤ
    nulls = value y (null_forms reg sch cert.multipliers)

    abbrev subtracted : ℤ
    subtracted = value y (subtracted_forms reg sch cert.multipliers)

    pub function_is : value y (reformulated c reg sch cert) ≡ pos cert.scale *ℤ value y (g c reg sch) +ℤ nulls
    unfolding reformulated
    function_is = value-append y (times (pos cert.scale) (g c reg sch)) _ ∙ ap (λ x. x +ℤ nulls) (value-times y (pos cert.scale) (g c reg sch))

    b_is : value y (shifted c reg sch cert) ≡ value y (reformulated c reg sch cert) +ℤ (minus1 *ℤ subtracted +ℤ value y (mono 0 0 (neg_ℤ cert.target) ∷ []))
    unfolding shifted
    b_is =
        value-append y (reformulated c reg sch cert) _
        ∙ ap (λ x. value y (reformulated c reg sch cert) +ℤ x)
        (value-append y (times minus1 (subtracted_forms reg sch cert.multipliers)) _
        ∙ ap (λ x. x +ℤ value y (mono 0 0 (neg_ℤ cert.target) ∷ [])) (value-times y minus1 (subtracted_forms reg sch cert.multipliers)))

  -- with a command more

  module _ (cert : Certificate) (t : Multiplier) where
    nulls_more : nulls (with_multiplier cert t) ≡ nulls cert +ℤ value y (null_part reg sch t)
    unfolding null_forms
    nulls_more =
        value_flat_map y (null_part reg sch) (cert.multipliers ++ (t ∷ []))
        ∙ sum_over_more cert.multipliers t (λ t. value y (null_part reg sch t))
        ∙ ap (λ x. x +ℤ value y (null_part reg sch t)) (sym (value_flat_map y (null_part reg sch) cert.multipliers))

    subtracted_more : subtracted (with_multiplier cert t) ≡ subtracted cert +ℤ value y (subtracted_part reg sch t)
    unfolding subtracted_forms
    subtracted_more =
        value_flat_map y (subtracted_part reg sch) (cert.multipliers ++ (t ∷ []))
        ∙ sum_over_more cert.multipliers t (λ t. value y (subtracted_part reg sch t))
        ∙ ap (λ x. x +ℤ value y (subtracted_part reg sch t)) (sym (value_flat_map y (subtracted_part reg sch) cert.multipliers))

    function_more : value y (reformulated c reg sch (with_multiplier cert t)) ≡ value y (reformulated c reg sch cert) +ℤ value y (null_part reg sch t)
    function_more = rw (function_is (with_multiplier cert t), function_is cert, nulls_more) (regroup (pos cert.scale *ℤ value y (g c reg sch)) (nulls cert) (value y (null_part reg sch t)))
      where
        regroup : (a n p : ℤ) → a +ℤ (n +ℤ p) ≡ a +ℤ n +ℤ p
        regroup a n p = atoms (a ∷ n ∷ p ∷ []) λ ρ a n p. simp (a, n, p, quote) (ring _ _ _ tt)

    b_more : value y (shifted c reg sch (with_multiplier cert t))
        ≡ value y (shifted c reg sch cert) +ℤ (value y (null_part reg sch t) +ℤ minus1 *ℤ value y (subtracted_part reg sch t))
    b_more =
        rw (b_is (with_multiplier cert t), b_is cert, function_more, subtracted_more)
        (regroup (value y (reformulated c reg sch cert)) (value y (null_part reg sch t)) (subtracted cert) (value y (subtracted_part reg sch t)) (value y (mono 0 0 (neg_ℤ cert.target) ∷ [])))
      where
        regroup : (f p s q k : ℤ) → f +ℤ p +ℤ (negsuc 0 *ℤ (s +ℤ q) +ℤ k) ≡ f +ℤ (negsuc 0 *ℤ s +ℤ k) +ℤ (p +ℤ negsuc 0 *ℤ q)
        regroup f p s q k = atoms (f ∷ p ∷ s ∷ q ∷ k ∷ []) λ ρ f p s q k. simp (f, p, s, q, k, quote, ρ) (ring _ _ _ tt)

-- ---- a command by its form

module _ (c : ℕ → ℤ) (reg : Register) (sch : Scheme) (cert : Certificate) (m : ℤ) (z : ℕ → ℤ) (kind : ℕ) (names : List ℕ) where
  abbrev t : Multiplier
  t = record { kind = kind; names = names; m = m }

  m_times : (x : ℤ) → value (places (pos 1) z) (rule_of reg sch t).form ≡ x → value (places (pos 1) z) (times m (rule_of reg sch t).form) ≡ m *ℤ x
  m_times x e = value-times (places (pos 1) z) m (rule_of reg sch t).form ∙ ap (λ v. m *ℤ v) e

  adds : (x : ℤ) → HasForm reg sch z m kind names true x → Adds c reg sch cert m z kind names x
  unfolding null_part subtracted_part
  adds x h = (
    b_more c reg sch (places (pos 1) z) cert t ∙ ap₂ (λ p q. at z (shifted c reg sch cert) +ℤ (p +ℤ minus1 *ℤ q)) null subtracted ∙ ap (λ v. at z (shifted c reg sch cert) +ℤ v) (whole (m *ℤ x)),
    function_more c reg sch (places (pos 1) z) cert t ∙ ap (λ p. at z (reformulated c reg sch cert) +ℤ p) null,
  )
    where
      null : at z (null_part reg sch t) ≡ m *ℤ x
      null = rw h.null_is (m_times x h.value_is)

      subtracted : at z (subtracted_part reg sch t) ≡ pos 0
      subtracted = rw h.null_is (value-[] (places (pos 1) z))

      whole : (v : ℤ) → v +ℤ negsuc 0 *ℤ pos 0 ≡ v
      whole v = +ℤ_idr v

  subtracts : (x : ℤ) → HasForm reg sch z m kind names false x → Subtracts c reg sch cert m z kind names x
  unfolding null_part subtracted_part
  subtracts x h = (
    b_more c reg sch (places (pos 1) z) cert t ∙ ap₂ (λ p q. at z (shifted c reg sch cert) +ℤ (p +ℤ minus1 *ℤ q)) null subtracted ∙ less (at z (shifted c reg sch cert)) (m *ℤ x),
    function_more c reg sch (places (pos 1) z) cert t ∙ ap (λ p. at z (reformulated c reg sch cert) +ℤ p) null ∙ +ℤ_idr _,
  )
    where
      null : at z (null_part reg sch t) ≡ pos 0
      null = rw h.null_is (value-[] (places (pos 1) z))

      subtracted : at z (subtracted_part reg sch t) ≡ m *ℤ x
      subtracted = rw h.null_is (m_times x h.value_is)

      less : (b v : ℤ) → b +ℤ (pos 0 +ℤ negsuc 0 *ℤ v) ≡ b -ℤ v
      less = diff₂ _ λ p q r s. simp diffs (omega arith)

-- of a row
row_has : (reg : Register) (sch : Scheme) (z : ℕ → ℤ) (m : ℤ) (k i : ℕ) → HasForm reg sch z m 0x3B (k ∷ i ∷ []) true
    (z i *ℤ (sum_below reg.choices (λ j. row_entry reg k j *ℤ z j) -ℤ row_total reg k))
unfolding rule_of by_key
row_has reg sch z m k i = record {
  null_is = refl;
  value_is = value_row reg.choices (row_entry reg k) (row_total reg k) i (places (pos 1) z) ∙ ap (λ b. z i *ℤ (sum_below reg.choices (λ j. row_entry reg k j *ℤ z j) -ℤ b)) (once (row_total reg k));
}
  where
    once : (b : ℤ) → b *ℤ pos 1 ≡ b
    once = diff₁ _ λ p q. simp diffs (omega arith)

multiplier_forms : (c : ℕ → ℤ) (reg : Register) (sch : Scheme) (cert : Certificate) (m : ℤ) (z : ℕ → ℤ) → MultiplierForms c reg sch cert m z
multiplier_forms c reg sch cert m z = record {
  of_31 = λ i. adds c reg sch cert m z _ _ _ (form_31 reg sch z m i);
  of_32 = λ i j. adds c reg sch cert m z _ _ _ (form_32 reg sch z m i j);
  of_33 = λ i j k. adds c reg sch cert m z _ _ _ (form_33 reg sch z m i j k);
  of_34 = λ i j k l. adds c reg sch cert m z _ _ _ (form_34 reg sch z m i j k l);
  of_35 = λ k. subtracts c reg sch cert m z _ _ _ (form_35 reg sch z m k);
  of_36 = λ k. subtracts c reg sch cert m z _ _ _ (form_36 reg sch z m k);
  of_37 = λ k. subtracts c reg sch cert m z _ _ _ (form_37 reg sch z m k);
  of_38 = λ i. subtracts c reg sch cert m z _ _ _ (form_38 reg sch z m i);
  of_39 = λ i. subtracts c reg sch cert m z _ _ _ (form_39 reg sch z m i);
  of_3_b = λ k i. adds c reg sch cert m z _ _ _ (row_has reg sch z m k i);
}

-- ---- none

module _ (c : ℕ → ℤ) (reg : Register) (sch : Scheme) (cert : Certificate) (z : ℕ → ℤ) (e : cert.multipliers ≡ []) where
  no_nulls : nulls c reg sch (places (pos 1) z) cert ≡ pos 0
  unfolding null_forms flat_map
  no_nulls = rw e (value-[] (places (pos 1) z))

  none_subtracted : subtracted c reg sch (places (pos 1) z) cert ≡ pos 0
  unfolding subtracted_forms flat_map
  none_subtracted = rw e (value-[] (places (pos 1) z))

  function_none : at z (reformulated c reg sch cert) ≡ pos cert.scale *ℤ at z (g c reg sch)
  function_none = function_is c reg sch (places (pos 1) z) cert ∙ ap (λ x. pos cert.scale *ℤ at z (g c reg sch) +ℤ x) no_nulls ∙ +ℤ_idr _

  b_none : at z (shifted c reg sch cert) ≡ pos cert.scale *ℤ at z (g c reg sch) -ℤ cert.target
  unfolding value sum_over
  b_none =
      b_is c reg sch (places (pos 1) z) cert
      ∙ ap₂ (λ f q. f +ℤ (minus1 *ℤ q +ℤ at z (mono 0 0 (neg_ℤ cert.target) ∷ []))) function_none none_subtracted
      ∙ less (pos cert.scale *ℤ at z (g c reg sch)) cert.target
    where
      less : (f t : ℤ) → f +ℤ (pos 0 +ℤ (neg_ℤ t *ℤ pos 1 *ℤ pos 1 +ℤ pos 0)) ≡ f -ℤ t
      less = diff₂ _ λ p q r s. simp diffs (omega arith)

pub multiplier_laws : MultiplierLaws
multiplier_laws = record {
  forms = multiplier_forms;
  none = λ c reg sch cert z e. (b_none c reg sch cert z e, function_none c reg sch cert z e);
  counts = counts_apart;
}
