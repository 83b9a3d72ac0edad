-- How large the numbers of g and of B become.
use Prim.Native.Nat.{ℕ, zero, suc, ◌*◌, ◌≤◌, ◌<◌}
use mathlib.Core.Path.{◌≡◌}
use mathlib.Core.Bool.{Bool, true, false, cond}
use mathlib.Core.List.{[], ◌∷◌}
use native.Mathlib.Omega.{arith}
use lib.Dec.{T_not, ltb, eqb, eqb_refl}
use lib.IntN.{ℤ, pos, neg_ℤ, nat_abs, ◌+ℤ◌, ◌*ℤ◌, *ℤ-zero, +ℤ_idl}
use lib.Signed.{◌≤ℤ◌}
use borrow.Author.Tests.{ltb-true, ltb-false}
use Rattle.integers.specs.Sum.{sum_over}
use Rattle.integers.proofs.Order.{nat_abs-+, nat_abs_neg, nat_abs-*-≤}
use Rattle.integers.proofs.Diff.{diff₁, diffs}
use Rattle.integers.proofs.Lists.{All-map, cond_cases, flag}
use Rattle.forms.specs.Form.{mono, place, entry}
use Rattle.forms.proofs.Form.{unit, entry-single, without_i, without_j}
use Rattle.forms.proofs.Store.{norm1, norm1-[], norm1_∷, entry_small}
use Rattle.integers.proofs.Sum.{nat_abs-sum, nat_abs-sum_over}
use Rattle.register.specs.declared.Register.{Register}
use Rattle.register.specs.Limits.{max_base, max_terms, max_coefficient, row_entries, max_row_total, lowest_entry, highest_entry}
use Rattle.register.specs.Register.{coefficient, row_entry}
use Rattle.register.specs.Valid as Reg
use Rattle.register.proofs.Entries.{entry_past}
use Rattle.scheme.specs.declared.Scheme.{Scheme}
use Rattle.scheme.specs.Scheme.{split_left, split_right}
use Rattle.scheme.specs.Function.{term, term_of, g, max_g}
use Rattle.scheme.proofs.Table.{norm1_g, entry-g, g_constant}
use Rattle.certificate.specs.Limits.{max_scale}
use Rattle.residual.specs.Limits.{max_by_command, max_g_entry, max_b}
use Rattle.certificate.specs.Certificate.{Multiplier, Certificate}
use Rattle.certificate.specs.Rules.{rule_of}
use Rattle.residual.specs.Residual.{shifted}
use Rattle.certificate.specs.Within.{Allowed, Within}
use Rattle.certificate.proofs.Conditions.{tested}
use Rattle.residual.proofs.Peaks.{apart_small, RowSmall, rule_low}
use Rattle.residual.proofs.Table.{signed, signed_form, entry_signed_form, entry-B}

-- ---- g

-- what the bounds ask of the coefficients c and of the register
pub record Small (c : ℕ → ℤ) (r : Register) : Type 0 where
  pub base : nat_abs r.base ≤ max_base
  pub terms : r.terms ≤ max_terms
  pub coefficients : (t : ℕ) → t < r.terms → nat_abs (c t) ≤ max_coefficient
  pub rows : (k : ℕ) → k < r.rows → RowSmall r k

pub small : (r : Register) → Reg.Within r → Small (coefficient r) r
small r valid = record {
  base = valid.base;
  terms = valid.terms.few;
  coefficients = λ t l. (valid.terms.each t l).coefficient_within;
  rows = λ k l.
      let f = valid.rows.each k l in
      record { entries = λ j m. by_entry (row_entry r k j) j (λ l. twice _ (f.entry_above j l) (f.entry_below j l)) (entry_past r.row_entries k j); total = f.total_within };
}
  where
    twice : (x : ℤ) → lowest_entry ≤ℤ x → x ≤ℤ highest_entry → nat_abs x * 2 ≤ max_row_total
    twice = diff₁ _ λ p q. simp diffs (omega arith)

    -- by whether the choice has an entry
    by_entry : (x : ℤ) (j : ℕ) → (j < row_entries → nat_abs x * 2 ≤ max_row_total) → (row_entries ≤ j → x ≡ pos 0) → nat_abs x * 2 ≤ max_row_total
    by_entry x j there past = flag (ltb j row_entries) (λ t. there (ltb-true j row_entries t)) (λ t. rw (past (ltb-false j row_entries t)) (omega arith))

-- the sum of twice the absolute values of g's coefficients
pub norm1_g_within : (c : ℕ → ℤ) (r : Register) (s : Scheme) → Small c r → norm1 (g c r s) ≤ max_g
norm1_g_within c r s low = omega (arith, norm1_g c r s max_coefficient low.coefficients)

-- a number of a term's table is at most its |coefficient|, since the two places differ
term_small : (l r : ℕ) (c : ℤ) (i j : ℕ) → nat_abs (entry (term l r c) i j) ≤ nat_abs c
unfolding term
term_small l r c i j =
    cond_cases (λ f. nat_abs (entry f i j) ≤ nat_abs c) (eqb l r) (mono 0 (place l) c ∷ []) (mono (place l) (place r) c ∷ [])
    (λ _. product 0 (place l) (λ e. omega arith))
    (λ d. product (place l) (place r) (λ e. T_not (eqb l r) d (let same : l ≡ r = omega arith in rw same (eqb_refl r))))
  where
    product : (p q : ℕ) → (p ≡ q → ⊥) → nat_abs (entry (mono p q c ∷ []) i j) ≤ nat_abs c
    product p q d = rw (entry-single p q c i j) (omega (arith, nat_abs-*-≤ c (unit p q i j) (nat_abs c) 1 (omega arith) (apart_small p q i j d)))

-- a number of the table of g
module _ (c : ℕ → ℤ) (r : Register) (s : Scheme) (low : Small c r) where
  beside : (i j : ℕ) → unit 0 0 i j ≡ pos 0 → nat_abs (entry (g c r s) i j) ≤ max_g_entry
  beside i j e =
      rw (entry-g c r s i j, e, *ℤ-zero r.base, +ℤ_idl)
      (omega (
        arith,
        nat_abs-sum r.terms max_coefficient (λ t. entry (term_of c s t) i j) (λ t h. omega (arith, term_small (split_left s t) (split_right s t) (c t) i j, low.coefficients t h)),
        low.terms,
      ))

  pub entry-g_small : (i j : ℕ) → nat_abs (entry (g c r s) i j) ≤ max_g_entry
  entry-g_small zero zero = rw (g_constant c r s) (omega (arith, nat_abs-*-≤ r.base (pos 2) max_base 2 low.base (omega arith)))
  entry-g_small zero (suc j) = beside 0 (suc j) (without_j 0 0 0 (suc j) (λ e. omega arith) (λ e. omega arith))
  entry-g_small (suc i) j = beside (suc i) j (without_i 0 0 (suc i) j (λ e. omega arith) (λ e. omega arith))

-- ---- B

module _ (r : Register) (s : Scheme) (rows : (k : ℕ) → k < r.rows → RowSmall r k) where
  -- m, or −m where the form is subtracted
  signed_small : (t : Multiplier) → Allowed r s t → nat_abs (signed r s t) ≤ (rule_low r s rows t).most
  unfolding signed
  signed_small t ok = go (rule_of r s t).null
    where
      range : nat_abs t.m ≤ (rule_low r s rows t).most
      range = let p = (tested r s t ok).rule in (rule_low r s rows t).ranged t.m p.m_above p.m_below

      go : (b : Bool) → nat_abs (cond b t.m (neg_ℤ t.m)) ≤ (rule_low r s rows t).most
      go true = range
      go false = rw nat_abs_neg range

  pub entry_signed_form_small : (t : Multiplier) → Allowed r s t → (i j : ℕ) → nat_abs (entry (signed_form r s t) i j) ≤ max_by_command
  entry_signed_form_small t ok i j =
      let low = rule_low r s rows t in
      rw (entry_signed_form r s t i j)
      (omega (
        arith,
        low.within,
        nat_abs-*-≤ (signed r s t) (entry (rule_of r s t).form i j) low.most low.peak (signed_small t ok) (low.entries (tested r s t ok).rule.there i j),
      ))

module _ (c : ℕ → ℤ) (r : Register) (s : Scheme) (k : Certificate) (low : Small c r) (within : Within r s k) where
  pub B_small : (i j : ℕ) → nat_abs (entry (shifted c r s k) i j) ≤ max_b
  B_small i j =
      let scaled = pos k.scale *ℤ entry (g c r s) i j in
      let forms = sum_over k.multipliers (λ t. entry (signed_form r s t) i j) in
      let target = mono 0 0 (neg_ℤ k.target) in
      rw (entry-B c r s k i j)
      (omega (
        arith,
        nat_abs-+ (scaled +ℤ forms) (entry (target ∷ []) i j),
        nat_abs-+ scaled forms,
        nat_abs-*-≤ (pos k.scale) (entry (g c r s) i j) max_scale max_g_entry within.scale_within (entry-g_small c r s low i j),
        nat_abs-sum_over max_by_command k.multipliers (λ t. entry (signed_form r s t) i j)
            (All-map (Allowed r s) _ (λ t ok. entry_signed_form_small r s low.rows t ok i j) k.multipliers within.multipliers),
        entry_small (target ∷ []) i j,
        norm1_∷ target [],
        norm1-[],
        nat_abs_neg k.target,
      ))
