-- What a multiplier command adds: places of the table only, and numbers that are small.
use Prim.Native.Nat.{ℕ, ◌≤◌, ◌<◌}
use mathlib.Core.Path.{◌≡◌, refl, sym, ◌∙◌, ap, subst}
use mathlib.Core.Bool.{◌&&◌}
use mathlib.Core.List.{[], ◌∷◌}
use native.Mathlib.Omega.{arith}
use lib.Dec.{T, leb, ltb}
use lib.IntN.{ℤ, pos, neg_ℤ, nat_abs, ◌-ℤ◌, ◌*ℤ◌, +ℤ_idl}
use lib.ListN.{get_or}
use mir.Syntax.{w64}
use mir.Val.{SFits, to_z, of_z}
use Rattle.integers.proofs.Order.{nat_abs_neg, nat_abs-*-≤}
use Rattle.integers.proofs.Machine.{fits_signed, read_signed}
use Rattle.forms.specs.Form.{times}
use Rattle.forms.proofs.Form.{Below}
use Rattle.register.specs.declared.Register.{Register}
use Rattle.scheme.specs.declared.Scheme.{Scheme}
use Rattle.scheme.specs.Scheme.{variables, side}
use Rattle.scheme.specs.Valid.{Products}
use Rattle.certificate.specs.declared.Multiplier.{Multiplier as Named}
use Rattle.certificate.specs.Limits.{max_multiplier, max_row_multiplier}
use Rattle.certificate.specs.RowForm.{row_form_of}
use Rattle.certificate.specs.Certificate.{Multiplier}
use Rattle.certificate.specs.Rules.{Rule, by_key, no_rule, rules, rule_of}
use Rattle.certificate.specs.Within.{conditions, Allowed}
use Rattle.certificate.specs.Answer.{named_of, rule_asked}
use Rattle.residual.specs.Built.{signed_of, Addable, added}
use Rattle.certificate.proofs.Conditions.{tested, m_within}
use Rattle.certificate.proofs.Asks.{tests_product}
use Rattle.residual.proofs.Rules.{IsProduct, is_product, rule_sound}
use Rattle.residual.proofs.Table.{signed, signed_form}

-- a multiplier as the code has it, times a coefficient of a form
pub multiple_read : (k : ℤ) → nat_abs k ≤ max_multiplier → to_z w64 (of_z w64 k) ≡ k
multiple_read k l = read_signed w64 k (omega arith)

pub multiple_small : (k a : ℤ) → nat_abs k ≤ max_multiplier → nat_abs a ≤ 1 → nat_abs (to_z w64 (of_z w64 k) *ℤ a) ≤ max_multiplier
multiple_small k a l o = omega (arith, nat_abs-*-≤ (to_z w64 (of_z w64 k)) a max_multiplier 1 (rw (multiple_read k l) l) o)

-- a multiplier as the code has it, and its negation
pub record Negated (m : ℤ) : Type 0 where
  pub read : to_z w64 (of_z w64 m) ≡ m
  pub less_fits : SFits w64 (pos 0 -ℤ to_z w64 (of_z w64 m))
  pub less_read : to_z w64 (of_z w64 (pos 0 -ℤ to_z w64 (of_z w64 m))) ≡ neg_ℤ m
  pub less_small : nat_abs (neg_ℤ m) ≤ max_multiplier

pub negated : (m : ℤ) → nat_abs m ≤ max_multiplier → Negated m
negated m l =
    let same : pos 0 -ℤ to_z w64 (of_z w64 m) ≡ neg_ℤ m = ap (λ x. pos 0 -ℤ x) (multiple_read m l) ∙ +ℤ_idl (neg_ℤ m) in
    record {
      read = multiple_read m l;
      less_fits = rw same (fits_signed w64 (neg_ℤ m) (omega (arith, nat_abs_neg m)));
      less_read = rw same (read_signed w64 (neg_ℤ m) (omega (arith, nat_abs_neg m)));
      less_small = rw (nat_abs_neg m) l;
    }

module _ (r : Register) (s : Scheme) where
  abbrev n : ℕ
  n = r.choices

  -- the command as the paper has it
  pub added_signed : (u : Multiplier) → added r s (named_of u) ≡ signed_form r s u
  unfolding signed_of signed_form signed rule_asked rule_of
  added_signed u = refl

  pub addable : (u : Multiplier) → Allowed r s u → 0x31 ≤ u.kind → u.kind ≤ 0x39 → Addable n s (named_of u)
  unfolding rule_asked rule_of
  addable u ok above within =
      let h = tested r s u ok in
      record {
        reg = r;
        choices_is = refl;
        kind_above = above;
        kind_within = within;
        m_within = m_within r s u ok;
        there = h.rule.there;
      }

  -- the row and the variable that `3B` names are there, and m is within its limit; what it adds
  pub record RowCommand (u : Multiplier) : Type 0 where
    pub row_there : get_or u.names 0 0 < r.rows
    pub variable_there : get_or u.names 1 0 < variables n s
    pub m_within : nat_abs u.m ≤ max_row_multiplier
    pub adds : signed_form r s u ≡ times u.m (row_form_of r (get_or u.names 0 0) (get_or u.names 1 0))

  pub row_command : (u : Multiplier) → Allowed r s u → u.kind ≡ 0x3B → RowCommand u
  unfolding Allowed by_key signed_form signed rule_of
  row_command u ok e =
      let c = subst (λ k. by_key ⊥ k (conditions r s u.names u.m)) e ok in
      record { row_there = rw c.2 c.3; variable_there = rw c.2 c.4; m_within = c.5; adds = rw e (refl {a = times u.m (row_form_of r (get_or u.names 0 0) (get_or u.names 1 0))}) }

  module _ (t : Named) where
    -- the rule of a kind, with the variables that the command names
    abbrev pub rule_for : ℕ → Rule
    rule_for kind = by_key no_rule kind (rules r s t.i t.j t.k t.l)

    pub added_at : (kind : ℕ) → t.kind ≡ kind → signed_of (rule_for kind) t.m ≡ added r s t
    unfolding rule_asked
    added_at kind e = ap (λ k. signed_of (rule_for k) t.m) (sym e)

-- a command that may be added: its form's places, and its product
module _ {n : ℕ} {s : Scheme} {t : Named} (ok : Addable n s t) (products : Products n s) where
  abbrev r : Register
  r = ok.reg

  own : Products r.choices s
  own = subst (λ k. Products k s) (sym ok.choices_is) products

  pub form_below : (kind : ℕ) → t.kind ≡ kind → Below (side n s) (rule_for r s t kind).form
  unfolding rule_asked rule_of
  form_below kind e =
      subst (λ k. Below (side k s) (rule_for r s t kind).form) ok.choices_is
      (subst (λ k. Below (side r.choices s) (rule_for r s t k).form) e
      ((rule_sound r s own (record { kind = t.kind; names = t.i ∷ t.j ∷ t.k ∷ t.l ∷ []; m = t.m })).below ok.there))

  pub names_product : 0x35 ≤ t.kind → t.kind ≤ 0x37 → IsProduct n s t.i
  unfolding rule_asked
  names_product a b =
      is_product n s products t.i
      (subst (λ k. T (leb k t.i && ltb t.i (variables k s))) ok.choices_is
      (subst T (tests_product r s [] t.i t.j t.k t.l t.kind a b).there_is ok.there))
