-- Part 3 without a multiplier `3B` is what it was before there were rows.
use Prim.Native.Nat.{ℕ, ◌<◌}
use mathlib.Core.Path.{◌≡◌, refl, sym, ap, ap₂, subst}
use mathlib.Core.Bool.{cond}
use mathlib.Core.List.{List, [], ◌∷◌, ◌++◌, flat_map}
use lib.Dec.{eqb}
use lib.IntN.{ℤ, pos, neg_ℤ, ◌-ℤ◌}
use borrow.Author.Tests.{ne_eqb}
use Rattle.integers.specs.Lists.{All}
use Rattle.integers.specs.Sum.{sum_over}
use Rattle.integers.specs.Quadratic.{DiagonallyDominant}
use Rattle.integers.proofs.Lists.{All-map}
use Rattle.forms.specs.Form.{Form, mono, times, entry}
use Rattle.register.specs.declared.Register.{Register}
use Rattle.scheme.specs.declared.Scheme.{Scheme}
use Rattle.scheme.specs.Scheme.{side}
use Rattle.scheme.specs.Function.{g}
use Rattle.certificate.specs.Certificate.{Multiplier, Certificate}
use Rattle.certificate.specs.Rules.{by_key, minus1, no_rule, rule_of}
use Rattle.certificate.specs.Within.{Variable, RowRange, Allowed}
use Rattle.residual.specs.Residual.{null_part, subtracted_part, null_forms, subtracted_forms, reformulated, shifted, B, R, square_at}
use Rattle.soundness.specs.Parts.{Part3}
use Rattle.soundness.specs.BeforeRowMultipliers.{NoRowMultiplier, conditions_before_rows, AllowedBeforeRows, rule_of_before_rows, null_part_before_rows, subtracted_part_before_rows, shifted_before_rows, B_before_rows, R_before_rows, Part3BeforeRows, AsBeforeRowMultipliers}

-- ---- lists

-- a last row is not found by another key
by_key_last {ℓ} : {A : Type ℓ} (none : A) (k : ℕ) (e : ℕ × A) (es : List (ℕ × A)) → (k ≡ e.0 → ⊥) → by_key none k (es ++ (e ∷ [])) ≡ by_key none k es
unfolding by_key
by_key_last none k e [] d = rw (ne_eqb k e.0 d)
by_key_last none k e (x ∷ es) d = ap (cond (eqb k x.0) x.1) (by_key_last none k e es d)

-- what P and Q give of each element
pub with_each : (P Q S : Multiplier → Type 0) → ((t : Multiplier) → P t → Q t → S t) → (ts : List Multiplier) → All P ts → All Q ts → All S ts
with_each P Q S h [] p q = tt
with_each P Q S h (t ∷ ts) p q = (h t p.0 q.0, with_each P Q S h ts p.1 q.1)

-- ---- a multiplier that is no `3B`: its condition and its rule

abbrev pub NoRow : Multiplier → Type 0
NoRow t = t.kind ≡ 0x3B → ⊥

module _ (reg : Register) (sch : Scheme) where
  -- that of a `3B`
  abbrev row_condition : Multiplier → Type 0
  row_condition t = (k : ℕ) × (i : ℕ) × (t.names ≡ k ∷ i ∷ []) × (k < reg.rows) × Variable reg.choices sch i × RowRange t.m

  pub same_condition : (t : Multiplier) → NoRow t → Allowed reg sch t ≡ AllowedBeforeRows reg sch t
  unfolding Allowed AllowedBeforeRows
  same_condition t d = by_key_last ⊥ t.kind (0x3B, row_condition t) (conditions_before_rows reg sch t.names t.m) d

  none_before : (t : Multiplier) → AllowedBeforeRows reg sch t → NoRow t
  unfolding AllowedBeforeRows by_key
  none_before t a e = rw e at a

  pub same_rule : (t : Multiplier) → NoRow t → rule_of reg sch t ≡ rule_of_before_rows reg sch t
  unfolding rule_of rule_of_before_rows
  same_rule t d = by_key_last no_rule t.kind _ _ d

  same_nulls : (ts : List Multiplier) → All NoRow ts → null_forms reg sch ts ≡ flat_map (null_part_before_rows reg sch) ts
  unfolding null_forms null_part null_part_before_rows flat_map
  same_nulls [] d = refl
  same_nulls (t ∷ ts) d = ap₂ ◌++◌ (rw (same_rule t d.0)) (same_nulls ts d.1)

  same_subtracted : (ts : List Multiplier) → All NoRow ts → subtracted_forms reg sch ts ≡ flat_map (subtracted_part_before_rows reg sch) ts
  unfolding subtracted_forms subtracted_part subtracted_part_before_rows flat_map
  same_subtracted [] d = refl
  same_subtracted (t ∷ ts) d = ap₂ ◌++◌ (rw (same_rule t d.0)) (same_subtracted ts d.1)

same_b : (c : ℕ → ℤ) (reg : Register) (sch : Scheme) (cert : Certificate) → NoRowMultiplier cert → B c reg sch cert ≡ B_before_rows c reg sch cert
unfolding shifted reformulated shifted_before_rows
same_b c reg sch cert d =
    ap₂ (λ (f q : Form). λ i j. entry ((times (pos cert.scale) (g c reg sch) ++ f) ++ (times minus1 q ++ (mono 0 0 (neg_ℤ cert.target) ∷ []))) i j)
    (same_nulls reg sch cert.multipliers d) (same_subtracted reg sch cert.multipliers d)

same_r : (c : ℕ → ℤ) (reg : Register) (sch : Scheme) (cert : Certificate) → NoRowMultiplier cert → R c reg sch cert ≡ R_before_rows c reg sch cert
unfolding R R_before_rows
same_r c reg sch cert d = ap (λ (b : ℕ → ℕ → ℤ). λ i j. b i j -ℤ sum_over cert.squares (λ q. square_at q i j)) (same_b c reg sch cert d)

-- ---- part 3

module _ (c : ℕ → ℤ) (reg : Register) (sch : Scheme) (certificate : List ℕ) (cert : Certificate) where
  pub to_before : (Part3 c reg sch certificate cert × NoRowMultiplier cert) → Part3BeforeRows c reg sch certificate cert
  to_before (p, d) = let w = p.conditions.within in record {
    within = record {
      scale_above = w.scale_above;
      scale_within = w.scale_within;
      target_within = w.target_within;
      multipliers_within = w.multipliers_within;
      multipliers = with_each (Allowed reg sch) NoRow (AllowedBeforeRows reg sch) (λ t a e. subst (λ X. X) (same_condition reg sch t e) a) cert.multipliers w.multipliers d;
      squares_within = w.squares_within;
      squares = w.squares;
    };
    carried = subst (DiagonallyDominant (side reg.choices sch)) (same_r c reg sch cert d) p.conditions.carried;
    bytes = p.bytes;
  }

  none_said : Part3BeforeRows c reg sch certificate cert → NoRowMultiplier cert
  none_said p = All-map (AllowedBeforeRows reg sch) NoRow (none_before reg sch) cert.multipliers p.within.multipliers

  pub from_before : Part3BeforeRows c reg sch certificate cert → Part3 c reg sch certificate cert × NoRowMultiplier cert
  from_before p = let w = p.within in let d = none_said p in (
    record {
      conditions = record {
        within = record {
          scale_above = w.scale_above;
          scale_within = w.scale_within;
          target_within = w.target_within;
          multipliers_within = w.multipliers_within;
          multipliers = with_each (AllowedBeforeRows reg sch) NoRow (Allowed reg sch) (λ t a e. subst (λ X. X) (sym (same_condition reg sch t e)) a) cert.multipliers w.multipliers d;
          squares_within = w.squares_within;
          squares = w.squares;
        };
        carried = subst (DiagonallyDominant (side reg.choices sch)) (sym (same_r c reg sch cert d)) p.carried;
      };
      bytes = p.bytes;
    },
    d,
  )

pub as_before_row_multipliers : AsBeforeRowMultipliers
as_before_row_multipliers = record {
  part_3 = λ c reg sch certificate cert. (to_before c reg sch certificate cert, from_before c reg sch certificate cert);
  table_b = same_b;
  table_r = same_r;
}
