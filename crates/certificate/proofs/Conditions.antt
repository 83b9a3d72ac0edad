-- The conditions of `specs/Within` are just what the reader tests of a multiplier command by its rule.
use Prim.Native.Nat.{ℕ, zero, suc, ◌≤◌, ◌<◌}
use mathlib.Core.Path.{◌≡◌, refl, sym, subst, ap}
use mathlib.Core.Logic.{◌↔◌, inl, inr}
use mathlib.Core.Bool.{Bool, ◌&&◌}
use mathlib.Core.List.{List, [], ◌∷◌}
use native.Mathlib.Omega.{arith}
use lib.Dec.{T, eqb, ltb, leb, eqb→eq, eqb_refl, ltb→lt, lt→ltb, leb→le, le→leb}
use lib.IntN.{ℤ, pos, neg_ℤ, nat_abs}
use lib.ListN.{length, get_or}
use lib.Signed.{◌≤ℤ◌, le_z_yes}
use Rattle.integers.specs.Lists.{All}
use Rattle.integers.proofs.Lists.{T_and, cond_cases, ◌▹◌}
use Rattle.integers.proofs.Diff.{diff₁, diffs}
use Rattle.integers.proofs.Order.{≤ℤ_trans}
use Rattle.integers.proofs.Parts.{orders, nat_abs_parts}
use Rattle.wire.specs.Rows.{is_among}
use Rattle.forms.specs.Form.{Form}
use Rattle.sets.proofs.Sets.{proper_iff}
use Rattle.register.specs.declared.Register.{Register}
use Rattle.scheme.specs.declared.Scheme.{Scheme}
use Rattle.scheme.specs.Scheme.{variables}
use Rattle.certificate.specs.Limits.{max_multiplier, max_row_multiplier}
use Rattle.certificate.specs.Certificate.{Multiplier}
use Rattle.certificate.specs.Rules.{arity, by_key, null_rule, row_rule, subtracted_rule, rule_of}
use Rattle.certificate.specs.Format.{multiplier_kinds}
use Rattle.certificate.specs.Answer.{IsMultiplier}
use Rattle.certificate.specs.Within.{Variable, Product, NullRange, SubtractedRange, RowRange, conditions, Allowed}
use Rattle.certificate.proofs.Ranges.{among_all, is_multiplier}
use Rattle.certificate.proofs.Passes.{RulePasses}

-- ---- a multiplier command

-- what the reader tests of it: its byte, how many numbers it names, and its rule
pub record Tested (r : Register) (s : Scheme) (t : Multiplier) : Type 0 where
  pub kind : IsMultiplier t.kind
  pub names : length t.names ≡ arity t.kind
  pub rule : RulePasses (rule_of r s t) t.m

-- what stands by a key, where each row gives P of its own key
by_key_lem : (P : ℕ → Type 0) (k : ℕ) (es : List (ℕ × Type 0)) → All (λ e. e.1 → P e.0) es → by_key ⊥ k es → P k
unfolding by_key
by_key_lem P k [] h x = absurd x
by_key_lem P k (e ∷ es) h x =
    cond_cases (λ A. A → P k) (eqb k e.0) e.1 (by_key ⊥ k es)
    (λ t y. subst P (sym (eqb→eq k e.0 t)) (h.0 y))
    (λ _ y. by_key_lem P k es h.1 y) x

-- a list of k numbers, number by number
firsts : ℕ → (ℕ → ℕ) → List ℕ
firsts zero f = []
firsts (suc k) f = f 0 ∷ firsts k (λ i. f (suc i))

listed : (k : ℕ) (xs : List ℕ) → length xs ≡ k → xs ≡ firsts k (λ i. get_or xs i 0)
unfolding firsts
listed zero [] e = refl
listed zero (x ∷ xs) e = absurd (omega arith)
listed (suc k) [] e = absurd (omega arith)
listed (suc k) (x ∷ xs) e = ap (λ l. x ∷ l) (listed k xs (omega arith))

below_iff : (a b : ℕ) → T (ltb a b) ↔ (a < b)
below_iff a b = (ltb→lt a b, lt→ltb a b)

equal_iff : (a b : ℕ) → T (eqb a b) ↔ (a ≡ b)
equal_iff a b = (eqb→eq a b, λ e. rw e (eqb_refl b))

abs_within : (m : ℤ) → neg_ℤ (pos max_multiplier) ≤ℤ m → m ≤ℤ pos max_multiplier → nat_abs m ≤ max_multiplier
abs_within = diff₁ _ λ p q. simp diffs (omega arith)

row_within : (m : ℤ) → neg_ℤ (pos max_row_multiplier) ≤ℤ m → m ≤ℤ pos max_row_multiplier → nat_abs m ≤ max_row_multiplier
row_within = diff₁ _ λ p q. simp diffs (omega arith)

-- ---- the conditions, row by row

module _ (r : Register) (s : Scheme) (m : ℤ) where
  abbrev n : ℕ
  n = r.choices

  abbrev command : ℕ → List ℕ → Multiplier
  command kind names = record { kind = kind; names = names; m = m }

  -- a null form's tests, and those of a form that is subtracted

  null_range : NullRange m ↔ ((neg_ℤ (pos max_multiplier) ≤ℤ m) × (m ≤ℤ pos max_multiplier))
  null_range = ((λ l. (omega (arith, orders, nat_abs_parts m), omega (arith, orders, nat_abs_parts m))), (λ h. abs_within m h.0 h.1))

  null_passes : {there ordered fits : Bool} {form : Form} → T there → T ordered → T fits → NullRange m → RulePasses (null_rule there ordered fits form) m
  null_passes t o f l = record { m_above = (null_range.0 l).0; m_below = (null_range.0 l).1; there = t; ordered = o; fits = f }

  null_within : {there ordered fits : Bool} {form : Form} → RulePasses (null_rule there ordered fits form) m → NullRange m
  null_within p = null_range.1 (p.m_above, p.m_below)

  -- a row form's

  row_passes : {there : Bool} {form : Form} → T there → RowRange m → RulePasses (row_rule there form) m
  row_passes t l = record { m_above = omega (arith, orders, nat_abs_parts m); m_below = omega (arith, orders, nat_abs_parts m); there = t; ordered = tt; fits = tt }

  row_inside : {there : Bool} {form : Form} → RulePasses (row_rule there form) m → RowRange m
  row_inside p = row_within m p.m_above p.m_below

  subtracted_passes : {there : Bool} {form : Form} {P : Type 0} → T there ↔ P → (P × SubtractedRange m) ↔ RulePasses (subtracted_rule there form) m
  subtracted_passes e = (
    (λ h. record { m_above = h.1.0; m_below = h.1.1; there = e.1 h.0; ordered = tt; fits = tt }),
    (λ p. (e.0 p.there, (p.m_above, p.m_below))),
  )

  variable_iff : (i : ℕ) → T (ltb i (variables n s)) ↔ Variable n s i
  variable_iff i = below_iff i (variables n s)

  product_iff : (k : ℕ) → T (leb n k && ltb k (variables n s)) ↔ Product n s k
  product_iff k = simp T_and ((λ h. (leb→le n k h.0, ltb→lt k (variables n s) h.1)), (λ h. (le→leb n k h.0, lt→ltb k (variables n s) h.1)))

  -- a command that names one variable
  one_name : (kind : ℕ) (P : ℕ → Type 0) (Q : Type 0) → IsMultiplier kind → 1 ≡ arity kind →
      ((i : ℕ) → (P i × Q) ↔ RulePasses (rule_of r s (command kind (i ∷ []))) m) →
      (names : List ℕ) → ((i : ℕ) × (names ≡ i ∷ []) × P i × Q) ↔ Tested r s (command kind names)
  unfolding firsts
  one_name kind P Q k one h names = (
    (λ c. subst (λ l. Tested r s (command kind l)) (sym c.1) (record { kind = k; names = one; rule = (h c.0).0 (c.2, c.3) })),
    (λ t.
        let e = listed 1 names (omega (arith, t.names)) in
        let p = (h (get_or names 0 0)).1 (subst (λ l. RulePasses (rule_of r s (command kind l)) m) e t.rule) in
        (get_or names 0 0, e, p.0, p.1)),
  )

  -- the condition by a command byte is what the reader tests
  abbrev RowIff : ℕ → Type 0
  RowIff kind = (names : List ℕ) → by_key ⊥ kind (conditions r s names m) ↔ Tested r s (command kind names)

  row_32 : RowIff 0x32
  unfolding rule_of by_key arity firsts
  row_32 names = (
    (λ c. subst (λ l. Tested r s (command 0x32 l)) (sym c.2) (record {
      kind = inl (omega arith, omega arith);
      names = refl;
      rule = null_passes (simp T_and ((variable_iff _).1 c.3, (variable_iff _).1 c.4)) tt ((proper_iff _ _).1 c.5) c.6;
    })),
    (λ t.
        let h = simp T_and at t.rule.there in
        (get_or names 0 0, get_or names 1 0, listed 2 names t.names, (variable_iff _).0 h.0, (variable_iff _).0 h.1, (proper_iff _ _).0 t.rule.fits, null_within t.rule)),
  )

  row_33 : RowIff 0x33
  unfolding rule_of by_key arity firsts
  row_33 names = (
    (λ c. subst (λ l. Tested r s (command 0x33 l)) (sym c.3) (record {
      kind = inl (omega arith, omega arith);
      names = refl;
      rule = null_passes (simp T_and (((variable_iff _).1 c.4, (variable_iff _).1 c.5), (variable_iff _).1 c.6)) ((below_iff _ _).1 c.7) ((equal_iff _ _).1 c.8) c.9;
    })),
    (λ t.
        let h = simp T_and at t.rule.there in
        (get_or names 0 0, get_or names 1 0, get_or names 2 0, listed 3 names t.names, (variable_iff _).0 h.0.0, (variable_iff _).0 h.0.1, (variable_iff _).0 h.1, (below_iff _ _).0 t.rule.ordered, (equal_iff _ _).0 t.rule.fits, null_within t.rule)),
  )

  row_34 : RowIff 0x34
  unfolding rule_of by_key arity firsts
  row_34 names = (
    (λ c. subst (λ l. Tested r s (command 0x34 l)) (sym c.4) (record {
      kind = inl (omega arith, omega arith);
      names = refl;
      rule = null_passes (simp T_and ((((variable_iff _).1 c.5, (variable_iff _).1 c.6), (variable_iff _).1 c.7), (variable_iff _).1 c.8))
          (simp T_and ((below_iff _ _).1 c.9, (below_iff _ _).1 c.10)) ((equal_iff _ _).1 c.11) c.12;
    })),
    (λ t.
        let h = simp T_and at t.rule.there in
        let o = simp T_and at t.rule.ordered in
        (get_or names 0 0, get_or names 1 0, get_or names 2 0, get_or names 3 0, listed 4 names t.names, (variable_iff _).0 h.0.0.0, (variable_iff _).0 h.0.0.1, (variable_iff _).0 h.0.1, (variable_iff _).0 h.1, (below_iff _ _).0 o.0, (below_iff _ _).0 o.1, (equal_iff _ _).0 t.rule.fits, null_within t.rule)),
  )

  row_3_b : RowIff 0x3B
  unfolding rule_of by_key arity firsts
  row_3_b names = (
    (λ c. subst (λ l. Tested r s (command 0x3B l)) (sym c.2) (record {
      kind = inr refl;
      names = refl;
      rule = row_passes (simp T_and ((below_iff _ _).1 c.3, (variable_iff _).1 c.4)) c.5;
    })),
    (λ t.
        let h = simp T_and at t.rule.there in
        (get_or names 0 0, get_or names 1 0, listed 2 names t.names, (below_iff _ _).0 h.0, (variable_iff _).0 h.1, row_inside t.rule)),
  )

  every_row : All RowIff multiplier_kinds
  unfolding rule_of by_key arity
  every_row =
      one_name 0x31 (Variable n s) (NullRange m) (inl (omega arith, omega arith)) refl
      (λ i. ((λ h. null_passes ((variable_iff i).1 h.0) tt tt h.1), (λ p. ((variable_iff i).0 p.there, null_within p))))
      ▹ row_32
      ▹ row_33
      ▹ row_34
      ▹ one_name 0x35 (Product n s) (SubtractedRange m) (inl (omega arith, omega arith)) refl (λ k. subtracted_passes (product_iff k))
      ▹ one_name 0x36 (Product n s) (SubtractedRange m) (inl (omega arith, omega arith)) refl (λ k. subtracted_passes (product_iff k))
      ▹ one_name 0x37 (Product n s) (SubtractedRange m) (inl (omega arith, omega arith)) refl (λ k. subtracted_passes (product_iff k))
      ▹ one_name 0x38 (Variable n s) (SubtractedRange m) (inl (omega arith, omega arith)) refl (λ i. subtracted_passes (variable_iff i))
      ▹ one_name 0x39 (Variable n s) (SubtractedRange m) (inl (omega arith, omega arith)) refl (λ i. subtracted_passes (variable_iff i))
      ▹ row_3_b
      ▹ tt

  condition_iff : (kind : ℕ) → RowIff kind
  condition_iff kind names = (
    (λ c. (row (by_key_lem (λ kind. T (is_among kind multiplier_kinds)) kind (conditions r s names m) ((λ _. tt) ▹ (λ _. tt) ▹ (λ _. tt) ▹ (λ _. tt) ▹ (λ _. tt) ▹ (λ _. tt) ▹ (λ _. tt) ▹ (λ _. tt) ▹ (λ _. tt) ▹ (λ _. tt) ▹ tt) c)).0 c),
    (λ t. (row (is_multiplier kind t.kind)).1 t),
  )
    where
      row : T (is_among kind multiplier_kinds) → by_key ⊥ kind (conditions r s names m) ↔ Tested r s (command kind names)
      row among = among_all RowIff multiplier_kinds every_row kind among names

-- a multiplier command is allowed just where the reader's tests pass
pub allowed_iff : (r : Register) (s : Scheme) (t : Multiplier) → Allowed r s t ↔ Tested r s t
unfolding Allowed
allowed_iff r s t = condition_iff r s t.m t.kind t.names

pub tested : (r : Register) (s : Scheme) (t : Multiplier) → Allowed r s t → Tested r s t
tested r s t = (allowed_iff r s t).0

-- every range of m is within ±10¹²
pub m_within : (r : Register) (s : Scheme) (t : Multiplier) → Allowed r s t → nat_abs t.m ≤ max_multiplier
unfolding Allowed
m_within r s t =
    by_key_lem (λ kind. nat_abs t.m ≤ max_multiplier) t.kind (conditions r s t.names t.m)
    ((λ c. c.3) ▹ (λ c. c.6) ▹ (λ c. c.9) ▹ (λ c. c.12) ▹ (λ c. small c.3) ▹ (λ c. small c.3) ▹ (λ c. small c.3) ▹ (λ c. small c.3) ▹ (λ c. small c.3) ▹ (λ c. omega (arith, c.5)) ▹ tt)
  where
    small : SubtractedRange t.m → nat_abs t.m ≤ max_multiplier
    small h = abs_within t.m (≤ℤ_trans _ _ _ (le_z_yes tt) h.0) h.1
