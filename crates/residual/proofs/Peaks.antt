-- How large the numbers in the table of a multiplier command's form are: of `31` to `39` at most 2, of `3B` at most the highest total of
-- a row; and so m times as large.
use Prim.Native.Nat.{ℕ, zero, suc, ◌*◌, ◌≤◌, ◌<◌}
use mathlib.Core.Path.{◌≡◌, sym, ◌∙◌}
use mathlib.Core.Bool.{Bool, true, false, cond, ◌&&◌}
use mathlib.Core.List.{[], ◌∷◌}
use native.Mathlib.Omega.{arith}
use lib.Dec.{T, eqb, ltb, eqb→eq, ltb→lt}
use lib.IntN.{ℤ, pos, negsuc, neg_ℤ, nat_abs, ◌+ℤ◌, ◌-ℤ◌, ◌*ℤ◌}
use lib.Signed.{◌≤ℤ◌, le_z_yes}
use Rattle.integers.specs.Lists.{All}
use Rattle.integers.proofs.Diff.{diff₁, diff₂, diff₃, diffs}
use Rattle.integers.proofs.Lists.{T_and, ◌▹◌}
use Rattle.forms.specs.Form.{Form, mono, place, entry}
use Rattle.forms.proofs.Form.{unit, entry-[], entry-∷, entry-single, entry_difference, without_i, without_j, without_q, square_same}
use Rattle.register.specs.Limits.{max_row_total}
use Rattle.register.specs.Register.{row_total, row_entry}
use Rattle.register.specs.declared.Register.{Register}
use Rattle.scheme.specs.declared.Scheme.{Scheme}
use Rattle.scheme.specs.Scheme.{left, right, variables}
use Rattle.certificate.specs.Certificate.{Multiplier}
use Rattle.certificate.specs.Limits.{max_multiplier, max_row_multiplier}
use Rattle.certificate.specs.Rules.{Rule, minus1, null_rule, row_rule, subtracted_rule, rules, rule_of}
use Rattle.certificate.proofs.RowForm.{row_low}
use Rattle.residual.specs.Limits.{max_by_command}
use Rattle.residual.proofs.Rules.{rule_all}

-- ---- one product of places

-- 0 to 2
record Range (b u : ℤ) : Type 0 where
  low : pos 0 ≤ℤ u
  high : u ≤ℤ b

bits : (a b : Bool) → Range (pos 2) (cond a (pos 1) (pos 0) +ℤ cond b (pos 1) (pos 0))
bits true true = record { low = le_z_yes tt; high = le_z_yes tt }
bits true false = record { low = le_z_yes tt; high = le_z_yes tt }
bits false true = record { low = le_z_yes tt; high = le_z_yes tt }
bits false false = record { low = le_z_yes tt; high = le_z_yes tt }

unit_range : (p q i j : ℕ) → Range (pos 2) (unit p q i j)
unfolding unit
unit_range p q i j = bits (eqb i p && eqb j q) (eqb i q && eqb j p)

-- 0 or 1 where the places differ
bits_apart : (a b : Bool) → (T a → T b → ⊥) → Range (pos 1) (cond a (pos 1) (pos 0) +ℤ cond b (pos 1) (pos 0))
bits_apart true true n = absurd (n tt tt)
bits_apart true false n = record { low = le_z_yes tt; high = le_z_yes tt }
bits_apart false true n = record { low = le_z_yes tt; high = le_z_yes tt }
bits_apart false false n = record { low = le_z_yes tt; high = le_z_yes tt }

apart_range : (p q i j : ℕ) → (p ≡ q → ⊥) → Range (pos 1) (unit p q i j)
unfolding unit
apart_range p q i j d =
    bits_apart (eqb i p && eqb j q) (eqb i q && eqb j p)
    (λ s t. d (sym (eqb→eq i p ((T_and (eqb i p) (eqb j q)).0 s).0) ∙ eqb→eq i q ((T_and (eqb i q) (eqb j p)).0 t).0))

linear_range : (v i j : ℕ) → Range (pos 1) (unit 0 (place v) i j)
linear_range v i j = apart_range 0 (place v) i j (λ e. omega arith)

pub apart_small : (p q i j : ℕ) → (p ≡ q → ⊥) → nat_abs (unit p q i j) ≤ 1
apart_small p q i j d = let u = apart_range p q i j d in go (unit p q i j) u.low u.high
  where
    go : (u : ℤ) → pos 0 ≤ℤ u → u ≤ℤ pos 1 → nat_abs u ≤ 1
    go = diff₁ _ λ p q. simp diffs (omega arith)

-- ---- the rules' forms

abbrev Flat : Form → Type 0
Flat f = (i j : ℕ) → nat_abs (entry f i j) ≤ 2

flat_single : (p q : ℕ) → Flat (mono p q (pos 1) ∷ [])
flat_single p q i j = let u = unit_range p q i j in rw (entry-single p q (pos 1) i j) (go (unit p q i j) u.low u.high)
  where
    go : (u : ℤ) → pos 0 ≤ℤ u → u ≤ℤ pos 2 → nat_abs (pos 1 *ℤ u) ≤ 2
    go = diff₁ _ λ p q. simp diffs (omega arith)

flat_difference : (p q p' q' : ℕ) → Flat (mono p q (pos 1) ∷ mono p' q' minus1 ∷ [])
flat_difference p q p' q' i j =
    let u = unit_range p q i j in
    let v = unit_range p' q' i j in
    rw (entry_difference p q p' q' i j) (go (unit p q i j) (unit p' q' i j) u.low u.high v.low v.high)
  where
    go : (u v : ℤ) → pos 0 ≤ℤ u → u ≤ℤ pos 2 → pos 0 ≤ℤ v → v ≤ℤ pos 2 → nat_abs (u -ℤ v) ≤ 2
    go = diff₂ _ λ p q r s. simp diffs (omega arith)

-- z_k − z_l − z_r + 1
flat_together : (k l r : ℕ) → Flat (mono 0 (place k) (pos 1) ∷ mono 0 (place l) minus1 ∷ mono 0 (place r) minus1 ∷ mono 0 0 (pos 1) ∷ [])
flat_together k l r i j =
    rw (entry-∷ (mono 0 (place k) (pos 1)) _ i j, entry-∷ (mono 0 (place l) minus1) _ i j, entry-∷ (mono 0 (place r) minus1) _ i j, entry-single 0 0 (pos 1) i j) (go i j)
  where
    sum : ℤ → ℤ → ℤ → ℤ → ℤ
    sum u v w c = pos 1 *ℤ u +ℤ (negsuc 0 *ℤ v +ℤ (negsuc 0 *ℤ w +ℤ pos 1 *ℤ c))

    without : (u v w : ℤ) → pos 0 ≤ℤ u → u ≤ℤ pos 1 → pos 0 ≤ℤ v → v ≤ℤ pos 1 → pos 0 ≤ℤ w → w ≤ℤ pos 1 → nat_abs (pos 1 *ℤ u +ℤ (negsuc 0 *ℤ v +ℤ (negsuc 0 *ℤ w +ℤ pos 1 *ℤ pos 0))) ≤ 2
    without = diff₃ _ λ p q r s t u. simp diffs (omega arith)

    beside : (i j : ℕ) → unit 0 0 i j ≡ pos 0 → nat_abs (sum (unit 0 (place k) i j) (unit 0 (place l) i j) (unit 0 (place r) i j) (unit 0 0 i j)) ≤ 2
    beside i j e =
        let u = linear_range k i j in
        let v = linear_range l i j in
        let w = linear_range r i j in
        rw e (without (unit 0 (place k) i j) (unit 0 (place l) i j) (unit 0 (place r) i j) u.low u.high v.low v.high w.low w.high)

    linear_0 : (v : ℕ) → unit 0 (place v) 0 0 ≡ pos 0
    linear_0 v = without_q 0 (place v) 0 0 (λ e. omega arith) (λ e. omega arith)

    go : (i j : ℕ) → nat_abs (sum (unit 0 (place k) i j) (unit 0 (place l) i j) (unit 0 (place r) i j) (unit 0 0 i j)) ≤ 2
    go zero zero = rw (linear_0 k, linear_0 l, linear_0 r, square_same 0) (omega arith)
    go zero (suc j) = beside 0 (suc j) (without_j 0 0 0 (suc j) (λ e. omega arith) (λ e. omega arith))
    go (suc i) j = beside (suc i) j (without_i 0 0 (suc i) j (λ e. omega arith) (λ e. omega arith))

-- ---- with the range of m

pub record Low (ρ : Rule) : Type 0 where
  -- |m| is at most so much, and each number of the form's table
  pub most : ℕ
  pub peak : ℕ
  pub ranged : (m : ℤ) → ρ.least ≤ℤ m → m ≤ℤ ρ.most → nat_abs m ≤ most
  pub entries : T ρ.there → (i j : ℕ) → nat_abs (entry ρ.form i j) ≤ peak
  pub within : most * peak ≤ max_by_command

-- the entries of a row and its total, so that twice an entry is at most the highest total
pub record RowSmall (r : Register) (k : ℕ) : Type 0 where
  pub entries : (j : ℕ) → j < r.choices → nat_abs (row_entry r k j) * 2 ≤ max_row_total
  pub total : nat_abs (row_total r k) ≤ max_row_total

null_low : {there ordered fits : Bool} {form : Form} → Flat form → Low (null_rule there ordered fits form)
null_low f = record { most = max_multiplier; peak = 2; ranged = go; entries = λ _. f; within = omega arith }
  where
    go : (m : ℤ) → neg_ℤ (pos max_multiplier) ≤ℤ m → m ≤ℤ pos max_multiplier → nat_abs m ≤ max_multiplier
    go = diff₁ _ λ p q. simp diffs (omega arith)

subtracted_low : {there : Bool} {form : Form} → Flat form → Low (subtracted_rule there form)
subtracted_low f = record { most = max_multiplier; peak = 2; ranged = go; entries = λ _. f; within = omega arith }
  where
    go : (m : ℤ) → pos 0 ≤ℤ m → m ≤ℤ pos max_multiplier → nat_abs m ≤ max_multiplier
    go = diff₁ _ λ p q. simp diffs (omega arith)

row_rule_low : {there : Bool} {form : Form} → (T there → (i j : ℕ) → nat_abs (entry form i j) ≤ max_row_total) → Low (row_rule there form)
row_rule_low f = record { most = max_row_multiplier; peak = max_row_total; ranged = go; entries = f; within = omega arith }
  where
    go : (m : ℤ) → neg_ℤ (pos max_row_multiplier) ≤ℤ m → m ≤ℤ pos max_row_multiplier → nat_abs m ≤ max_row_multiplier
    go = diff₁ _ λ p q. simp diffs (omega arith)

module _ (r : Register) (s : Scheme) (rows : (k : ℕ) → k < r.rows → RowSmall r k) where
  rules_low : (i j k l : ℕ) → All (λ e. Low e.1) (rules r s i j k l)
  rules_low i j k l =
      null_low (flat_difference (place i) (place i) 0 (place i))
      ▹ null_low (flat_difference 0 (place i) (place i) (place j))
      ▹ null_low (flat_difference 0 (place i) (place j) (place k))
      ▹ null_low (flat_difference (place i) (place j) (place k) (place l))
      ▹ subtracted_low (flat_difference 0 (place (left r.choices s i)) 0 (place i))
      ▹ subtracted_low (flat_difference 0 (place (right r.choices s i)) 0 (place i))
      ▹ subtracted_low (flat_together i (left r.choices s i) (right r.choices s i))
      ▹ subtracted_low (flat_single 0 (place i))
      ▹ subtracted_low (flat_difference 0 0 0 (place i))
      ▹ row_rule_low (λ h.
      let (p, _) = (T_and (ltb i r.rows) (ltb j (variables r.choices s))).0 h in
      let f = rows i (ltb→lt i r.rows p) in
      row_low r.choices (row_entry r i) (row_total r i) j max_row_total f.entries f.total)
      ▹ tt

  pub rule_low : (t : Multiplier) → Low (rule_of r s t)
  rule_low = rule_all Low r s (null_low (λ i j. rw (entry-[] i j) (omega arith))) rules_low
