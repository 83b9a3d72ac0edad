-- The entries of B: those of s times g, of each multiplier command's form, m or −m times, and of −T; and that B is R and the squares.
use Prim.Native.Nat.{ℕ}
use mathlib.Core.Path.{◌≡◌, refl, ◌∙◌, ap₂}
use mathlib.Core.List.{List, [], ◌∷◌}
use mathlib.Core.Bool.{Bool, true, false, cond}
use lib.IntN.{ℤ, pos, negsuc, neg_ℤ, ◌+ℤ◌, ◌-ℤ◌, ◌*ℤ◌}
use Rattle.integers.specs.Sum.{sum_over}
use Rattle.integers.proofs.Solver.{quote, atoms, ring}
use Rattle.forms.specs.Form.{Form, mono, times, entry}
use Rattle.forms.proofs.Form.{entry-[], entry-append, entry_flat_map, entry-times, Below, below_times}
use Rattle.register.specs.declared.Register.{Register}
use Rattle.scheme.specs.declared.Scheme.{Scheme}
use Rattle.scheme.specs.Scheme.{side}
use Rattle.scheme.specs.Function.{g}
use Rattle.scheme.specs.Valid as S
use Rattle.certificate.specs.Certificate.{Multiplier, Certificate}
use Rattle.certificate.specs.Rules.{minus1, rule_of}
use Rattle.residual.specs.Residual.{null_part, subtracted_part, null_forms, subtracted_forms, reformulated, shifted, square_at, R}
use Rattle.certificate.specs.Within.{Allowed}
use Rattle.certificate.proofs.Conditions.{tested}
use Rattle.residual.proofs.Rules.{rule_sound}

module _ (r : Register) (s : Scheme) where
  -- how often the form of a multiplier command is added: m times, or −m times where it is subtracted
  unfoldable pub signed : Multiplier → ℤ
  signed t = cond (rule_of r s t).null t.m (neg_ℤ t.m)

  -- what it adds
  unfoldable pub signed_form : Multiplier → Form
  signed_form t = times (signed t) (rule_of r s t).form

  pub entry_signed_form : (t : Multiplier) (i j : ℕ) → entry (signed_form t) i j ≡ signed t *ℤ entry (rule_of r s t).form i j
  unfolding signed_form
  entry_signed_form t i j = entry-times (signed t) (rule_of r s t).form i j

  parts : (i j : ℕ) (t : Multiplier) → entry (null_part r s t) i j +ℤ minus1 *ℤ entry (subtracted_part r s t) i j ≡ entry (signed_form t) i j
  unfolding signed_form signed null_part subtracted_part
  parts i j t = pick (rule_of r s t).null (rule_of r s t).form
    where
      added : (m e : ℤ) → m *ℤ e +ℤ negsuc 0 *ℤ pos 0 ≡ m *ℤ e
      added m e = atoms (m ∷ e ∷ []) λ ρ m e. simp (m, e, quote, ρ) (ring _ _ _ tt)

      subtracted : (m e : ℤ) → pos 0 +ℤ negsuc 0 *ℤ (m *ℤ e) ≡ neg_ℤ m *ℤ e
      subtracted m e = atoms (m ∷ e ∷ []) λ ρ m e. simp (m, e, quote, ρ) (ring _ _ _ tt)

      pick : (b : Bool) (f : Form) → entry (cond b (times t.m f) []) i j +ℤ minus1 *ℤ entry (cond b [] (times t.m f)) i j ≡ entry (times (cond b t.m (neg_ℤ t.m)) f) i j
      pick true f = rw (entry-[], entry-times) (added t.m (entry f i j))
      pick false f = rw (entry-[], entry-times, entry-times) (subtracted t.m (entry f i j))

  all_parts : (i j : ℕ) (ts : List Multiplier) → entry (null_forms r s ts) i j +ℤ minus1 *ℤ entry (subtracted_forms r s ts) i j ≡ sum_over ts (λ t. entry (signed_form t) i j)
  unfolding null_forms subtracted_forms sum_over
  all_parts i j ts = ap₂ (λ x y. x +ℤ minus1 *ℤ y) (entry_flat_map (null_part r s) ts i j) (entry_flat_map (subtracted_part r s) ts i j) ∙ go ts
    where
      regroup : (u v x y : ℤ) → u +ℤ v +ℤ negsuc 0 *ℤ (x +ℤ y) ≡ u +ℤ negsuc 0 *ℤ x +ℤ (v +ℤ negsuc 0 *ℤ y)
      regroup u v x y = atoms (u ∷ v ∷ x ∷ y ∷ []) λ ρ u v x y. simp (u, v, x, y, quote, ρ) (ring _ _ _ tt)

      go : (ts : List Multiplier) → sum_over ts (λ t. entry (null_part r s t) i j) +ℤ minus1 *ℤ sum_over ts (λ t. entry (subtracted_part r s t) i j) ≡ sum_over ts (λ t. entry (signed_form t) i j)
      go [] = refl
      go (t ∷ ts) = regroup (entry (null_part r s t) i j) _ (entry (subtracted_part r s t) i j) _ ∙ ap₂ ◌+ℤ◌ (parts i j t) (go ts)

pub entry-B : (c : ℕ → ℤ) (r : Register) (s : Scheme) (k : Certificate) (i j : ℕ) → entry (shifted c r s k) i j
    ≡ pos k.scale *ℤ entry (g c r s) i j +ℤ sum_over k.multipliers (λ t. entry (signed_form r s t) i j) +ℤ entry (mono 0 0 (neg_ℤ k.target) ∷ []) i j
unfolding shifted reformulated
entry-B c r s k i j =
    rw (
      ← (all_parts r s i j k.multipliers),
      entry-append (reformulated c r s k),
      entry-append (times (pos k.scale) (g c r s)),
      entry-append (times minus1 (subtracted_forms r s k.multipliers)),
      entry-times (pos k.scale),
      entry-times minus1,
    )
    (regroup (pos k.scale *ℤ entry (g c r s) i j) (entry (null_forms r s k.multipliers) i j) (entry (subtracted_forms r s k.multipliers) i j) _)
  where
    regroup : (u v x y : ℤ) → u +ℤ v +ℤ (negsuc 0 *ℤ x +ℤ y) ≡ u +ℤ (v +ℤ negsuc 0 *ℤ x) +ℤ y
    regroup u v x y = atoms (u ∷ v ∷ x ∷ y ∷ []) λ ρ u v x y. simp (u, v, x, y, quote, ρ) (ring _ _ _ tt)

-- B is R and the squares
pub R_and_squares : (c : ℕ → ℤ) (r : Register) (s : Scheme) (k : Certificate) (i j : ℕ) → R c r s k i j +ℤ sum_over k.squares (λ q. square_at q i j) ≡ entry (shifted c r s k) i j
unfolding R
R_and_squares c r s k i j = restored (entry (shifted c r s k) i j) (sum_over k.squares (λ q. square_at q i j))
  where
    restored : (b t : ℤ) → b -ℤ t +ℤ t ≡ b
    restored b t = atoms (b ∷ t ∷ []) λ ρ b t. simp (b, t, quote) (ring _ _ _ tt)

-- they name places of the table only

pub signed_form_below : (r : Register) (s : Scheme) → S.Products r.choices s → (t : Multiplier) → Allowed r s t → Below (side r.choices s) (signed_form r s t)
unfolding signed_form
signed_form_below r s products t ok = below_times (signed r s t) ((rule_sound r s products t).below (tested r s t ok).rule.there)
