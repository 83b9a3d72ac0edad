-- R command by command: after the first, with one multiplier more, and with one square more.
use Prim.Native.Nat.{ℕ, ◌*◌, ◌≤◌}
use mathlib.Core.Path.{◌≡◌, sym, ◌∙◌, ap}
use mathlib.Core.List.{List, [], ◌∷◌, ◌++◌}
use lib.IntN.{ℤ, pos, neg_ℤ, ◌+ℤ◌, ◌-ℤ◌, ◌*ℤ◌, +ℤ_idr}
use lib.ListN.{length}
use mathlib.Core.Bool.{true}
use Rattle.integers.specs.Sum.{sum_over}
use Rattle.integers.proofs.Solver.{quote, atoms, ring}
use Rattle.integers.proofs.Sum.{sum_over-append}
use Rattle.forms.specs.Form.{mono, times, entry}
use Rattle.forms.specs.Table.{with_table}
use Rattle.forms.specs.Store.{add_form, Bounded}
use Rattle.forms.proofs.Form.{entry-times}
use Rattle.forms.proofs.Store.{add_form-with_table, bounded_with_table}
use Rattle.forms.proofs.Table.{with_table_cong}
use Rattle.register.specs.declared.Register.{Register}
use Rattle.scheme.specs.declared.Scheme.{Scheme}
use Rattle.scheme.specs.Scheme.{side}
use Rattle.scheme.specs.Function.{g}
use Rattle.scheme.specs.Valid as S
use Rattle.certificate.specs.Certificate.{Multiplier, Square, Certificate, with_multiplier, with_square}
use Rattle.residual.specs.Residual.{reformulated, shifted, square_at, R}
use Rattle.certificate.specs.Within.{Allowed, Within}
use Rattle.residual.specs.Built.{with_scale, less_where}
use Rattle.residual.proofs.Table.{signed_form, signed_form_below, entry-B}
use Rattle.residual.proofs.Bounds.{Small}
use Rattle.residual.specs.Limits.{max_r}
use Rattle.residual.proofs.RowBounds.{R_small}
use Rattle.residual.proofs.Subtracted.{less_all}

-- one term more
pub sum_over_more : {A : Type 0} (l : List A) (x : A) (f : A → ℤ) → sum_over (l ++ (x ∷ [])) f ≡ sum_over l f +ℤ f x
unfolding sum_over
sum_over_more l x f = sum_over-append l (x ∷ []) f ∙ ap (λ y. sum_over l f +ℤ y) (+ℤ_idr (f x))

module _ (c : ℕ → ℤ) (r : Register) (s : Scheme) where
  abbrev n : ℕ
  n = r.choices

  pub R-with_scale : (scale : ℕ) (target : ℤ) (i j : ℕ) → R c r s (with_scale scale target) i j ≡ entry (times (pos scale) (g c r s)) i j +ℤ entry (mono 0 0 (neg_ℤ target) ∷ []) i j
  unfolding R sum_over
  R-with_scale scale target i j =
      ap (λ b. b -ℤ pos 0) (entry-B c r s (with_scale scale target) i j)
      ∙ rw (entry-times (pos scale) (g c r s) i j) (go (pos scale *ℤ entry (g c r s) i j) (entry (mono 0 0 (neg_ℤ target) ∷ []) i j))
    where
      go : (u v : ℤ) → u +ℤ pos 0 +ℤ v -ℤ pos 0 ≡ u +ℤ v
      go u v = atoms (u ∷ v ∷ []) λ ρ u v. simp (u, v, quote, ρ) (ring _ _ _ tt)

  module _ (k : Certificate) where
    pub R_multiplier : (t : Multiplier) (i j : ℕ) → R c r s (with_multiplier k t) i j ≡ R c r s k i j +ℤ entry (signed_form r s t) i j
    unfolding R
    R_multiplier t i j =
        rw (entry-B c r s k i j, entry-B c r s (with_multiplier k t) i j, sum_over_more k.multipliers t (λ t. entry (signed_form r s t) i j))
        (go (pos k.scale *ℤ entry (g c r s) i j) (sum_over k.multipliers (λ t. entry (signed_form r s t) i j)) (entry (signed_form r s t) i j) (entry (mono 0 0 (neg_ℤ k.target) ∷ []) i j) (sum_over k.squares (λ q. square_at q i j)))
      where
        go : (u v x y z : ℤ) → u +ℤ (v +ℤ x) +ℤ y -ℤ z ≡ u +ℤ v +ℤ y -ℤ z +ℤ x
        go u v x y z = atoms (u ∷ v ∷ x ∷ y ∷ z ∷ []) λ ρ u v x y z. simp (u, v, x, y, z, quote, ρ) (ring _ _ _ tt)

    pub R_square : (q : Square) (i j : ℕ) → R c r s (with_square k q) i j ≡ R c r s k i j -ℤ square_at q i j
    unfolding R shifted reformulated
    R_square q i j =
        rw (sum_over_more k.squares q (λ q. square_at q i j)) (go (entry (shifted c r s k) i j) (sum_over k.squares (λ q. square_at q i j)) (square_at q i j))
      where
        go : (b x y : ℤ) → b -ℤ (x +ℤ y) ≡ b -ℤ x -ℤ y
        go b x y = atoms (b ∷ x ∷ y ∷ []) λ ρ b x y. simp (b, x, y, quote) (ring _ _ _ tt)

  -- the table
  abbrev pub holds_r : Certificate → List ℤ → List ℤ
  holds_r k lent = with_table (side n s) (R c r s k) lent

  module _ (k : Certificate) (lent : List ℤ) (room : side n s * side n s ≤ length lent) where
    pub table_multiplier : S.Products n s → (t : Multiplier) → Allowed r s t → add_form (side n s) (signed_form r s t) (holds_r k lent) ≡ holds_r (with_multiplier k t) lent
    table_multiplier products t ok =
        add_form-with_table (signed_form_below r s products t ok) (R c r s k) lent room
        ∙ with_table_cong (side n s) _ (R c r s (with_multiplier k t)) lent (λ i j _ _. sym (R_multiplier k t i j))

    pub table_square : (q : Square) → less_where (side n s) (square_at q) (λ i j. true) (holds_r k lent) ≡ holds_r (with_square k q) lent
    table_square q =
        less_all (side n s) (square_at q) (R c r s k) lent room ∙ with_table_cong (side n s) _ (R c r s (with_square k q)) lent (λ i j _ _. sym (R_square k q i j))

    pub bounded_R : Small c r → S.Within r s → Within r s k → Bounded (side n s) max_r (holds_r k lent)
    bounded_R low scheme within = bounded_with_table (side n s) max_r (R c r s k) lent room (R_small c r s k low scheme within)
