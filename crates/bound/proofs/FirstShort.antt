-- Diagonal dominance of a row, entry by entry, and the first row that falls short.
use Prim.Native.Nat.{ℕ, zero, suc, ◌+◌, ◌*◌, ◌≤◌, ◌<◌}
use mathlib.Core.Path.{◌≡◌, sym, ◌∙◌, ap, ap₂, subst}
use mathlib.Core.Bool.{Bool, true, false, cond}
use mathlib.Core.Logic.{⊎_elim}
use native.Mathlib.Omega.{arith}
use native.Mathlib.Nat.{eq-or-lt_of_le}
use lib.Dec.{T, eqb}
use lib.IntN.{ℤ, pos, nat_abs, ◌+ℤ◌, ◌-ℤ◌, +ℤ_idr}
use lib.Signed.{◌≤ℤ◌, ◌<ℤ◌, le_z, ≤ℤ_refl, clash_ℤ}
use borrow.Author.Tests.{eqb-true, eqb-false}
use Rattle.integers.specs.Integer.{abs}
use Rattle.integers.specs.Lists.{all_below}
use Rattle.integers.specs.Sum.{sum_below, except}
use Rattle.integers.specs.Quadratic.{off_diagonal}
use Rattle.integers.proofs.Diff.{diff₂, diff₃, diffs}
use Rattle.integers.proofs.Order.{≤ℤ_trans, abs_nonneg, nat_abs_sub}
use Rattle.integers.proofs.Sum.{sum_below_cong}
use Rattle.integers.proofs.Gerschgorin.{off_diagonal_small}
use Rattle.integers.proofs.Lists.{T_true, all_below_by, flag}
use Rattle.bound.specs.Bound.{row_holds}
use Rattle.bound.specs.Dominance.{FirstShort}
use Rattle.scheme.proofs.Sets.{all_below_not}

module _ (a : ℕ → ℕ → ℤ) (i : ℕ) where
  -- the diagonal entry of row i less the absolute values of the first j entries beside it
  abbrev pub slack : ℕ → ℤ
  slack j = a i i -ℤ off_diagonal j a i

  -- what the entry at column j takes from it
  abbrev pub beside_at : ℕ → ℤ
  beside_at j = except i (λ j. abs (a i j)) j

  pub slack_zero : slack 0 ≡ a i i
  unfolding off_diagonal sum_below
  slack_zero = +ℤ_idr (a i i)

  pub slack_suc : (j : ℕ) → slack (suc j) ≡ slack j -ℤ beside_at j
  unfolding off_diagonal sum_below
  slack_suc j = go (a i i) (off_diagonal j a i) (beside_at j)
    where
      go : (x y z : ℤ) → x -ℤ (y +ℤ z) ≡ x -ℤ y -ℤ z
      go = diff₃ _ λ p q r s t u. simp diffs (omega arith)

  beside_at_nonneg : (j : ℕ) → pos 0 ≤ℤ beside_at j
  unfolding except
  beside_at_nonneg j = go (eqb j i)
    where
      go : (b : Bool) → pos 0 ≤ℤ cond b (pos 0) (abs (a i j))
      go true = ≤ℤ_refl (pos 0)
      go false = abs_nonneg (a i j)

  slack_falls : (n j : ℕ) → j ≤ n → slack n ≤ℤ slack j
  slack_falls zero j h = let e : j ≡ 0 = omega arith in rw e (≤ℤ_refl (slack 0))
  slack_falls (suc n) j h =
      ⊎_elim
      (λ (e : j ≡ suc n). rw e (≤ℤ_refl (slack (suc n))))
      (λ (l : j < suc n). rw (slack_suc n) (go (slack n) (beside_at n) (slack j) (beside_at_nonneg n) (slack_falls n j (omega arith))))
      (eq-or-lt_of_le h)
    where
      go : (x y z : ℤ) → pos 0 ≤ℤ y → x ≤ℤ z → (x -ℤ y) ≤ℤ z
      go = diff₃ _ λ p q r s t u. simp diffs (omega arith)

  pub slack_small : (b n j : ℕ) → i < n → j ≤ n → ((j : ℕ) → j < n → nat_abs (a i j) ≤ b) → nat_abs (slack j) ≤ b + b * j
  slack_small b n j l m h =
      omega (arith, nat_abs_sub (a i i) (off_diagonal j a i), h i l, off_diagonal_small j b a i (λ k u. h k (omega arith)))

  -- the row falls short as soon as nothing is left, and holds where something is left of all

  pub row_short : (n j : ℕ) → j ≤ n → slack j <ℤ pos 0 → row_holds n a i ≡ false
  unfolding row_holds
  row_short n j h l = flag (le_z (off_diagonal n a i) (a i i)) (λ t. absurd (clash (record { le = (T_true _).1 t }))) (λ t. t)
    where
      back : (x y : ℤ) → y ≤ℤ x → pos 0 ≤ℤ (x -ℤ y)
      back = diff₂ _ λ p q r s. simp diffs (omega arith)

      clash : off_diagonal n a i ≤ℤ a i i → ⊥
      clash g = clash_ℤ l (≤ℤ_trans _ _ _ (back (a i i) (off_diagonal n a i) g) (slack_falls n j h))

  pub row_holds_lem : (n : ℕ) → pos 0 ≤ℤ slack n → T (row_holds n a i)
  unfolding row_holds
  row_holds_lem n h = (back (a i i) (off_diagonal n a i) h).le
    where
      back : (x y : ℤ) → pos 0 ≤ℤ (x -ℤ y) → y ≤ℤ x
      back = diff₂ _ λ p q r s. simp diffs (omega arith)

-- rows of two tables that agree
pub row_holds_cong : (n : ℕ) (a b : ℕ → ℕ → ℤ) → ((i j : ℕ) → i < n → j < n → a i j ≡ b i j) → (i : ℕ) → i < n → row_holds n a i ≡ row_holds n b i
unfolding row_holds off_diagonal except
row_holds_cong n a b h i l =
    ap₂ le_z (sum_below_cong n _ _ (λ j m. ap (λ x. cond (eqb j i) (pos 0) (abs x)) (h i j l m))) (h i i l l)

pub first_short_cong : {n r : ℕ} {a b : ℕ → ℕ → ℤ} → ((i j : ℕ) → i < n → j < n → a i j ≡ b i j) → FirstShort n a r → FirstShort n b r
first_short_cong {n} {r} {a} {b} h f = record {
  within = f.within;
  before = λ i l. subst T (row_holds_cong n a b h i (omega (arith, f.within))) (f.before i l);
  short = λ l. sym (row_holds_cong n a b h r l) ∙ f.short l;
}

-- no row falls short where every row holds
pub first_all : {n r : ℕ} {a : ℕ → ℕ → ℤ} → FirstShort n a r → eqb r n ≡ all_below n (row_holds n a)
first_all {n} {r} {a} f =
    flag (eqb r n)
    (λ t. let e = eqb-true r n t in t ∙ sym ((T_true (all_below n (row_holds n a))).0 (all_below_by n (row_holds n a) (λ i l. f.before i (omega arith)))))
    (λ t. t ∙ sym (all_below_not n (row_holds n a) r (omega (arith, f.within, eqb-false r n t)) (f.short (omega (arith, f.within, eqb-false r n t)))))
