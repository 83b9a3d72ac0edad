-- The form of a row: its places, its value, the numbers of its table and how large they are. It is 0 where the plan fits the row.
use mathlib.Core.Path.{◌≡◌, refl, sym, ◌∙◌, ap, ap₂}
use mathlib.Core.Bool.{cond}
use mathlib.Core.List.{[], ◌∷◌, map}
use Prim.Native.Nat.{ℕ, zero, suc, ◌+◌, ◌*◌, ◌≤◌, ◌<◌}
use native.Mathlib.Omega.{arith}
use native.Mathlib.Decide.{ℕ_discrete, dec_lt}
use lib.IntN.{ℤ, pos, negsuc, neg_ℤ, nat_abs, ◌+ℤ◌, ◌-ℤ◌, ◌*ℤ◌, +ℤ_idr, *ℤ-zero}
use lib.ListN.{get_or}
use Rattle.integers.specs.Integer.{bit}
use Rattle.integers.specs.Lists.{join_below}
use Rattle.integers.specs.Sum.{sum_below, sum_over}
use Rattle.integers.proofs.Diff.{diff₁, diffs}
use Rattle.integers.proofs.Lists.{*_bit}
use Rattle.integers.proofs.Order.{nat_abs_neg, nat_abs-*, nat_abs-*-≤}
use Rattle.integers.proofs.Solver.{quote, atoms, ring}
use Rattle.integers.proofs.Sum.{sum_below_cong, sum_below-*ˡ, sum_below_0, sum_below_only}
use Rattle.sets.specs.Sets.{is_subset, set_of}
use Rattle.sets.proofs.Sets.{subset_one}
use Rattle.forms.specs.Form.{Form, mono, place, value, times, entry}
use Rattle.forms.proofs.Form.{Below, below-[], below_∷, below_append, below_join, value-append, value-times, value_join, unit, entry-append, entry_join, entry-single, entry-times, entry_symmetric, without_p, without_q, without_i, without_j, product_same, linear_same, square_same}
use Rattle.forms.proofs.Store.{norm1, norm1-[], norm1_∷, norm1_append, norm1_join}
use Rattle.plan.specs.Fits.{fed_sum, FitsRow}
use Rattle.plan.proofs.Fits.{fed_sum-set}
use Rattle.scheme.specs.declared.Scheme.{Scheme}
use Rattle.scheme.specs.Filling.{Filling, factor, induced}
use Rattle.scheme.proofs.Variables.{E_choice}
use Rattle.certificate.specs.RowForm.{row_form}

value-single : (y : ℕ → ℤ) (p q : ℕ) (c : ℤ) → value y (mono p q c ∷ []) ≡ c *ℤ y p *ℤ y q
unfolding value sum_over
value-single y p q c = +ℤ_idr _

module _ (n : ℕ) (a : ℕ → ℤ) (b : ℤ) (i : ℕ) where
  -- its places
  pub below_row : {side : ℕ} → n < side → place i < side → Below side (row_form n a b i)
  unfolding row_form
  below_row l k = below_append (below_join n (λ j m. below_∷ (omega arith) (omega arith) below-[])) (below_∷ (omega arith) (omega arith) below-[])

  -- ---- its value

  -- at any factors: that of variable i times (the sum of the entries, each times its factor, − b times the factor of place 0)
  pub value_row : (y : ℕ → ℤ) → value y (row_form n a b i) ≡ y (place i) *ℤ (sum_below n (λ j. a j *ℤ y (place j)) -ℤ b *ℤ y 0)
  unfolding row_form
  value_row y =
      value-append y (join_below n (λ j. mono (place i) (place j) (a j) ∷ [])) _
      ∙ ap₂ ◌+ℤ◌
      (value_join y n _
      ∙ sum_below_cong n _ _ (λ j l. value-single y (place i) (place j) (a j) ∙ swapped (a j) (y (place i)) (y (place j)))
      ∙ sum_below-*ˡ n (y (place i)) _)
      (value-single y 0 (place i) (neg_ℤ b))
      ∙ together (y (place i)) (sum_below n (λ j. a j *ℤ y (place j))) b (y 0)
    where
      swapped : (a u v : ℤ) → a *ℤ u *ℤ v ≡ u *ℤ (a *ℤ v)
      swapped a u v = atoms (a ∷ u ∷ v ∷ []) λ ρ a u v. simp (a, u, v, quote) (ring _ _ _ tt)

      together : (u s b d : ℤ) → u *ℤ s +ℤ neg_ℤ b *ℤ d *ℤ u ≡ u *ℤ (s -ℤ b *ℤ d)
      together u s b d = atoms (u ∷ s ∷ b ∷ d ∷ []) λ ρ u s b d. simp (u, s, b, d, quote) (ring _ _ _ tt)

  -- at a filling: z_i times (the sum of the entries whose choices are 1, − b)
  pub value_row_at : (z : Filling) → value (factor z) (row_form n a b i) ≡ bit (z i) *ℤ (sum_below n (λ j. cond (z j) (a j) (pos 0)) -ℤ b)
  value_row_at z = value_row (factor z) ∙ ap₂ (λ s d. bit (z i) *ℤ (s -ℤ d)) (sum_below_cong n _ _ (λ j l. *_bit (a j) (z j))) (once b)
    where
      once : (b : ℤ) → b *ℤ pos 1 ≡ b
      once = diff₁ _ λ p q. simp diffs (omega arith)

  fits_0 : (z : Filling) (m : ℤ) → sum_below n (λ j. cond (z j) (a j) (pos 0)) ≡ b → value (factor z) (times m (row_form n a b i)) ≡ pos 0
  fits_0 z m e = value-times (factor z) m (row_form n a b i) ∙ ap (λ x. m *ℤ x) (value_row_at z ∙ rw e (nothing (bit (z i)) b)) ∙ *ℤ-zero m
    where
      nothing : (u b : ℤ) → u *ℤ (b -ℤ b) ≡ pos 0
      nothing u b = atoms (u ∷ b ∷ []) λ ρ u b. simp (u, b, quote, ρ) (ring _ _ _ tt)

  -- m times it is 0 at every filling that carries a plan that fits the row
  pub row_0 : (z : Filling) (m : ℤ) → FitsRow n a b (set_of n z) → value (factor z) (times m (row_form n a b i)) ≡ pos 0
  row_0 z m e = fits_0 z m (sym (fed_sum-set n a z) ∙ e)

  -- and at the filling that a plan induces, where the plan fits the row
  pub row_induced_0 : (s : Scheme) (plan : ℕ) (m : ℤ) → FitsRow n a b plan → value (factor (induced n s plan)) (times m (row_form n a b i)) ≡ pos 0
  unfolding fed_sum
  row_induced_0 s plan m e =
      fits_0 (induced n s plan) m (sum_below_cong n _ _ (λ j l. ap (λ x. cond x (a j) (pos 0)) (ap (λ v. is_subset v plan) (E_choice n s j l) ∙ subset_one j plan)) ∙ e)

  -- ---- the numbers of its table

  sums : (x y : ℕ) → entry (row_form n a b i) x y ≡ sum_below n (λ j. a j *ℤ unit (place i) (place j) x y) +ℤ neg_ℤ b *ℤ unit 0 (place i) x y
  unfolding row_form
  sums x y =
      entry-append (join_below n (λ j. mono (place i) (place j) (a j) ∷ [])) _ x y
      ∙ ap₂ ◌+ℤ◌ (entry_join n _ x y ∙ sum_below_cong n _ _ (λ j l. entry-single (place i) (place j) (a j) x y)) (entry-single 0 (place i) (neg_ℤ b) x y)

  absent_sum : (x y : ℕ) → ((j : ℕ) → j < n → unit (place i) (place j) x y ≡ pos 0) → sum_below n (λ j. a j *ℤ unit (place i) (place j) x y) ≡ pos 0
  absent_sum x y h = sum_below_cong n _ _ (λ j l. ap (λ u. a j *ℤ u) (h j l) ∙ *ℤ-zero (a j)) ∙ sum_below_0 n

  -- at places 0 and i it is −b
  pub row_constant : entry (row_form n a b i) 0 (place i) ≡ neg_ℤ b
  row_constant =
      sums 0 (place i)
      ∙ ap₂ ◌+ℤ◌ (absent_sum 0 (place i) (λ j l. without_i (place i) (place j) 0 (place i) (λ e. omega arith) (λ e. omega arith))) (ap (λ u. neg_ℤ b *ℤ u) (linear_same i))
      ∙ once (neg_ℤ b)
    where
      once : (b : ℤ) → pos 0 +ℤ b *ℤ pos 1 ≡ b
      once = diff₁ _ λ p q. simp diffs (omega arith)

  apart : (j k : ℕ) → (k ≡ j → ⊥) → unit (place i) (place k) (place i) (place j) ≡ pos 0
  apart j k d = go (ℕ_discrete k i)
    where
      go : Dec (k ≡ i) → unit (place i) (place k) (place i) (place j) ≡ pos 0
      go (yes e) = without_j (place i) (place k) (place i) (place j) (λ h. d (omega arith)) (λ h. d (omega arith))
      go (no f) = without_q (place i) (place k) (place i) (place j) (λ h. f (omega arith)) (λ h. d (omega arith))

  without_b : (j : ℕ) → neg_ℤ b *ℤ unit 0 (place i) (place i) (place j) ≡ pos 0
  without_b j = ap (λ u. neg_ℤ b *ℤ u) (without_p 0 (place i) (place i) (place j) (λ e. omega arith) (λ e. omega arith)) ∙ *ℤ-zero (neg_ℤ b)

  along : (j : ℕ) → j < n → entry (row_form n a b i) (place i) (place j) ≡ a j *ℤ unit (place i) (place j) (place i) (place j)
  along j l =
      sums (place i) (place j)
      ∙ ap₂ ◌+ℤ◌ (sum_below_only n j _ l (λ k m d. ap (λ u. a k *ℤ u) (apart j k d) ∙ *ℤ-zero (a k))) (without_b j)
      ∙ +ℤ_idr _

  -- at places i and j it is the entry of choice j
  pub row_product : (j : ℕ) → j < n → (i ≡ j → ⊥) → entry (row_form n a b i) (place i) (place j) ≡ a j
  row_product j l d = along j l ∙ ap (λ u. a j *ℤ u) (product_same (place i) (place j) (λ e. d (omega arith))) ∙ once (a j)
    where
      once : (b : ℤ) → b *ℤ pos 1 ≡ b
      once = diff₁ _ λ p q. simp diffs (omega arith)

  -- where i is a choice its square stands on the diagonal, twice
  pub row_square : i < n → entry (row_form n a b i) (place i) (place i) ≡ a i *ℤ pos 2
  row_square l = along i l ∙ ap (λ u. a i *ℤ u) (square_same (place i))

  -- at places i and of a variable that is no choice it is 0
  pub row_past : (j : ℕ) → n ≤ j → entry (row_form n a b i) (place i) (place j) ≡ pos 0
  row_past j l = sums (place i) (place j) ∙ ap₂ ◌+ℤ◌ (absent_sum (place i) (place j) (λ k m. apart j k (λ e. omega arith))) (without_b j)

  -- and beside the row and the column of i
  pub row_beside : (x y : ℕ) → (x ≡ place i → ⊥) → (y ≡ place i → ⊥) → entry (row_form n a b i) x y ≡ pos 0
  row_beside x y d e =
      sums x y
      ∙ ap₂ ◌+ℤ◌ (absent_sum x y (λ j l. without_p (place i) (place j) x y d e))
      (ap (λ u. neg_ℤ b *ℤ u) (without_q 0 (place i) x y d e) ∙ *ℤ-zero (neg_ℤ b))

  -- ---- how large they are

  module _ (most : ℕ) (entries : (j : ℕ) → j < n → nat_abs (a j) * 2 ≤ most) (total : nat_abs b ≤ most) where
    in_row : (y : ℕ) → nat_abs (entry (row_form n a b i) (place i) y) ≤ most
    in_row zero = rw (entry_symmetric (row_form n a b i) (place i) 0, row_constant, nat_abs_neg b) total
    in_row (suc j) = go (dec_lt j n) (ℕ_discrete i j)
      where
        go : Dec (j < n) → Dec (i ≡ j) → nat_abs (entry (row_form n a b i) (place i) (place j)) ≤ most
        go (no l) e = rw (row_past j (omega arith)) (omega arith)
        go (yes l) (no d) = rw (row_product j l d) (omega (arith, entries j l))
        go (yes l) (yes e) = rw (← e, row_square (rw e l), nat_abs-* (a i) (pos 2)) (omega (arith, entries i (rw e l)))

    -- twice an entry and the total are at most so much: so is each number of the table
    pub row_low : (x y : ℕ) → nat_abs (entry (row_form n a b i) x y) ≤ most
    row_low x y = go (ℕ_discrete x (place i)) (ℕ_discrete y (place i))
      where
        go : Dec (x ≡ place i) → Dec (y ≡ place i) → nat_abs (entry (row_form n a b i) x y) ≤ most
        go (yes e) k = rw e (in_row y)
        go (no d) (yes e) = rw (entry_symmetric (row_form n a b i) x y, e) (in_row x)
        go (no d) (no f) = rw (row_beside x y d f) (omega arith)

    -- and |m| times as much of m times the form
    pub row_low_times : (m : ℤ) (l : ℕ) → nat_abs m ≤ l → (x y : ℕ) → nat_abs (entry (times m (row_form n a b i)) x y) ≤ l * most
    row_low_times m l h x y = rw (entry-times m (row_form n a b i) x y) (nat_abs-*-≤ m (entry (row_form n a b i) x y) l most h (row_low x y))

  -- the sum of twice the absolute values of its coefficients: entries within ±c, the total within ±e
  pub row_norm : (c e : ℕ) → ((j : ℕ) → j < n → nat_abs (a j) ≤ c) → nat_abs b ≤ e → norm1 (row_form n a b i) ≤ 2 * c * n + 2 * e
  unfolding row_form
  row_norm c e h l =
      omega (
        arith,
        norm1_append (join_below n (λ j. mono (place i) (place j) (a j) ∷ [])) (mono 0 (place i) (neg_ℤ b) ∷ []),
        norm1_join n (2 * c) (λ j. mono (place i) (place j) (a j) ∷ []) (λ j k. omega (arith, norm1_∷ (mono (place i) (place j) (a j)) [], norm1-[], h j k)),
        norm1_∷ (mono 0 (place i) (neg_ℤ b)) [],
        norm1-[],
        nat_abs_neg b,
      )

-- ---- an example: three choices with entries 3, 5, −1, the total 4, and variable 1, twice: rows 0 to 3 of its table. The square
-- 5 z_1 z_1 stands at (2,2), twice

row : Form
row = times (pos 2) (row_form 3 (λ j. get_or (pos 3 ∷ pos 5 ∷ negsuc 0 ∷ []) j (pos 0)) (pos 4) 1)

table : map (λ i. map (entry row i) (0 ∷ 1 ∷ 2 ∷ 3 ∷ [])) (0 ∷ 1 ∷ 2 ∷ 3 ∷ [])
    ≡ (pos 0 ∷ pos 0 ∷ negsuc 7 ∷ pos 0 ∷ [])
    ∷ (pos 0 ∷ pos 0 ∷ pos 6 ∷ pos 0 ∷ [])
    ∷ (negsuc 7 ∷ pos 6 ∷ pos 20 ∷ negsuc 1 ∷ [])
    ∷ (pos 0 ∷ pos 0 ∷ negsuc 1 ∷ pos 0 ∷ [])
    ∷ []
unfolding row row_form entry times sum_over join_below
table = refl
