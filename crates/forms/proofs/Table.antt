-- Laws of the flat table: the number of row i and column j stands at i n + j, a run with a table at its front is known by its
-- numbers, and the sum of a form's table is exactly twice the form's value.
use Prim.Native.Nat.{ℕ, zero, suc, ◌+◌, ◌*◌, ◌-◌, ◌/◌, ◌%◌, ◌≤◌, ◌<◌}
use mathlib.Core.Path.{◌≡◌, refl, sym, ◌∙◌, ap}
use mathlib.Core.List.{List, [], ◌∷◌, ◌++◌}
use native.Mathlib.Nat.{mul-one, add-zero, div-add-mod', mod-lt, div-lt_iff_lt-mul}
use native.Mathlib.Omega.{arith}
use native.Mathlib.Decide.{dec_lt}
use lib.Arith.{digits_div, digits_mod, digits_lt}
use lib.ListN.{length, get_or, drop, length-append, length-drop, get_or-append}
use lib.Seq.{get_or-append-add, get_or-drop, ext_get_or}
use lib.IntN.{ℤ, pos, negsuc, neg_ℤ, ◌*ℤ◌}
use lib.Signed.{quot_z}
use Rattle.integers.specs.Quadratic.{quadratic}
use Rattle.integers.proofs.Join.{join_cong, length_join, get_d_join}
use Rattle.integers.proofs.Sum.{sum_below_cong, sum_below-rows}
use Rattle.integers.proofs.Quadratic.{quadratic_cong}
use Rattle.forms.specs.Form.{Form, value, entry}
use Rattle.forms.specs.Table.{row, rows, with_table, table_sum, table_value}
use Rattle.forms.proofs.Form.{Below, form_law}

-- ---- the table at the front of a run

-- each of the n² numbers is at a row and a column
pub by_place : (n : ℕ) (P : ℕ → Type 0) → ((i j : ℕ) → i < n → j < n → P (i * n + j)) → (k : ℕ) → k < n * n → P k
by_place n P h k l = rw (div-add-mod' k n) at (h (k / n) (k % n) ((div-lt_iff_lt-mul (some n l)).1 l) (mod-lt k (some n l)))
  where
    some : (n : ℕ) → k < n * n → 0 < n
    some zero l = absurd (omega arith)
    some (suc n) l = omega arith

pub length_row : (n : ℕ) (f : ℕ → ℤ) → length (row n f) ≡ n
length_row n f = length_join n 1 (λ j. f j ∷ []) (λ j. refl) ∙ mul-one n

pub row_at : (n : ℕ) (f : ℕ → ℤ) (j : ℕ) → j < n → get_or (row n f) j (pos 0) ≡ f j
row_at n f j l = rw (mul-one, add-zero) at (get_d_join n 1 (λ j. f j ∷ []) (λ j. refl) j 0 (pos 0) l (omega arith))

module _ (n : ℕ) (a : ℕ → ℕ → ℤ) where
  pub length-rows : length (rows n a) ≡ n * n
  unfolding rows
  length-rows = length_join n n (λ i. row n (a i)) (λ i. length_row n (a i))

  pub rows_at : (i j : ℕ) → i < n → j < n → get_or (rows n a) (i * n + j) (pos 0) ≡ a i j
  unfolding rows
  rows_at i j l k = get_d_join n n (λ i. row n (a i)) (λ i. length_row n (a i)) i j (pos 0) l k ∙ row_at n (a i) j k

  pub with_table_at : (lent : List ℤ) (i j : ℕ) → i < n → j < n → get_or (with_table n a lent) (i * n + j) (pos 0) ≡ a i j
  unfolding with_table
  with_table_at lent i j l k =
      get_or-append (rows n a) _ (pos 0) (i * n + j) (rw length-rows (digits_lt l k)) ∙ rows_at i j l k

  pub with_table_past : (lent : List ℤ) (k : ℕ) → n * n ≤ k → get_or (with_table n a lent) k (pos 0) ≡ get_or lent k (pos 0)
  unfolding with_table
  with_table_past lent k l = past (n * n) (rows n a) length-rows l
    where
      past : (m : ℕ) (r : List ℤ) → length r ≡ m → m ≤ k → get_or (r ++ drop m lent) k (pos 0) ≡ get_or lent k (pos 0)
      past m r e l =
          let s : k ≡ length r + (k - m) = omega arith in
          rw s (get_or-append-add r (drop m lent) (k - m) (pos 0) ∙ get_or-drop m lent (k - m) (pos 0) ∙ ap (λ x. get_or lent (x + (k - m)) (pos 0)) (sym e))

  pub with_table-length : (lent : List ℤ) → n * n ≤ length lent → length (with_table n a lent) ≡ length lent
  unfolding with_table
  with_table-length lent l = simp (length-append, length-drop, length-rows) (omega arith)

pub rows_cong : (n : ℕ) (a b : ℕ → ℕ → ℤ) → ((i j : ℕ) → i < n → j < n → a i j ≡ b i j) → rows n a ≡ rows n b
unfolding rows
rows_cong n a b h = join_cong n _ _ (λ i l. join_cong n _ _ (λ j k. ap (λ x. x ∷ []) (h i j l k)))

pub with_table_cong : (n : ℕ) (a b : ℕ → ℕ → ℤ) (lent : List ℤ) → ((i j : ℕ) → i < n → j < n → a i j ≡ b i j) → with_table n a lent ≡ with_table n b lent
unfolding with_table
with_table_cong n a b lent h = ap (λ r. r ++ drop (n * n) lent) (rows_cong n a b h)

-- a run as long as the lent one, with the table's numbers at its front and the lent ones past it
pub is_with_table : (n : ℕ) (a : ℕ → ℕ → ℤ) (lent t : List ℤ) → length t ≡ length lent → n * n ≤ length lent →
    ((i j : ℕ) → i < n → j < n → get_or t (i * n + j) (pos 0) ≡ a i j) →
    ((k : ℕ) → n * n ≤ k → get_or t k (pos 0) ≡ get_or lent k (pos 0)) →
    t ≡ with_table n a lent
is_with_table n a lent t e l front past =
    ext_get_or (pos 0) t (with_table n a lent) (e ∙ sym (with_table-length n a lent l)) (λ k h. go k (dec_lt k (n * n)))
  where
    go : (k : ℕ) → Dec (k < n * n) → get_or t k (pos 0) ≡ get_or (with_table n a lent) k (pos 0)
    go k (yes h) = by_place n (λ k. get_or t k (pos 0) ≡ get_or (with_table n a lent) k (pos 0)) (λ i j u v. front i j u v ∙ sym (with_table_at n a lent i j u v)) k h
    go k (no h) = past k (omega arith) ∙ sym (with_table_past n a lent k (omega arith))

-- ---- the value read from a table

pub table_sum-quadratic : (n : ℕ) (t : List ℤ) (y : ℕ → ℤ) → table_sum n t y ≡ quadratic n (λ i j. get_or t (i * n + j) (pos 0)) y
unfolding table_sum quadratic
table_sum-quadratic n t y = sum_below-rows n n _ ∙ sum_below_cong n _ _ (λ i l. sum_below_cong n _ _ (λ j k. at_place i j k))
  where
    at_place : (i j : ℕ) → j < n → get_or t (i * n + j) (pos 0) *ℤ y ((i * n + j) / n) *ℤ y ((i * n + j) % n) ≡ get_or t (i * n + j) (pos 0) *ℤ y i *ℤ y j
    at_place i j k = rw (digits_div i k, digits_mod i k)

pub table_sum-with_table : (n : ℕ) (a : ℕ → ℕ → ℤ) (lent : List ℤ) (y : ℕ → ℤ) → table_sum n (with_table n a lent) y ≡ quadratic n a y
table_sum-with_table n a lent y =
    table_sum-quadratic n (with_table n a lent) y ∙ quadratic_cong n _ a y (λ i j l k. with_table_at n a lent i j l k)

-- a form's table: the sum is exactly twice the form's value, and the value read is the form's
module _ {n : ℕ} {f : Form} (h : Below n f) (lent : List ℤ) (y : ℕ → ℤ) where
  pub table_sum_form : table_sum n (with_table n (entry f) lent) y ≡ pos 2 *ℤ value y f
  table_sum_form = table_sum-with_table n (entry f) lent y ∙ form_law h y

  pub table_value_form : table_value n (with_table n (entry f) lent) y ≡ value y f
  unfolding table_value
  table_value_form = ap (λ s. quot_z s (pos 2)) table_sum_form ∙ half (value y f)
    where
      half : (v : ℤ) → quot_z (pos 2 *ℤ v) (pos 2) ≡ v
      half (pos v) = let e : 2 * v / 2 ≡ v = omega arith in ap pos e
      half (negsuc v) =
          let e : 2 * suc v ≡ suc (2 * v + 1) = omega arith in
          let d : suc (2 * v + 1) / 2 ≡ suc v = omega arith in
          ap (λ x. quot_z (neg_ℤ (pos x)) (pos 2)) e ∙ ap (λ x. neg_ℤ (pos x)) d
