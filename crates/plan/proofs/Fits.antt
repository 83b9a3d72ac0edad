-- Whether a plan fits rows: the test, and that it is decided; sums of fed entries.
use mathlib.Core.Path.{◌≡◌, refl, sym, ◌∙◌, ap, ap₂}
use mathlib.Core.Bool.{Bool, true, false, cond, ◌&&◌}
use mathlib.Core.Logic.{◌↔◌}
use Prim.Native.Nat.{ℕ, zero, suc, min, ◌+◌, ◌*◌, ◌≤◌, ◌<◌}
use native.Mathlib.Numerals.{add-one}
use native.Mathlib.Omega.{arith}
use lib.IntN.{ℤ, pos, nat_abs, ◌+ℤ◌}
use Rattle.std.specs.List.{list_all, range_with_len}
use Rattle.std.proofs.lemmas.Bool.Decides.{Decides-int_eq}
use Rattle.integers.specs.Lists.{all_below}
use Rattle.integers.specs.Sum.{sum_below}
use Rattle.integers.proofs.Lists.{T_true, all_below_at, all_below_by}
use Rattle.integers.proofs.Sum.{sum_below_cong, sum_below_min, nat_abs-sum}
use Rattle.sets.specs.Sets.{is_member, set_of}
use Rattle.sets.proofs.Sets.{member_set_of}
use Rattle.register.specs.declared.Register.{Register}
use Rattle.register.specs.Register.{total_in, entry_in}
use Rattle.plan.specs.Fits.{Fits, fits, fed_sum, FitsRows, fits_rows}

-- ---- the sum of the fed entries

-- of none, and of one choice more
pub fed_sum-zero : (entry : ℕ → ℤ) (plan : ℕ) → fed_sum 0 entry plan ≡ pos 0
unfolding fed_sum sum_below
fed_sum-zero entry plan = refl

pub fed_sum-suc : (n : ℕ) (entry : ℕ → ℤ) (plan : ℕ) → fed_sum (suc n) entry plan ≡ fed_sum n entry plan +ℤ cond (is_member n plan) (entry n) (pos 0)
unfolding fed_sum sum_below
fed_sum-suc n entry plan = refl

pub fed_sum-next : (n : ℕ) (entry : ℕ → ℤ) (plan : ℕ) → fed_sum (n + 1) entry plan ≡ fed_sum n entry plan +ℤ cond (is_member n plan) (entry n) (pos 0)
fed_sum-next n entry plan = rw add-one (fed_sum-suc n entry plan)

-- entries within ±c
pub fed_sum_small : (n : ℕ) (entry : ℕ → ℤ) (plan c : ℕ) → ((j : ℕ) → j < n → nat_abs (entry j) ≤ c) → nat_abs (fed_sum n entry plan) ≤ c * n
unfolding fed_sum
fed_sum_small n entry plan c h = nat_abs-sum n c _ (λ j l. go (is_member j plan) (entry j) (h j l))
  where
    go : (b : Bool) (x : ℤ) → nat_abs x ≤ c → nat_abs (cond b x (pos 0)) ≤ c
    go true x l = l
    go false x l = omega arith

-- by the entries alone
pub fed_sum_cong : (n : ℕ) (entry entry' : ℕ → ℤ) (plan : ℕ) → ((j : ℕ) → j < n → entry j ≡ entry' j) → fed_sum n entry plan ≡ fed_sum n entry' plan
unfolding fed_sum
fed_sum_cong n entry entry' plan h = sum_below_cong n _ _ (λ j l. ap (λ x. cond (is_member j plan) x (pos 0)) (h j l))

-- up to the lower of two bounds, where the entries are 0 from one of them on
pub fed_sum_min : (n k : ℕ) (entry : ℕ → ℤ) (plan : ℕ) → ((j : ℕ) → k ≤ j → entry j ≡ pos 0) → fed_sum (min n k) entry plan ≡ fed_sum n entry plan
unfolding fed_sum
fed_sum_min n k entry plan h = sum_below_min n k (λ j. cond (is_member j plan) (entry j) (pos 0)) (λ j l. rw (h j l) (none (is_member j plan)))
  where
    none : (b : Bool) → cond b (pos 0) (pos 0) ≡ pos 0
    none true = refl
    none false = refl

-- of the set of the choices with a property
pub fed_sum-set : (n : ℕ) (entry : ℕ → ℤ) (z : ℕ → Bool) → fed_sum n entry (set_of n z) ≡ sum_below n (λ j. cond (z j) (entry j) (pos 0))
unfolding fed_sum
fed_sum-set n entry z = sum_below_cong n _ _ (λ j l. ap (λ x. cond x (entry j) (pos 0)) (member_set_of n z j l))

-- ---- a test of every number below a bound, one after the other

all_below-front : (n : ℕ) (f : ℕ → Bool) → all_below (suc n) f ≡ f 0 && all_below n (λ i. f (suc i))
unfolding all_below
all_below-front zero f = by (f 0)
  where
    by : (b : Bool) → true && b ≡ b && true
    by true = refl
    by false = refl
all_below-front (suc n) f = rw (all_below-front n f) (by (f 0) (all_below n (λ i. f (suc i))) (f (suc n)))
  where
    by : (a b c : Bool) → (a && b) && c ≡ a && (b && c)
    by true b c = refl
    by false b c = refl

pub list_all_below : (n a : ℕ) (f g : ℕ → Bool) → ((i : ℕ) → i < n → f (a + i) ≡ g i) → list_all f (range_with_len a n) ≡ all_below n g
unfolding all_below
list_all_below zero a f g h = refl
list_all_below (suc n) a f g h =
    let first : a + 0 ≡ a = omega arith in
    ap₂ ◌&&◌ (rw first at (h 0 (omega arith))) (list_all_below n (a + 1) f (λ i. g (suc i)) (λ i l. let e : a + 1 + i ≡ a + suc i = omega arith in rw e (h (suc i) (omega arith)))) ∙ sym (all_below-front n g)

-- ---- whether a plan fits

module _ (n count : ℕ) (entry : ℕ → ℕ → ℤ) (total : ℕ → ℤ) where
  -- the test passes just where the plan fits
  pub fits_iff : (plan : ℕ) → (fits_rows n count entry total plan ≡ true) ↔ FitsRows n count entry total plan
  unfolding fits_rows
  fits_iff plan = (
    (λ e k l. (Decides-int_eq _ _).0 ((T_true _).0 (all_below_at count _ ((T_true _).1 e) k l))),
    (λ f. (T_true _).0 (all_below_by count _ (λ k l. (T_true _).1 ((Decides-int_eq _ _).1 (f k l))))),
  )

  pub fits_not : (plan : ℕ) → fits_rows n count entry total plan ≡ false → FitsRows n count entry total plan → ⊥
  fits_not plan e f = absurd (differ (sym e ∙ (fits_iff plan).1 f))
    where
      differ : false ≡ true → ⊥
      differ h = grind arith

  -- whether a plan fits is decided
  pub fits? : (plan : ℕ) → Dec (FitsRows n count entry total plan)
  fits? plan = go (fits_rows n count entry total plan) refl
    where
      go : (b : Bool) → fits_rows n count entry total plan ≡ b → Dec (FitsRows n count entry total plan)
      go true e = yes ((fits_iff plan).0 e)
      go false e = no (fits_not plan e)

-- by the entries and the sums alone
pub fits_cong : (n count : ℕ) (entry entry' : ℕ → ℕ → ℤ) (total total' : ℕ → ℤ) (plan : ℕ) → ((k j : ℕ) → k < count → j < n → entry k j ≡ entry' k j) → ((k : ℕ) → k < count → total k ≡ total' k) →
    FitsRows n count entry total plan → FitsRows n count entry' total' plan
fits_cong n count entry entry' total total' plan h g f k l = sym (fed_sum_cong n (entry k) (entry' k) plan (λ j m. h k j l m)) ∙ f k l ∙ g k l

-- ---- the rows of a register

pub register_fits : (reg : Register) (plan : ℕ) → (fits reg plan ≡ true) ↔ Fits reg plan
register_fits reg plan = fits_iff reg.choices reg.rows (entry_in reg.row_entries) (total_in reg.row_totals) plan

pub register_fits? : (reg : Register) (plan : ℕ) → Dec (Fits reg plan)
register_fits? reg plan = fits? reg.choices reg.rows (entry_in reg.row_entries) (total_in reg.row_totals) plan

-- a register without rows: every plan fits
pub every_fits : (reg : Register) → reg.rows ≡ 0 → (plan : ℕ) → Fits reg plan
every_fits reg e plan k l = absurd (omega arith)
