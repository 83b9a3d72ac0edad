-- How each kind of goal over ℤ is proved, in a line or two each.
use mathlib.Core.Path.{◌≡◌}
use mathlib.Core.List.{[], ◌∷◌}
use Prim.Native.Nat.{ℕ, ◌+◌, ◌≤◌, ◌<◌}
use native.Mathlib.Omega.{arith}
use lib.IntN.{ℤ, pos, ◌+ℤ◌, ◌-ℤ◌, ◌*ℤ◌, nat_abs}
use lib.Signed.{◌≤ℤ◌, ◌<ℤ◌, mag}
use mir.Syntax.{w32, w64}
use mir.Val.{SFits, to_z, of_z}
use Rattle.integers.proofs.Parts.{orders, +_parts}
use Rattle.integers.specs.Integer.{abs}
use Rattle.integers.proofs.Diff.{as_diff, diff₂, diff₃, diffs}
use Rattle.integers.proofs.Solver.{quote, atoms, ring}
use Rattle.integers.proofs.Order.{nonneg, monotone, ≤ℤ_by, *ℤ_monoˡ, nat_abs-+}
use Rattle.integers.proofs.Machine.{read_signed, cast_read}
use Rattle.integers.specs.Sum.{sum_below}
use Rattle.integers.proofs.Sum.{linear, sum_below_cong, sum_below_mono, sum_below-*ˡ, sum_below_nonneg}

-- ---- equations of polynomials

binomial : (a b : ℤ) → (a +ℤ b) *ℤ (a +ℤ b) ≡ a *ℤ a +ℤ pos 2 *ℤ a *ℤ b +ℤ b *ℤ b
binomial a b = atoms (a ∷ b ∷ []) λ ρ a b. simp (a, b, quote, ρ) (ring _ _ _ tt)

regrouped : (w v y : ℤ) → w *ℤ (v *ℤ y) *ℤ (v *ℤ y) ≡ w *ℤ v *ℤ v *ℤ (y *ℤ y)
regrouped w v y = atoms (w ∷ v ∷ y ∷ []) λ ρ w v y. simp (w, v, y, quote) (ring _ _ _ tt)

bilinear : (k l r : ℤ) → pos 3 *ℤ k *ℤ k -ℤ pos 2 *ℤ k *ℤ l -ℤ pos 2 *ℤ k *ℤ r +ℤ l *ℤ r
    ≡ (k -ℤ l) *ℤ (k -ℤ r) +ℤ k *ℤ (pos 2 *ℤ k -ℤ l -ℤ r)
bilinear k l r = atoms (k ∷ l ∷ r ∷ []) λ ρ k l r. simp (k, l, r, quote, ρ) (ring _ _ _ tt)

-- atoms may be any terms
entries : (a : ℕ → ℕ → ℤ) (x : ℕ → ℤ) (i j : ℕ) → a i j *ℤ x i *ℤ x j +ℤ a i j *ℤ x j *ℤ x i ≡ pos 2 *ℤ a i j *ℤ (x i *ℤ x j)
entries a x i j = atoms (a i j ∷ x i ∷ x j ∷ []) λ ρ a x y. simp (a, x, y, quote, ρ) (ring _ _ _ tt)

-- Euler: a product of sums of four squares is one
four_squares : (a b c d x y z w : ℤ) →
    (a *ℤ a +ℤ b *ℤ b +ℤ c *ℤ c +ℤ d *ℤ d) *ℤ (x *ℤ x +ℤ y *ℤ y +ℤ z *ℤ z +ℤ w *ℤ w)
    ≡ (a *ℤ x -ℤ b *ℤ y -ℤ c *ℤ z -ℤ d *ℤ w) *ℤ (a *ℤ x -ℤ b *ℤ y -ℤ c *ℤ z -ℤ d *ℤ w)
    +ℤ (a *ℤ y +ℤ b *ℤ x +ℤ c *ℤ w -ℤ d *ℤ z) *ℤ (a *ℤ y +ℤ b *ℤ x +ℤ c *ℤ w -ℤ d *ℤ z)
    +ℤ (a *ℤ z -ℤ b *ℤ w +ℤ c *ℤ x +ℤ d *ℤ y) *ℤ (a *ℤ z -ℤ b *ℤ w +ℤ c *ℤ x +ℤ d *ℤ y)
    +ℤ (a *ℤ w +ℤ b *ℤ z -ℤ c *ℤ y +ℤ d *ℤ x) *ℤ (a *ℤ w +ℤ b *ℤ z -ℤ c *ℤ y +ℤ d *ℤ x)
four_squares a b c d x y z w =
    atoms (a ∷ b ∷ c ∷ d ∷ x ∷ y ∷ z ∷ w ∷ []) λ ρ a b c d x y z w.
    simp (a, b, c, d, x, y, z, w, quote) (ring _ _ _ tt)

-- an equation in hand is used by rewriting
with_hypothesis : (a b : ℤ) → a *ℤ a ≡ b → a *ℤ a *ℤ a *ℤ a ≡ b *ℤ b
with_hypothesis a b h = rw (← h) (atoms (a ∷ []) λ ρ a. simp (a, quote) (ring _ _ _ tt))

-- ---- linear arithmetic: of variables, with the hypotheses before arrows

shifted : (a b c : ℤ) → (a +ℤ pos 3) ≤ℤ b → b ≤ℤ (c -ℤ pos 2 *ℤ a) → (pos 3 *ℤ a) <ℤ c
shifted = diff₃ _ λ p q r s t u. simp diffs (omega arith)

halved : (a b : ℤ) → (pos 2 *ℤ a) ≤ℤ (pos 2 *ℤ b +ℤ pos 1) → a ≤ℤ b
halved = diff₂ _ λ p q r s. simp diffs (omega arith)

no_overflow : (a b : ℤ) → nat_abs a ≤ 4000000000000000 → nat_abs b ≤ 1000000 → mag (a -ℤ pos 1000 *ℤ b) < 9223372036854775808
no_overflow = diff₂ _ λ p q r s. simp diffs (omega arith)

near : (a b c : ℤ) → abs (a -ℤ b) ≤ℤ c → abs a ≤ℤ (abs b +ℤ c)
near = diff₃ _ λ p q r s t u. simp diffs (omega arith)

-- five variables, in two steps
five : (a b c d e : ℤ) → a ≤ℤ b → b ≤ℤ c → c ≤ℤ d → d ≤ℤ e → (a +ℤ b +ℤ c) ≤ℤ (c +ℤ d +ℤ e)
five = diff₂ _ λ p q r s. diff₃ _ λ t u v w x y. simp diffs (omega arith)

-- ---- of any terms, from the hypotheses in scope

chain : (f : ℕ → ℤ) (i : ℕ) → f i ≤ℤ f (i + 1) → f (i + 1) <ℤ f (i + 2) → f i <ℤ f (i + 2)
chain f i h k = omega (arith, orders)

sums : (f : ℕ → ℤ) (i : ℕ) → (f i +ℤ pos 3) ≤ℤ f (i + 1) → f (i + 1) <ℤ (f (i + 2) -ℤ f i) → (f i +ℤ pos 2) <ℤ (f (i + 2) -ℤ f i)
sums f i h k = omega (arith, orders, +_parts (f i) (pos 3), +_parts (f i) (pos 2))

renamed : (f : ℕ → ℤ) (i : ℕ) → f i ≤ℤ f (i + 1) → (f i +ℤ f i) ≤ℤ (pos 2 *ℤ f (i + 1))
renamed f i h =
    as_diff (f i) λ p q e. as_diff (f (i + 1)) λ r s e'.
    simp (e, e', diffs) (omega (arith, simp (e, e', diffs) at h))

-- ---- what is not linear

positive : (a b c : ℤ) → pos 0 ≤ℤ c → pos 0 ≤ℤ (a *ℤ a +ℤ c *ℤ (b *ℤ b) +ℤ pos 3 *ℤ abs a)
positive a b c h = search nonneg

positive_sum : (n : ℕ) (f g : ℕ → ℤ) → ((i : ℕ) → i < n → pos 0 ≤ℤ g i) → pos 0 ≤ℤ sum_below n (λ i. g i *ℤ (f i *ℤ f i))
positive_sum n f g h = search (nonneg, sum_below_nonneg)

-- the difference of the sides is a square
mean : (a b : ℤ) → (pos 2 *ℤ (a *ℤ b)) ≤ℤ (a *ℤ a +ℤ b *ℤ b)
mean a b =
    ≤ℤ_by _ _ ((a -ℤ b) *ℤ (a -ℤ b)) (search nonneg)
    (atoms (a ∷ b ∷ []) λ ρ a b. simp (a, b, quote, ρ) (ring _ _ _ tt))

-- rewriting by an order
weakened : (a b c d e : ℤ) → pos 0 ≤ℤ c → a ≤ℤ b → (c *ℤ b +ℤ e) ≤ℤ d → (c *ℤ a +ℤ e) ≤ℤ d
weakened a b c d e n h k = grw (monotone, *ℤ_monoˡ c a b n h) k

-- ---- sums

apart : (n : ℕ) (f g h : ℕ → ℤ) → sum_below n (λ i. pos 3 *ℤ f i +ℤ g i -ℤ h i) ≡ pos 3 *ℤ sum_below n f +ℤ sum_below n g -ℤ sum_below n h
apart n f g h = simp linear

termwise : (n : ℕ) (w v y : ℕ → ℤ) → sum_below n (λ i. w i *ℤ (v i *ℤ y i) *ℤ (v i *ℤ y i)) ≡ sum_below n (λ i. w i *ℤ v i *ℤ v i *ℤ (y i *ℤ y i))
termwise n w v y =
    sum_below_cong n _ _ λ i l.
    atoms (w i ∷ v i ∷ y i ∷ []) λ ρ w v y. simp (w, v, y, quote) (ring _ _ _ tt)

termwise_≤ : (n : ℕ) (f : ℕ → ℤ) → (pos 2 *ℤ sum_below n f) ≤ℤ sum_below n (λ i. f i *ℤ f i +ℤ pos 1)
termwise_≤ n f =
    rw (← (sum_below-*ˡ n (pos 2) f))
    (sum_below_mono n _ _ λ i l.
    ≤ℤ_by _ _ ((f i -ℤ pos 1) *ℤ (f i -ℤ pos 1)) (search nonneg)
    (atoms (f i ∷ []) λ ρ a. simp (a, quote, ρ) (ring _ _ _ tt)))

-- ---- machine numbers: at a given width the bound of a signed number computes

bits_of_a_sum : (x v : ℤ) → nat_abs x ≤ 4000000000000000000 → nat_abs v ≤ 4000000000000000000 → to_z w64 (of_z w64 (x +ℤ v)) ≡ x +ℤ v
bits_of_a_sum x v h k = read_signed w64 (x +ℤ v) (omega (arith, nat_abs-+ x v))

cast : (x : ℤ) → SFits w32 x → to_z w64 (of_z w64 (to_z w32 (of_z w32 x))) ≡ x
cast x f = cast_read w32 w64 x (omega arith) f
