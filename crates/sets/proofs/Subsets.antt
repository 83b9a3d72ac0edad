-- Subsets: one within another, with one choice more, without one, and from a choice up.
use mathlib.Core.Path.{◌≡◌, refl, sym, ◌∙◌, ap, subst}
use mathlib.Core.Logic.{⊎_elim}
use mathlib.Core.Bool.{Bool, true, false, ◌||◌}
use Prim.Native.Nat.{ℕ, zero, suc, ◌*◌, ◌/◌, ◌%◌, ◌^◌}
use native.Mathlib.Nat.{pow-suc, add-zero}
use native.Mathlib.Omega.{arith}
use lib.Arith.{digits_mod}
use lib.Dec.{T}
use lib.Pow.{pow_pos}
use lib.Bits.{bit_or, and_mod, and_zero_l}
use Rattle.integers.proofs.Lists.{T_or, T_ext, T_true}
use Rattle.sets.specs.Sets.{is_member, is_subset}
use Rattle.sets.proofs.Sets.{member_zero, member_suc, member_empty, member_or, subset_is, subset_members}

pub subset_trans : (a b c : ℕ) → T (is_subset a b) → T (is_subset b c) → T (is_subset a c)
subset_trans a b c t u = (subset_members a c).1 (λ i h. (subset_members b c).0 u i ((subset_members a b).0 t i h))

-- ---- one choice more in a set

-- the only member of 2 ^ k is k
pub member_power : (i k : ℕ) → T (is_member i (2 ^ k)) → i ≡ k
member_power zero zero t = refl
member_power zero (suc k) t = absurd (omega (arith, (member_zero (2 ^ suc k)).0 t, pow-suc 2 k))
member_power (suc i) zero t = absurd (subst T (member_suc i 1 ∙ member_empty i) t)
member_power (suc i) (suc k) t =
    let e : 2 ^ suc k / 2 ≡ 2 ^ k = omega (arith, pow-suc 2 k) in
    ap suc (member_power i k (subst T (member_suc i (2 ^ suc k) ∙ ap (is_member i) e) t))

-- a set without it is within the larger set when it is within the smaller
pub subset_more : (m a k : ℕ) → is_member k m ≡ false → is_subset m (bit_or a (2 ^ k)) ≡ is_subset m a
subset_more m a k e = T_ext _ _ (
  (λ t. (subset_members m a).1 (λ i h.
      ⊎_elim (λ u. u) (λ u. absurd (subst T (ap (λ j. is_member j m) (member_power i k u) ∙ e) h))
      ((T_or (is_member i a) (is_member i (2 ^ k))).0 (subst T (member_or i a (2 ^ k)) ((subset_members m (bit_or a (2 ^ k))).0 t i h))))),
  (λ t. (subset_members m (bit_or a (2 ^ k))).1 (λ i h.
      subst T (sym (member_or i a (2 ^ k))) (left (is_member i a) (is_member i (2 ^ k)) ((subset_members m a).0 t i h)))),
)
  where
    left : (x y : Bool) → T x → T (x || y)
    left true y t = tt
    left false y t = absurd t

-- a set with it is not within one without it
pub subset_without : (m b k : ℕ) → is_member k m ≡ true → is_member k b ≡ false → is_subset m b ≡ false
subset_without m b k e f = T_ext _ _ ((λ t. subst T f ((subset_members m b).0 t k ((T_true (is_member k m)).1 e))), (λ t. absurd t))

-- a set within choices from k up names none below k
pub subset_from : (m a k : ℕ) → T (is_subset m (a * 2 ^ k)) → m % 2 ^ k ≡ 0
subset_from m a k t =
    let z : a * 2 ^ k % 2 ^ k ≡ 0 = ap (λ x. x % 2 ^ k) (sym (add-zero (a * 2 ^ k))) ∙ digits_mod a (pow_pos k) in
    ap (λ x. x % 2 ^ k) (sym ((subset_is m (a * 2 ^ k)).0 t)) ∙ and_mod (a * 2 ^ k) m k ∙ rw z (and_zero_l (m % 2 ^ k))
