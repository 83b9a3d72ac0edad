-- What a term adds to the sum at a partial plan, by the members of sets: the choices below d are undecided, the others decided, fed
-- where they are in the set of those fed.
use mathlib.Core.Path.{◌≡◌, sym, ◌∙◌, ap, subst}
use mathlib.Core.Logic.{◌↔◌, ◌⊎◌, inl, inr, ⊎_elim}
use mathlib.Core.Bool.{Bool, true, false}
use Prim.Native.Nat.{ℕ, ◌*◌, ◌-◌, ◌^◌, ◌≤◌, ◌<◌}
use native.Mathlib.Nat.{mod-eq_of_lt}
use native.Mathlib.Omega.{arith}
use native.Mathlib.Decide.{dec_lt}
use lib.Dec.{T}
use lib.Pow.{pow_pos, pow-lt}
use lib.Bits.{bit_or, and_comm, and_mask, and_shifted, or_shifted}
use lib.IntN.{ℤ, pos}
use Rattle.integers.proofs.Lists.{T_or, T_true, flag}
use Rattle.sets.specs.Sets.{is_member, is_subset}
use Rattle.sets.proofs.Sets.{member_or, member_below, subset_is, subset_members, subset_one}
use Rattle.search.specs.Sum.{possible, negative, term_sum}
use Rattle.search.proofs.Under.{apart}

true_of : (b : Bool) → T b → b ≡ true
true_of b t = (T_true b).0 t

false_of : (b : Bool) → (T b → ⊥) → b ≡ false
false_of b f = flag b (λ e. absurd (f ((T_true b).1 e))) (λ e. e)

-- ---- `fed` as a multiple of 2 ^ d: no choice below d is in it

module _ (d q : ℕ) where
  -- fed choices are decided
  fed_decided : (i : ℕ) → T (is_member i (q * 2 ^ d)) → d ≤ i
  fed_decided i t = go (dec_lt i d)
    where
      go : Dec (i < d) → d ≤ i
      go (yes l) =
          let e = (subset_is (2 ^ i) (q * 2 ^ d)).0 (subst T (sym (subset_one i (q * 2 ^ d))) t) in
          absurd (omega (arith, and_shifted q d (2 ^ i) (pow-lt l), pow_pos i))
      go (no l) = omega arith

  undecided_possible : (i : ℕ) → i < d → T (is_member i (2 ^ d - 1))
  undecided_possible i l = subst T (subset_one i (2 ^ d - 1)) ((subset_is (2 ^ i) (2 ^ d - 1)).1 (and_comm (2 ^ d - 1) (2 ^ i) ∙ and_mask (2 ^ i) d ∙ mod-eq_of_lt (pow-lt l)))

  possible_or : bit_or (q * 2 ^ d) (2 ^ d - 1) ≡ possible d (q * 2 ^ d)
  possible_or = or_shifted q d (2 ^ d - 1) (omega (arith, pow_pos d))

  -- none of its choices is decided unfed
  possible_is : (m : ℕ) → T (is_subset m (possible d (q * 2 ^ d))) ↔ ((i : ℕ) → d ≤ i → T (is_member i m) → T (is_member i (q * 2 ^ d)))
  possible_is m = (
    (λ t i l h. ⊎_elim (λ u. u) (λ u. absurd (omega (arith, member_below d i (2 ^ d - 1) (omega (arith, pow_pos d)) u)))
        ((T_or (is_member i (q * 2 ^ d)) (is_member i (2 ^ d - 1))).0 (subst T (ap (is_member i) (sym possible_or) ∙ member_or i (q * 2 ^ d) (2 ^ d - 1)) ((subset_members m _).0 t i h)))),
    (λ f. (subset_members m _).1 (λ i h. subst T (sym (ap (is_member i) (sym possible_or) ∙ member_or i (q * 2 ^ d) (2 ^ d - 1)))
        ((T_or (is_member i (q * 2 ^ d)) (is_member i (2 ^ d - 1))).1 (go i (dec_lt i d) (λ l. f i l h))))),
  )
    where
      go : (i : ℕ) → Dec (i < d) → (d ≤ i → T (is_member i (q * 2 ^ d))) → T (is_member i (q * 2 ^ d)) ⊎ T (is_member i (2 ^ d - 1))
      go i (yes l) f = inr (undecided_possible i l)
      go i (no l) f = inl (f (omega arith))

  module _ (c : ℤ) (m : ℕ) where
    wholly_fed : ((i : ℕ) → T (is_member i m) → T (is_member i (q * 2 ^ d))) → term_sum c m (q * 2 ^ d) (possible d (q * 2 ^ d)) ≡ c
    wholly_fed f = rw (true_of (is_subset m (q * 2 ^ d)) ((subset_members m (q * 2 ^ d)).1 f))

    undecided : (i : ℕ) → i < d → T (is_member i m) → ((j : ℕ) → d ≤ j → T (is_member j m) → T (is_member j (q * 2 ^ d))) → term_sum c m (q * 2 ^ d) (possible d (q * 2 ^ d)) ≡ negative c
    undecided i l h f =
        rw (false_of (is_subset m (q * 2 ^ d)) (λ t. omega (arith, fed_decided i ((subset_members m (q * 2 ^ d)).0 t i h))), true_of (is_subset m (possible d (q * 2 ^ d))) ((possible_is m).1 f))

    unfed : (i : ℕ) → d ≤ i → T (is_member i m) → (T (is_member i (q * 2 ^ d)) → ⊥) → term_sum c m (q * 2 ^ d) (possible d (q * 2 ^ d)) ≡ pos 0
    unfed i l h f =
        rw (false_of (is_subset m (q * 2 ^ d)) (λ t. f ((subset_members m (q * 2 ^ d)).0 t i h)), false_of (is_subset m (possible d (q * 2 ^ d))) (λ t. f ((possible_is m).0 t i l h)))

-- ---- any set of choices from d up

module _ (d fed : ℕ) (none : (i : ℕ) → i < d → is_member i fed ≡ false) (c : ℤ) (m : ℕ) where
  abbrev block : ℕ
  block = (apart d fed fed none (λ i l. λ j. is_member i fed)).block

  is : fed ≡ block * 2 ^ d
  is = (apart d fed fed none (λ i l. λ j. is_member i fed)).fed_is

  pub term_fed : ((i : ℕ) → T (is_member i m) → T (is_member i fed)) → term_sum c m fed (possible d fed) ≡ c
  term_fed = subst (λ fed. ((i : ℕ) → T (is_member i m) → T (is_member i fed)) → term_sum c m fed (possible d fed) ≡ c) (sym is) (wholly_fed d block c m)

  pub term_undecided : (i : ℕ) → i < d → T (is_member i m) → ((j : ℕ) → d ≤ j → T (is_member j m) → T (is_member j fed)) → term_sum c m fed (possible d fed) ≡ negative c
  term_undecided i l h = subst (λ fed. ((j : ℕ) → d ≤ j → T (is_member j m) → T (is_member j fed)) → term_sum c m fed (possible d fed) ≡ negative c) (sym is) (undecided d block c m i l h)

  pub term_unfed : (i : ℕ) → d ≤ i → T (is_member i m) → (T (is_member i fed) → ⊥) → term_sum c m fed (possible d fed) ≡ pos 0
  term_unfed i l h = subst (λ fed. (T (is_member i fed) → ⊥) → term_sum c m fed (possible d fed) ≡ pos 0) (sym is) (unfed d block c m i l h)
