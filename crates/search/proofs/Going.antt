-- What the code has at a partial plan, with one more choice decided.
use mathlib.Core.Path.{◌≡◌, sym, ◌∙◌, ap, ap₂}
use mathlib.Core.List.{List}
use Prim.Native.Nat.{ℕ, suc, ◌+◌, ◌*◌, ◌-◌, ◌%◌, ◌^◌, ◌≤◌}
use native.Mathlib.Nat.{pow-suc, le_refl}
use native.Mathlib.Omega.{arith}
use lib.Pow.{pow_pos, pow_mono}
use lib.ListN.{get_or}
use lib.IntN.{ℤ, nat_abs, ◌+ℤ◌, ◌-ℤ◌}
use mir.Syntax.{w32, w64}
use mir.Val.{SFits, to_z, of_z}
use mir.Facts.{to_z-of_z}
use Rattle.integers.proofs.Machine.{fits_signed, read_signed, one_shifted}
use Rattle.integers.proofs.Diff.{diff₃, diffs}
use Rattle.register.specs.Limits.{max_base, max_choices, max_terms, max_coefficient}
use Rattle.search.specs.declared.lists.Change.{Change}
use Rattle.search.specs.Sum.{possible}
use Rattle.search.specs.Lent.{Terms, Small, sum_to, lent_sum, AllListed, term_lost, term_gained, change_to, change_of, At}
use Rattle.search.proofs.Sums.{sum_to_small, change_to_small, lost_small, gained_small}
use Rattle.search.proofs.Deciding.{listed_sum, unfed_sum, fed_sum}

-- a power of 2 as the code has it
pub shifted : (n : ℕ) → n ≤ max_choices → 1 * 2 ^ n % 18446744073709551616 ≡ 2 ^ n
shifted n l = sym (one_shifted w64 n (omega arith))

-- the sum is never large
pub at_small : {masks : List ℕ} {coefficients : List ℤ} {counts : List ℕ} {d fed : ℕ} {s : ℤ} → At masks coefficients counts d fed s → nat_abs s ≤ max_base + max_terms * max_coefficient
at_small {masks} {coefficients} {counts} {d} {fed} a =
    rw a.sum_is (sum_to_small a.base a.terms fed (possible d fed) a.base_within a.small a.terms.count (le_refl _))

-- another name of the sum
abbrev pub with_sum : {masks : List ℕ} {coefficients : List ℤ} {counts : List ℕ} {d fed : ℕ} {s s' : ℤ} → At masks coefficients counts d fed s → s' ≡ s → At masks coefficients counts d fed s'
with_sum a e = record {
  base = a.base;
  base_within = a.base_within;
  terms = a.terms;
  small = a.small;
  listed = a.listed;
  few = a.few;
  inside = a.inside;
  block = a.block;
  aligned = a.aligned;
  sum_is = e ∙ a.sum_is;
}

-- choice n − 1, the highest of n undecided ones
pub halves : (n : ℕ) → 1 ≤ n → (suc (n - 1) ≡ n) × (2 ^ n ≡ 2 ^ (n - 1) + 2 ^ (n - 1))
halves n l =
    let e : suc (n - 1) ≡ n = omega arith in
    (e, sym (ap (λ k. 2 ^ k) e) ∙ omega (arith, pow-suc 2 (n - 1)))

module _ {masks : List ℕ} {coefficients : List ℤ} {counts : List ℕ} {n fed : ℕ} {s : ℤ} (a : At masks coefficients counts n fed s) (l : 1 ≤ n) where
  abbrev pub k : ℕ
  k = n - 1

  -- the sum at a partial plan
  abbrev pub S : ℕ → ℕ → ℤ
  S = lent_sum a.base a.terms

  abbrev pub q : ℕ
  q = a.block

  pub power : 2 ^ suc k ≡ 2 ^ k + 2 ^ k
  power = omega (arith, pow-suc 2 k)

  pub fed_is : fed ≡ q * 2 ^ suc k
  fed_is = rw (halves n l).0 a.aligned

  pub open_is : fed + 2 ^ k + (2 ^ k - 1) ≡ possible (suc k) (q * 2 ^ suc k)
  open_is = omega (arith, fed_is, power, pow_pos k)

  pub sum_is : s ≡ S (suc k) (q * 2 ^ suc k)
  sum_is = a.sum_is ∙ rw ((halves n l).0, ← a.aligned)

  pub lost_is : change_to term_lost masks coefficients (k * max_terms) (fed + 2 ^ k + (2 ^ k - 1)) (get_or counts k 0)
      ≡ listed_sum k q a.base a.terms term_lost (possible (suc k) (q * 2 ^ suc k))
  unfolding change_to
  lost_is = rw open_is ((a.listed k (omega arith)).sums (λ c m. term_lost c m (possible (suc k) (q * 2 ^ suc k))))

  pub gained_is : change_to term_gained masks coefficients (k * max_terms) (fed + 2 ^ k) (get_or counts k 0)
      ≡ listed_sum k q a.base a.terms term_gained (q * 2 ^ suc k + 2 ^ k)
  unfolding change_to
  gained_is =
      ap (λ x. change_to term_gained masks coefficients (k * max_terms) (x + 2 ^ k) (get_or counts k 0)) fed_is
      ∙ (a.listed k (omega arith)).sums (λ c m. term_gained c m (q * 2 ^ suc k + 2 ^ k))

  pub moved : (x y z : ℤ) → x +ℤ y ≡ z → z -ℤ y ≡ x
  moved = diff₃ _ λ p q r s t u. simp diffs (omega arith)

  -- where the choice is decided
  abbrev decided : {fed' : ℕ} {s' : ℤ} (block : ℕ) → fed' ≡ block * 2 ^ k → fed' + 2 ^ k ≤ fed + 2 ^ n → s' ≡ S k fed' → At masks coefficients counts k fed' s'
  decided block aligned within e = record {
    base = a.base;
    base_within = a.base_within;
    terms = a.terms;
    small = a.small;
    listed = λ i h. a.listed i (omega arith);
    few = omega (arith, a.few);
    block = block;
    aligned = aligned;
    inside = omega (arith, within, a.inside);
    sum_is = e;
  }

  -- unfed

  abbrev pub unfed_at : At masks coefficients counts k fed (s -ℤ change_to term_lost masks coefficients (k * max_terms) (fed + 2 ^ k + (2 ^ k - 1)) (get_or counts k 0))
  unfed_at =
      decided (2 * q) (fed_is ∙ rw (pow-suc 2 k) (omega arith)) (omega (arith, (halves n l).1))
      (ap (λ x. x -ℤ change_to term_lost masks coefficients (k * max_terms) (fed + 2 ^ k + (2 ^ k - 1)) (get_or counts k 0)) sum_is ∙ ap (λ y. S (suc k) (q * 2 ^ suc k) -ℤ y) lost_is ∙ moved _ _ _ (unfed_sum k q a.base a.terms) ∙ ap (S k) (sym fed_is))

  -- fed

  abbrev pub fed_at : At masks coefficients counts k (fed + 2 ^ k) (s +ℤ change_to term_gained masks coefficients (k * max_terms) (fed + 2 ^ k) (get_or counts k 0))
  fed_at =
      decided (2 * q + 1) (ap (λ x. x + 2 ^ k) fed_is ∙ rw (pow-suc 2 k) (omega arith)) (omega (arith, (halves n l).1))
      (ap (λ x. x +ℤ change_to term_gained masks coefficients (k * max_terms) (fed + 2 ^ k) (get_or counts k 0)) sum_is ∙ ap (λ y. S (suc k) (q * 2 ^ suc k) +ℤ y) gained_is ∙ fed_sum k q a.base a.terms ∙ ap (λ x. S k (x + 2 ^ k)) (sym fed_is))

  -- no more terms than there are
  pub count_few : get_or counts k 0 ≤ max_terms
  count_few = omega (arith, (a.listed k (omega arith)).few, a.small.count_within)

  -- a change is a number of 32 bits, and so one of 64
  module _ (adds : ℤ → ℕ → ℕ → ℤ) (small : (c : ℤ) (m s : ℕ) → nat_abs (adds c m s) ≤ nat_abs c) (set : ℕ) where
    abbrev pub changed : ℤ
    changed = change_to adds masks coefficients (k * max_terms) set (get_or counts k 0)

    change_small : nat_abs changed ≤ max_coefficient * max_terms
    change_small = omega (arith, change_to_small adds masks coefficients (k * max_terms) set small (get_or counts k 0) (a.listed k (omega arith)).small (get_or counts k 0) (le_refl _), count_few)

    pub change_fits : SFits w32 changed
    change_fits = fits_signed w32 changed (omega (arith, change_small))

    pub change_read : to_z w64 (of_z w64 changed) ≡ changed
    change_read = read_signed w64 changed (omega (arith, change_small))

-- ---- as the code computes it: the change, and the sum with it, as bits

pub own : {masks : List ℕ} {coefficients : List ℤ} {counts : List ℕ} {d fed : ℕ} {s : ℤ} → At masks coefficients counts d fed s → to_z w64 (of_z w64 s) ≡ s
own {s = s} a = read_signed w64 s (omega (arith, at_small a))

module _ {masks : List ℕ} {coefficients : List ℤ} {counts : List ℕ} {n fed : ℕ} {s : ℤ} (a : At masks coefficients counts n fed s) (l : 1 ≤ n) where
  abbrev pub lost : ℤ
  lost = change_to term_lost masks coefficients ((n - 1) * max_terms) (fed + 2 ^ (n - 1) + (2 ^ (n - 1) - 1)) (get_or counts (n - 1) 0)

  abbrev pub gained : ℤ
  gained = change_to term_gained masks coefficients ((n - 1) * max_terms) (fed + 2 ^ (n - 1)) (get_or counts (n - 1) 0)

  -- the numbers of 64 bits that the change gives
  module _ (change : Change) (e : change ≡ change_of masks coefficients ((n - 1) * max_terms) (get_or counts (n - 1) 0) (fed + 2 ^ (n - 1) + (2 ^ (n - 1) - 1)) (fed + 2 ^ (n - 1))) {x : ℤ} where
    pub lost_said : x ≡ to_z w32 (of_z w32 change.lost) → x ≡ lost
    lost_said f = f ∙ ap (λ c. to_z w32 (of_z w32 c.lost)) e ∙ to_z-of_z (change_fits a l term_lost lost_small (fed + 2 ^ (n - 1) + (2 ^ (n - 1) - 1)))

    pub gained_said : x ≡ to_z w32 (of_z w32 change.gained) → x ≡ gained
    gained_said f = f ∙ ap (λ c. to_z w32 (of_z w32 c.gained)) e ∙ to_z-of_z (change_fits a l term_gained gained_small (fed + 2 ^ (n - 1)))

  -- the sums of both partial plans

  module _ {x : ℤ} (f : x ≡ lost) where
    pub unfed_is : to_z w64 (of_z w64 s) -ℤ to_z w64 (of_z w64 x) ≡ s -ℤ lost
    unfed_is = ap₂ ◌-ℤ◌ (own a) (ap (λ x. to_z w64 (of_z w64 x)) f ∙ change_read a l term_lost lost_small (fed + 2 ^ (n - 1) + (2 ^ (n - 1) - 1)))

    pub unfed_fits : SFits w64 (to_z w64 (of_z w64 s) -ℤ to_z w64 (of_z w64 x))
    unfed_fits = rw unfed_is (fits_signed w64 (s -ℤ lost) (omega (arith, at_small (unfed_at a l))))

    abbrev pub unfed_next : At masks coefficients counts (n - 1) fed (to_z w64 (of_z w64 (to_z w64 (of_z w64 s) -ℤ to_z w64 (of_z w64 x))))
    unfed_next = with_sum (unfed_at a l) (to_z-of_z unfed_fits ∙ unfed_is)

  module _ {x : ℤ} (f : x ≡ gained) where
    pub fed_sum_is : to_z w64 (of_z w64 s) +ℤ to_z w64 (of_z w64 x) ≡ s +ℤ gained
    fed_sum_is = ap₂ ◌+ℤ◌ (own a) (ap (λ x. to_z w64 (of_z w64 x)) f ∙ change_read a l term_gained gained_small (fed + 2 ^ (n - 1)))

    pub fed_fits : SFits w64 (to_z w64 (of_z w64 s) +ℤ to_z w64 (of_z w64 x))
    fed_fits = rw fed_sum_is (fits_signed w64 (s +ℤ gained) (omega (arith, at_small (fed_at a l))))

    abbrev pub fed_next : At masks coefficients counts (n - 1) (fed + 2 ^ (n - 1)) (to_z w64 (of_z w64 (to_z w64 (of_z w64 s) +ℤ to_z w64 (of_z w64 x))))
    fed_next = with_sum (fed_at a l) (to_z-of_z fed_fits ∙ fed_sum_is)

-- ---- the empty partial plan

pub empty_sum : (base : ℤ) (r : Terms) (n : ℕ) → sum_to base r r.count 0 (2 ^ n - 1) ≡ lent_sum base r n 0
empty_sum base r n =
    let e : 2 ^ n - 1 ≡ 0 + (2 ^ n - 1) = omega arith in
    ap (sum_to base r r.count 0) e

pub empty_inside : (n : ℕ) → n ≤ max_choices → 0 + 2 ^ n ≤ 2 ^ max_choices
empty_inside n l = omega (arith, pow_mono l)

pub empty_aligned : (n : ℕ) → 0 ≡ 0 * 2 ^ n
empty_aligned n = omega arith

abbrev pub empty_at : {masks : List ℕ} {coefficients : List ℤ} {counts : List ℕ} {n : ℕ} {s : ℤ} (base : ℤ) (r : Terms) → nat_abs base ≤ max_base → Small r →
    AllListed r n masks coefficients counts → n ≤ max_choices → s ≡ lent_sum base r n 0 → At masks coefficients counts n 0 s
empty_at {n = n} base r within small listed few e = record {
  base = base;
  base_within = within;
  terms = r;
  small = small;
  listed = listed;
  few = few;
  block = 0;
  aligned = empty_aligned n;
  inside = empty_inside n few;
  sum_is = e;
}
