-- What the code is lent of a register, the lists that it keeps, how the sum follows from choice to choice, and where it stops.
use Rattle.std.specs.Prelude.{ℕ, ◌+◌, ◌*◌, ◌%◌, ◌^◌, ◌≤◌, ◌<◌, ◌≡◌, Bool, true, false, cond, ◌&&◌, ◌||◌, List, eqb, get_or, ℤ, pos, negsuc, nat_abs, ◌+ℤ◌, Option, Some, None}
use Rattle.std.specs.Int.Signed.{lt_z, le_z}
use Rattle.integers.specs.Sum.{sum_below}
use Rattle.sets.specs.Sets.{is_member, is_subset}
use Rattle.register.specs.Limits.{max_base, max_choices, max_terms, max_coefficient}
use Rattle.register.specs.declared.Register.{Register}
use Rattle.search.specs.declared.lists.Change.{Change}
use Rattle.search.specs.declared.Met.{Met}
use Rattle.search.specs.declared.Walked.{Walked}
use Rattle.search.specs.Sum.{possible, negative, term_sum}
use Rattle.search.specs.Walk.{Best}

-- ---- the terms of a register

pub record Terms : Type 0 where
  pub count : ℕ
  pub masks : List ℕ
  pub coefficients : List ℤ

abbrev pub terms_of : ℕ → List ℕ → List ℤ → Terms
terms_of count masks coefficients = record { count = count; masks = masks; coefficients = coefficients }

-- of a register
abbrev pub terms_in : Register → Terms
terms_in r = terms_of r.terms r.masks r.coefficients

abbrev pub mask_of : Terms → ℕ → ℕ
mask_of r t = get_or r.masks t 0

abbrev pub coefficient_of : Terms → ℕ → ℤ
coefficient_of r t = get_or r.coefficients t (pos 0)

-- within the limits
pub record Small (r : Terms) : Type 0 where
  pub count_within : r.count ≤ max_terms
  pub coefficients_within : (t : ℕ) → nat_abs (coefficient_of r t) ≤ max_coefficient

-- the base cost and what the first i terms add, by the fed choices and those not decided unfed
unfoldable pub sum_to : ℤ → Terms → (i fed possible : ℕ) → ℤ
sum_to base r i fed possible = base +ℤ sum_below i (λ t. term_sum (coefficient_of r t) (mask_of r t) fed possible)

-- the sum at a partial plan
abbrev pub lent_sum : ℤ → Terms → (d fed : ℕ) → ℤ
lent_sum base r d fed = sum_to base r r.count fed (possible d fed)

-- ---- for each choice a list of terms, one after the other in as many places as there can be terms

abbrev pub places : ℕ
places = max_choices * max_terms

-- deciding choice k can change what a term adds: it names k, and its coefficient is negative or it names no lower choice
unfoldable pub is_listed : ℕ → ℕ → ℤ → Bool
is_listed k m c = is_member k m && (lt_z c (pos 0) || eqb (m % 2 ^ k) 0)

-- of the first terms those that a test takes: their masks and coefficients stand in so many places from one on, so that any sum
-- over these places is one over the terms, in which a term that is not taken counts 0
pub record Listed (takes : ℕ → Bool) (r : Terms) (terms from : ℕ) (masks : List ℕ) (coefficients : List ℤ) (count : ℕ) : Type 0 where
  pub few : count ≤ terms
  pub small : (j : ℕ) → j < count → nat_abs (get_or coefficients (from + j) (pos 0)) ≤ max_coefficient
  pub sums : (f : ℤ → ℕ → ℤ) → sum_below count (λ j. f (get_or coefficients (from + j) (pos 0)) (get_or masks (from + j) 0))
      ≡ sum_below terms (λ t. cond (takes t) (f (coefficient_of r t) (mask_of r t)) (pos 0))

-- under choice k
abbrev pub ListedUnder : Terms → (terms k : ℕ) → List ℕ → List ℤ → (count : ℕ) → Type 0
ListedUnder r terms k masks coefficients count = Listed (λ t. is_listed k (mask_of r t) (coefficient_of r t)) r terms (k * max_terms) masks coefficients count

-- under each choice below n
abbrev pub AllListed : Terms → (n : ℕ) → List ℕ → List ℤ → (counts : List ℕ) → Type 0
AllListed r n masks coefficients counts = (k : ℕ) → k < n → ListedUnder r r.count k masks coefficients (get_or counts k 0)

-- the places before one are as they were
abbrev pub Kept : {A : Type 0} → A → ℕ → (before after : List A) → Type 0
Kept d from before after = (p : ℕ) → p < from → get_or after p d ≡ get_or before p d

-- ---- what the sum loses when a choice is decided unfed, and gains when it is decided fed

-- a coefficient that is positive, else 0
abbrev pub positive : ℤ → ℤ
positive (pos c) = pos c
positive (negsuc c) = pos 0

-- unfed: a negative coefficient no longer counts, where no choice of the term was decided unfed before
abbrev pub term_lost : ℤ → ℕ → (possible : ℕ) → ℤ
term_lost c m possible = cond (is_subset m possible) (negative c) (pos 0)

-- fed: a positive coefficient counts, where all choices of the term are then decided fed
abbrev pub term_gained : ℤ → ℕ → (fed : ℕ) → ℤ
term_gained c m fed = cond (is_subset m fed) (positive c) (pos 0)

-- by the terms in the first j places from one on, where a term adds so much by its coefficient, its mask and a set of choices
unfoldable pub change_to : (ℤ → ℕ → ℕ → ℤ) → List ℕ → List ℤ → (from set j : ℕ) → ℤ
change_to adds masks coefficients from set j = sum_below j (λ i. adds (get_or coefficients (from + i) (pos 0)) (get_or masks (from + i) 0) set)

-- by the choices possible before the choice is decided, and those fed when it is decided fed
abbrev pub change_of : List ℕ → List ℤ → (from count possible fed : ℕ) → Change
change_of masks coefficients from count possible fed = record {
  lost = change_to term_lost masks coefficients from possible count;
  gained = change_to term_gained masks coefficients from fed count;
}

-- ---- the walk

-- what the code has at a partial plan with d choices undecided: its sum, of terms within the limits that are listed
pub record At (masks : List ℕ) (coefficients : List ℤ) (counts : List ℕ) (d fed : ℕ) (s : ℤ) : Type 0 where
  pub base : ℤ
  pub base_within : nat_abs base ≤ max_base
  pub terms : Terms
  pub small : Small terms
  pub listed : AllListed terms d masks coefficients counts
  pub few : d ≤ max_choices
  -- no fed choice is undecided, and none is past the last
  pub block : ℕ
  pub aligned : fed ≡ block * 2 ^ d
  pub inside : fed + 2 ^ d ≤ 2 ^ max_choices
  pub sum_is : s ≡ lent_sum base terms d fed

-- what the code keeps of a walk: the best plan with its cost, where a full plan that fits has been met, and the visits
abbrev pub walked_of : Best → Walked
walked_of w = record { best = cond w.met (Some (record { plan = w.plan; cost = w.cost })) None; visits = w.visits }

-- the test for leaving, by what the code keeps
abbrev pub is_left_by : Option Met → ℤ → Bool
is_left_by None s = false
is_left_by (Some best) s = le_z best.cost s

-- what the code has come to, where the walk w may pass the limit, and whether it is not refused: w itself, or the refusal with more
-- visits than the limit, by one
pub record UpTo (limit : ℕ) (w : Best) (walked : Walked) (ok : Bool) : Type 0 where
  pub same : w.visits ≤ limit → (walked ≡ walked_of w) × (ok ≡ true)
  pub passed : limit < w.visits → (ok ≡ false) × (limit < walked.visits)
  pub stops : walked.visits ≤ limit + 1
