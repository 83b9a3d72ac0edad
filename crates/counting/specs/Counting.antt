-- How many products the builder forms: of a term that names k choices at most max(k − 2, 0), which is `k - 2` of naturals, and exactly so
-- many where none of its unions is there before; so of all terms at most what these add up to, and exactly that where no two terms share a
-- choice. Where each term names d choices, that is the number of terms times (d − 2).
use Rattle.std.specs.Prelude.{ℕ, zero, suc, ◌+◌, ◌*◌, ◌-◌, ◌^◌, ◌≤◌, ◌<◌, ◌≡◌, cond, List, [], ◌∷◌, ◌++◌, map, T, leb, length}
use Rattle.std.specs.Int.Bits.{bit_or}
use Rattle.integers.specs.Lists.{All}
use Rattle.sets.specs.Sets.{is_member, is_subset}
use Rattle.register.specs.declared.Register.{Register}
use Rattle.register.specs.Register.{mask}
use Rattle.register.specs.Valid.{Valid}
use Rattle.scheme.specs.declared.Scheme.{Scheme}
use Rattle.scheme.specs.Scheme.{max_products, max_variables, variables, Lengths}
use Rattle.scheme.specs.Variables.{E}
use Rattle.builder.specs.Builder.{full, next, choices_of, build_term, built, build}

-- how many choices a mask names, of n choices
abbrev pub named : ℕ → ℕ → ℕ
named n m = length (choices_of n m)

-- the degree of term t: how many choices it names
abbrev pub degree : Register → ℕ → ℕ
degree r t = named r.choices (mask r t)

-- at most m terms, each naming at most d choices
pub record Bounded (m d : ℕ) (r : Register) : Type 0 where
  pub few : r.terms ≤ m
  pub degrees : (t : ℕ) → t < r.terms → degree r t ≤ d

-- two sets that share no choice
abbrev pub Disjoint : ℕ → ℕ → Type 0
Disjoint a b = (i : ℕ) → T (is_member i a) → T (is_member i b) → ⊥

-- no two terms share a choice
abbrev pub NoneShared : Register → Type 0
NoneShared r = (t u : ℕ) → t < u → u < r.terms → Disjoint (mask r t) (mask r u)

-- every term names d choices, and no two terms share one
pub record Apart (d : ℕ) (r : Register) : Type 0 where
  pub degrees : (t : ℕ) → t < r.terms → degree r t ≡ d
  pub disjoint : NoneShared r

-- one pass of the builder over a list of sets: the union of the first and the second, of the third and the fourth, and so on, a single one
-- at the end as it is; and these unions alone

abbrev pub pass : List ℕ → List ℕ
pass [] = []
pass (a ∷ []) = a ∷ []
pass (a ∷ (b ∷ rest)) = bit_or a b ∷ pass rest

abbrev pub pass_unions : List ℕ → List ℕ
pass_unions [] = []
pass_unions (a ∷ []) = []
pass_unions (a ∷ (b ∷ rest)) = bit_or a b ∷ pass_unions rest

-- the unions of the passes while more than 2 sets are left; the first number bounds how many passes there are
unfoldable pub unions_from : ℕ → List ℕ → List ℕ
unions_from zero sets = []
unions_from (suc k) sets = cond (leb (length sets) 2) [] (pass_unions sets ++ unions_from k (pass sets))

-- the unions of a term: the passes begin with a set of one choice for each that it names
abbrev pub term_unions : ℕ → ℕ → List ℕ
term_unions n m = let members = choices_of n m in unions_from (length members) (map (λ i. 2 ^ i) members)

-- none of them is the set of a product that is there
abbrev pub NoUnionThere : ℕ → Scheme → ℕ → Type 0
NoUnionThere n sch m = (v : ℕ) → n ≤ v → v < variables n sch → All (λ u. E n sch v ≡ u → ⊥) (term_unions n m)

-- no product has a set within the mask, as all unions of the term have
abbrev pub NoneWithin : ℕ → Scheme → ℕ → Type 0
NoneWithin n sch m = (v : ℕ) → n ≤ v → v < variables n sch → T (is_subset (E n sch v) m) → ⊥

-- what the terms below t add up to, k − 2 for a term that names k choices
abbrev pub products_below : Register → ℕ → ℕ
products_below r zero = 0
products_below r (suc t) = products_below r t + (degree r t - 2)

-- what m terms of d choices each add up to
abbrev pub most_products : ℕ → ℕ → ℕ
most_products m d = m * (d - 2)

pub record Counting : Type 0 where
  -- of one term, whatever the scheme before it
  pub term_at_most : (n : ℕ) (sch after : Scheme) (m : ℕ) → build_term n sch m ≡ next after → after.products ≤ sch.products + (named n m - 2)
  pub term_exactly : (n : ℕ) (sch after : Scheme) (m : ℕ) → Lengths sch → m < 2 ^ n → NoUnionThere n sch m → build_term n sch m ≡ next after → after.products ≡ sch.products + (named n m - 2)
  pub no_union_there : (n : ℕ) (sch : Scheme) (m : ℕ) → NoneWithin n sch m → NoUnionThere n sch m
  -- a term has room where so many products more are within both limits
  pub term_room : (n : ℕ) (sch : Scheme) (m : ℕ) → sch.products + (named n m - 2) ≤ max_products → variables n sch + (named n m - 2) ≤ max_variables → build_term n sch m ≡ full → ⊥
  -- of all terms
  pub at_most : (r : Register) (sch : Scheme) → build r ≡ built sch → sch.products ≤ products_below r r.terms
  pub exactly : (r : Register) (sch : Scheme) → Valid r → NoneShared r → build r ≡ built sch → sch.products ≡ products_below r r.terms
  -- a scheme is formed where so many products are within both limits
  pub room : (r : Register) → products_below r r.terms ≤ max_products → r.choices + products_below r r.terms ≤ max_variables → (sch : Scheme) × (build r ≡ built sch)
  -- in numbers
  pub bounded : (m d : ℕ) (r : Register) → Bounded m d r → products_below r r.terms ≤ most_products m d
  pub apart : (d : ℕ) (r : Register) → Apart d r → products_below r r.terms ≡ most_products r.terms d
