-- What the checks of a command say of its operands: none fails just where these are as they should be. And by the array of sets.
use mathlib.Core.Path.{◌≡◌}
use mathlib.Core.Logic.{◌↔◌}
use mathlib.Core.Bool.{true, false, ◌||◌}
use mathlib.Core.List.{List}
use Prim.Native.Nat.{ℕ, ◌≤◌, ◌<◌}
use native.Mathlib.Omega.{arith}
use lib.Dec.{eqb, ltb, leb}
use borrow.Author.Tests.{eqb-true, eqb-false, ne_eqb, ltb-false, leb-false, not-false, lt-leb, le-ltb, eq-eqb}
use Rattle.integers.proofs.Lists.{or_none, flag}
use Rattle.wire.specs.Checks.{refusal}
use Rattle.wire.proofs.Checks.{refusal_none, none_refusal}
use Rattle.register.specs.declared.Register.{Register}
use Rattle.register.specs.Register.{mask}
use Rattle.scheme.specs.declared.Scheme.{Scheme}
use Rattle.scheme.specs.Scheme.{max_products, max_variables, max_factor, variables}
use Rattle.scheme.specs.Variables.{E}
use Rattle.scheme.specs.Valid.{Factor, Product, Split}
use Rattle.scheme.specs.Sets.{SetsBelow, none_is, union_in}
use Rattle.scheme.specs.Format.{factor_checks, union_of, is_new, unnamed, product_checks, split_checks, end_checks}
use Rattle.scheme.proofs.Sets.{union_in_lem, new_in, new_at, at_new}

-- ---- a factor

pub factor_iff : (factor : ℕ) → (refusal (factor_checks factor) ≡ 0) ↔ Factor factor
unfolding factor_checks
factor_iff factor = (
  (λ e. let q = or_none (eqb factor 0) (ltb max_factor factor) (refusal_none (factor_checks factor) (omega arith) e).0 in record { positive = let d = eqb-false factor 0 q.0 in omega arith; within = ltb-false max_factor factor q.1 }),
  λ f. none_refusal (factor_checks factor) (rw (ne_eqb factor 0 (omega (arith, f.positive)), le-ltb max_factor factor f.within), tt),
)

-- ---- a product of l and r after what has been read

-- there may be one more product, and one more variable
pub room_left : (products k : ℕ) → (leb max_products products || leb max_variables k) ≡ false → (products < max_products) × (k < max_variables)
room_left products k e = let q = or_none (leb max_products products) (leb max_variables k) e in (leb-false max_products products q.0, leb-false max_variables k q.1)

pub record NextProduct (n : ℕ) (s : Scheme) (l r : ℕ) : Type 0 where
  pub few : s.products < max_products
  pub room : variables n s < max_variables
  pub fits : Product (variables n s) l r (union_of n s l r) (E n s)

pub product_iff : (n : ℕ) (s : Scheme) (l r : ℕ) → (refusal (product_checks s.products (variables n s) l r (is_new n s (union_of n s l r))) ≡ 0) ↔ NextProduct n s l r
unfolding product_checks refusal
product_iff n s l r = (to, from)
  where
    to : refusal (product_checks s.products (variables n s) l r (is_new n s (union_of n s l r))) ≡ 0 → NextProduct n s l r
    to e =
        let p = refusal_none (product_checks s.products (variables n s) l r (is_new n s (union_of n s l r))) (omega arith) e in
        let (few, room) = room_left s.products (variables n s) p.0 in
        record {
          few = few;
          room = room;
          fits = record {
            ordered = leb-false r l p.1.1.0;
            falls = leb-false (variables n s) r (or_none (leb (variables n s) l) (leb (variables n s) r) p.1.0).1;
            new = new_at n s (union_of n s l r) (not-false (is_new n s (union_of n s l r)) p.1.1.1.0);
          };
        }

    from : NextProduct n s l r → refusal (product_checks s.products (variables n s) l r (is_new n s (union_of n s l r))) ≡ 0
    from p =
        let q = p.fits in
        rw (lt-leb max_products s.products p.few, lt-leb max_variables (variables n s) p.room, lt-leb (variables n s) l (omega (arith, q.ordered, q.falls)), lt-leb (variables n s) r q.falls, lt-leb r l q.ordered, at_new n s (union_of n s l r) q.new)

-- ---- a split into l and r

pub record NextSplit (reg : Register) (s : Scheme) (l r : ℕ) : Type 0 where
  pub few : s.splits < reg.terms
  pub fits : Split (variables reg.choices s) l r (union_of reg.choices s l r) (mask reg s.splits)

pub split_iff : (reg : Register) (s : Scheme) (l r : ℕ) → (refusal (split_checks reg.terms s.splits (variables reg.choices s) l r (union_of reg.choices s l r) (mask reg s.splits)) ≡ 0) ↔ NextSplit reg s l r
unfolding split_checks refusal
split_iff reg s l r = (to, from)
  where
    to : refusal (split_checks reg.terms s.splits (variables reg.choices s) l r (union_of reg.choices s l r) (mask reg s.splits)) ≡ 0 → NextSplit reg s l r
    to e =
        let N = variables reg.choices s in
        let union = union_of reg.choices s l r in
        let p = refusal_none (split_checks reg.terms s.splits N l r union (mask reg s.splits)) (omega arith) e in
        record {
          few = leb-false reg.terms s.splits p.0;
          fits = record { ordered = ltb-false r l p.1.1.0; there = leb-false N r (or_none (leb N l) (leb N r) p.1.0).1; fits = eqb-true union (mask reg s.splits) (not-false _ p.1.1.1.0) };
        }

    from : NextSplit reg s l r → refusal (split_checks reg.terms s.splits (variables reg.choices s) l r (union_of reg.choices s l r) (mask reg s.splits)) ≡ 0
    from p =
        let q = p.fits in
        rw (lt-leb reg.terms s.splits p.few, lt-leb (variables reg.choices s) l (omega (arith, q.ordered, q.there)), lt-leb (variables reg.choices s) r q.there, le-ltb r l q.ordered, eq-eqb _ _ q.fits)

-- ---- the end

pub end_iff : (terms splits : ℕ) → (refusal (end_checks terms splits) ≡ 0) ↔ (terms ≤ splits)
unfolding end_checks refusal
end_iff terms splits = ((λ e. ltb-false splits terms (refusal_none (end_checks terms splits) (omega arith) e).0), λ l. rw (le-ltb splits terms l))

-- ---- the sets are looked at only where both variables are there: so the array of sets will do

named : {G : Type 0} (N l r : ℕ) → (unnamed N l r ≡ true → G) → (l < N → r < N → G) → G
named N l r t f = flag (unnamed N l r) t (λ e. let q = or_none _ _ e in f (leb-false N l q.0) (leb-false N r q.1))

module _ (n : ℕ) (s : Scheme) (sets : List ℕ) (h : SetsBelow n s (variables n s) sets) (l r : ℕ) where
  pub product_in : refusal (product_checks s.products (variables n s) l r (none_is sets (variables n s) (union_in sets l r))) ≡ refusal (product_checks s.products (variables n s) l r (is_new n s (union_of n s l r)))
  unfolding product_checks refusal
  product_in = named (variables n s) l r (λ t. rw t) (λ a b. rw (union_in_lem h l r a b, new_in n s sets h (union_of n s l r)))

  pub split_in : (terms splits mask : ℕ) → refusal (split_checks terms splits (variables n s) l r (union_in sets l r) mask) ≡ refusal (split_checks terms splits (variables n s) l r (union_of n s l r) mask)
  unfolding split_checks refusal
  split_in terms splits mask = named (variables n s) l r (λ t. rw t) (λ a b. rw (union_in_lem h l r a b))
