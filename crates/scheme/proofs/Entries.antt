-- A scheme with one product or one split more, and with one less: its entries, its sets, and that it stays within its limits.
use Prim.Native.Nat.{ℕ, suc, ◌+◌, ◌-◌, ◌<◌, ◌≤◌}
use native.Mathlib.Nat.{add-suc}
use native.Mathlib.Omega.{arith}
use mathlib.Core.Path.{◌≡◌, refl, sym, ◌∙◌, ap, ap₂, subst}
use mathlib.Core.Logic.{⊎_elim}
use mathlib.Core.List.{List}
use lib.ListN.{set, replicate}
use lib.Seq.{get_or-set_same}
use lib.Bits.{bit_or}
use Rattle.integers.specs.Lists.{Column}
use Rattle.integers.proofs.Entries.{below_or_last, kept_set, column_none, column_empty, column_more, column_less, set_back}
use Rattle.register.specs.declared.Register.{Register}
use Rattle.register.specs.Limits.{max_choices, max_terms}
use Rattle.register.specs.Register.{mask}
use Rattle.scheme.specs.declared.Scheme.{Scheme}
use Rattle.scheme.specs.Scheme.{max_variables, max_products, product_left, product_right, left, right, variables, split_left, split_right, fresh, initial, Lengths, set_products, set_splits, with_factor, with_product, with_split}
use Rattle.scheme.specs.Variables.{E}
use Rattle.scheme.specs.Format.{union_of}
use Rattle.scheme.specs.Sets.{SetsBelow, union_in}
use Rattle.scheme.specs.Valid.{Factor, Product, ProductOf, Split, SplitOf, Within}
use Rattle.scheme.proofs.Sets.{Agree, E_same, E_next, left_at, right_at, sets_same, sets_product}
use Rattle.scheme.proofs.Passes.{NextProduct, NextSplit}

pub initial_within : (reg : Register) → reg.choices ≤ max_choices → Within reg initial
unfolding fresh
initial_within reg few = record {
  factor = record { positive = omega arith; within = omega arith };
  lefts = column_none max_products 0;
  rights = column_none max_products 0;
  products_within = omega arith;
  variables_within = omega (arith, few);
  products = λ k l m. absurd (omega arith);
  split_lefts = column_none max_terms 0;
  split_rights = column_none max_terms 0;
  splits_within = omega arith;
  splits = λ t l. absurd (omega arith);
}

pub lengths_within : {reg : Register} {s : Scheme} → Within reg s → Lengths s
lengths_within w = record { lefts = w.lefts.room; rights = w.rights.room; split_lefts = w.split_lefts.room; split_rights = w.split_rights.room }

module _ (s : Scheme) where
  same_factor : {f : ℕ} → f ≡ s.factor → with_factor s f ≡ s
  same_factor a = rw a

  same_products : {k : ℕ} {lefts rights : List ℕ} → k ≡ s.products → lefts ≡ s.lefts → rights ≡ s.rights → set_products s k lefts rights ≡ s
  same_products a b c = rw (a, b, c)

  same_splits : {t : ℕ} {lefts rights : List ℕ} → t ≡ s.splits → lefts ≡ s.split_lefts → rights ≡ s.split_rights → set_splits s t lefts rights ≡ s
  same_splits a b c = rw (a, b, c)

  -- a scheme with neither, and with factor 1, is the initial one
  pub initial_back : {reg : Register} → Within reg s → s.factor ≡ 1 → s.products ≡ 0 → s.splits ≡ 0 → initial ≡ s
  unfolding fresh
  initial_back w f p t =
      ap (λ x. set_splits (set_products x 0 (replicate max_products 0) (replicate max_products 0)) 0 (replicate max_terms 0) (replicate max_terms 0)) (same_factor (sym f))
      ∙ ap (λ x. set_splits x 0 (replicate max_terms 0) (replicate max_terms 0)) (same_products (sym p) (column_empty max_products _ 0 _ p w.lefts) (column_empty max_products _ 0 _ p w.rights))
      ∙ same_splits (sym t) (column_empty max_terms _ 0 _ t w.split_lefts) (column_empty max_terms _ 0 _ t w.split_rights)

-- with a factor, where there is neither
pub factor_more : (reg : Register) (s : Scheme) (f : ℕ) → Within reg s → s.products ≡ 0 → s.splits ≡ 0 → Factor f → Within reg (with_factor s f)
factor_more reg s f w p q factor = record {
  factor = factor;
  lefts = w.lefts;
  rights = w.rights;
  products_within = w.products_within;
  variables_within = w.variables_within;
  products = λ k l m. absurd (omega arith);
  split_lefts = w.split_lefts;
  split_rights = w.split_rights;
  splits_within = w.splits_within;
  splits = λ t l. absurd (omega arith);
}

-- ---- products

abbrev pub product_at : Scheme → ℕ → ℕ × ℕ
product_at s i = (product_left s i, product_right s i)

-- those below a bound, in two schemes that agree there
products_same : (n : ℕ) (s s' : Scheme) (c : ℕ) → Agree n s s' c → ((k : ℕ) → n ≤ k → k < c → ProductOf n s k) → (k : ℕ) → n ≤ k → k < c → ProductOf n s' k
products_same n s s' c agree old k a m =
    let q = old k a m in
    let (l, r) = agree k a m in
    let same = E_same n s s' c agree in
    record { ordered = rw (← l, ← r) q.ordered; falls = rw (← r) q.falls; new = λ v h d. q.new v h (same v (omega arith) ∙ d ∙ sym (same k m)) }

-- and the one at the bound, by the sets below it
module _ (n : ℕ) (s₀ s : Scheme) (c l r : ℕ) (m : n ≤ c) (agree : Agree n s₀ s c) (d : left n s c ≡ l) (e : right n s c ≡ r) where
  same : (v : ℕ) → v < c → E n s₀ v ≡ E n s v
  same = E_same n s₀ s c agree

  set_of : l < c → r < c → E n s c ≡ union_of n s₀ l r
  set_of a b = E_next n s c m (rw d a) (rw e b) ∙ rw (d, e, ← (same l a), ← (same r b))

  newest : Product c l r (union_of n s₀ l r) (E n s₀) → ProductOf n s c
  newest q = record { ordered = rw (d, e) q.ordered; falls = rw e q.falls; new = λ v h x. q.new v h (same v h ∙ x ∙ set_of (omega (arith, q.ordered, q.falls)) q.falls) }

  oldest : ProductOf n s c → Product c l r (union_of n s₀ l r) (E n s₀)
  oldest p =
      let o : l < r = rw (d, e) at p.ordered in
      let f : r < c = rw e at p.falls in
      record { ordered = o; falls = f; new = λ v h x. p.new v h (sym (same v h) ∙ x ∙ sym (set_of (omega (arith, o, f)) f)) }

module _ (s : Scheme) (l r : ℕ) where
  pub product_kept : (i : ℕ) → i < s.products → product_at (with_product s l r) i ≡ product_at s i
  product_kept i h = rw (kept_set s.lefts s.products l 0 i h, kept_set s.rights s.products r 0 i h)

  pub product_new : Lengths s → s.products < max_products → product_at (with_product s l r) s.products ≡ (l, r)
  product_new lengths few = rw (get_or-set_same s.lefts s.products l 0 (omega (arith, lengths.lefts)), get_or-set_same s.rights s.products r 0 (omega (arith, lengths.rights)))

  module _ (n : ℕ) where
    pub grown_agree : Agree n s (with_product s l r) (variables n s)
    grown_agree w a m = let e = product_kept (w - n) (omega arith) in (sym (ap (λ c. c.0) e), sym (ap (λ c. c.1) e))

    module _ (lengths : Lengths s) (few : s.products < max_products) where
      pub grown_left : left n (with_product s l r) (variables n s) ≡ l
      grown_left = left_at n (with_product s l r) s.products ∙ ap (λ c. c.0) (product_new lengths few)

      pub grown_right : right n (with_product s l r) (variables n s) ≡ r
      grown_right = right_at n (with_product s l r) s.products ∙ ap (λ c. c.1) (product_new lengths few)

      -- the set of the new one
      pub grown_set : l < variables n s → r < variables n s → E n (with_product s l r) (variables n s) ≡ union_of n s l r
      grown_set = set_of n s (with_product s l r) (variables n s) l r (omega arith) grown_agree grown_left grown_right

      -- and the array of sets with it
      pub grown_sets : {sets : List ℕ} → SetsBelow n s (variables n s) sets → variables n s < max_variables → l < variables n s → r < variables n s → SetsBelow n (with_product s l r) (variables n (with_product s l r)) (set sets (variables n s) (union_in sets l r))
      grown_sets h k a b = rw (add-suc n s.products) (sets_product (sets_same h (with_product s l r) grown_agree) l r grown_left grown_right k (omega arith) a b)

      grown_product : Product (variables n s) l r (union_of n s l r) (E n s) → ProductOf n (with_product s l r) (variables n s)
      grown_product = newest n s (with_product s l r) (variables n s) l r (omega arith) grown_agree grown_left grown_right

-- splits stay where there are more variables
split_wider : {N N' mask : ℕ} (l r : ℕ) (f g : ℕ → ℕ) → N ≤ N' → ((v : ℕ) → v < N → f v ≡ g v) → Split N l r (bit_or (f l) (f r)) mask → Split N' l r (bit_or (g l) (g r)) mask
split_wider l r f g wide same q = record {
  ordered = q.ordered;
  there = omega (arith, q.there);
  fits = ap₂ bit_or (sym (same l (omega (arith, q.ordered, q.there)))) (sym (same r q.there)) ∙ q.fits;
}

pub product_more : (reg : Register) (s : Scheme) → Within reg s → (l r : ℕ) → NextProduct reg.choices s l r → Within reg (with_product s l r)
product_more reg s w l r p =
    let n = reg.choices in
    let s' = with_product s l r in
    let agree = grown_agree s l r n in
    record {
      factor = w.factor;
      lefts = column_more l w.lefts;
      rights = column_more r w.rights;
      products_within = p.few;
      variables_within = omega (arith, p.room);
      products = λ k a m. ⊎_elim (products_same n s s' (variables n s) agree w.products k a) (λ (e : k ≡ variables n s). rw e (grown_product s l r n (lengths_within w) p.few p.fits)) (below_or_last k (variables n s) (omega arith));
      split_lefts = w.split_lefts;
      split_rights = w.split_rights;
      splits_within = w.splits_within;
      splits = λ t h. split_wider (split_left s t) (split_right s t) (E n s) (E n s') (omega arith) (E_same n s s' (variables n s) agree) (w.splits t h);
    }

-- without its last product
abbrev pub less_product : Scheme → ℕ → Scheme
less_product s k = set_products s k (set s.lefts k 0) (set s.rights k 0)

module _ (s : Scheme) (k : ℕ) where
  pub product_less : (i : ℕ) → i < k → product_at s i ≡ product_at (less_product s k) i
  product_less i l = rw (kept_set s.lefts k 0 0 i l, kept_set s.rights k 0 0 i l)

  pub product_back : s.products ≡ suc k → with_product (less_product s k) (product_left s k) (product_right s k) ≡ s
  product_back e = same_products s (sym e) (set_back s.lefts k 0) (set_back s.rights k 0)

  pub product_next : (reg : Register) → Within reg s → s.products ≡ suc k → s.splits ≡ 0 → Within reg (less_product s k) × NextProduct reg.choices (less_product s k) (product_left s k) (product_right s k)
  product_next reg w e none =
      let n = reg.choices in
      let s' = less_product s k in
      let few : k < max_products = omega (arith, w.products_within) in (
        record {
          factor = w.factor;
          lefts = column_less few (rw e at w.lefts);
          rights = column_less few (rw e at w.rights);
          products_within = omega arith;
          variables_within = omega (arith, w.variables_within);
          products = products_same n s s' (n + k) (λ v a m. let q = product_less (v - n) (omega arith) in (ap (λ c. c.0) q, ap (λ c. c.1) q)) (λ j a m. w.products j a (omega arith));
          split_lefts = w.split_lefts;
          split_rights = w.split_rights;
          splits_within = w.splits_within;
          splits = λ t h. absurd (omega arith);
        },
        record {
          few = few;
          room = omega (arith, w.variables_within);
          fits = oldest n s' s (n + k) (product_left s k) (product_right s k) (omega arith) (λ v a m. let q = product_less (v - n) (omega arith) in (sym (ap (λ c. c.0) q), sym (ap (λ c. c.1) q))) (left_at n s k) (right_at n s k) (w.products (n + k) (omega arith) (omega arith));
        },
      )

-- ---- splits

abbrev pub split_at : Scheme → ℕ → ℕ × ℕ
split_at s t = (split_left s t, split_right s t)

-- a scheme with other splits has the same products
module _ (reg : Register) (s : Scheme) (m : ℕ) (lefts rights : List ℕ) where
  abbrev s' : Scheme
  s' = set_splits s m lefts rights

  split_same : (t : ℕ) → split_at s t ≡ split_at s' t → SplitOf reg s t → SplitOf reg s' t
  split_same t e q =
      let n = reg.choices in
      subst (λ c. Split (variables n s) c.0 c.1 (bit_or (E n s' c.0) (E n s' c.1)) (mask reg t)) e
      (split_wider (split_left s t) (split_right s t) (E n s) (E n s') (omega arith) (E_same n s s' (variables n s) (λ w a b. (refl, refl))) q)

  in_splits : Within reg s → Column max_terms m 0 lefts → Column max_terms m 0 rights → m ≤ reg.terms → ((t : ℕ) → t < m → SplitOf reg s' t) → Within reg s'
  in_splits w a b few splits = record {
    factor = w.factor;
    lefts = w.lefts;
    rights = w.rights;
    products_within = w.products_within;
    variables_within = w.variables_within;
    products = products_same reg.choices s s' (variables reg.choices s) (λ w a b. (refl, refl)) w.products;
    split_lefts = a;
    split_rights = b;
    splits_within = few;
    splits = splits;
  }

module _ (s : Scheme) (l r : ℕ) where
  pub split_kept : (t : ℕ) → t < s.splits → split_at (with_split s l r) t ≡ split_at s t
  split_kept t h = rw (kept_set s.split_lefts s.splits l 0 t h, kept_set s.split_rights s.splits r 0 t h)

  pub split_new : Lengths s → s.splits < max_terms → split_at (with_split s l r) s.splits ≡ (l, r)
  split_new lengths h = rw (get_or-set_same s.split_lefts s.splits l 0 (omega (arith, lengths.split_lefts)), get_or-set_same s.split_rights s.splits r 0 (omega (arith, lengths.split_rights)))

  pub split_more : (reg : Register) → Within reg s → reg.terms ≤ max_terms → NextSplit reg s l r → Within reg (with_split s l r)
  split_more reg w few p =
      let n = reg.choices in
      let s' = with_split s l r in
      let lefts = s'.split_lefts in
      let rights = s'.split_rights in
      let new : SplitOf reg s' s.splits = subst (λ c. Split (variables n s) c.0 c.1 (bit_or (E n s' c.0) (E n s' c.1)) (mask reg s.splits)) (sym (split_new (lengths_within w) (omega (arith, p.few)))) (split_wider l r (E n s) (E n s') (omega arith) (E_same n s s' (variables n s) (λ w a b. (refl, refl))) p.fits) in
      in_splits reg s (suc s.splits) lefts rights w (column_more l w.split_lefts) (column_more r w.split_rights) p.few
      (λ t h. ⊎_elim (λ l. split_same reg s (suc s.splits) lefts rights t (sym (split_kept t l)) (w.splits t l)) (λ (e : t ≡ s.splits). rw e new) (below_or_last t s.splits h))

-- without its last split
abbrev pub less_split : Scheme → ℕ → Scheme
less_split s t = set_splits s t (set s.split_lefts t 0) (set s.split_rights t 0)

module _ (s : Scheme) (t : ℕ) where
  pub split_less : (i : ℕ) → i < t → split_at s i ≡ split_at (less_split s t) i
  split_less i l = rw (kept_set s.split_lefts t 0 0 i l, kept_set s.split_rights t 0 0 i l)

  pub split_back : s.splits ≡ suc t → with_split (less_split s t) (split_left s t) (split_right s t) ≡ s
  split_back e = same_splits s (sym e) (set_back s.split_lefts t 0) (set_back s.split_rights t 0)

  pub split_next : (reg : Register) → Within reg s → reg.terms ≤ max_terms → s.splits ≡ suc t → Within reg (less_split s t) × NextSplit reg (less_split s t) (split_left s t) (split_right s t)
  split_next reg w few e =
      let n = reg.choices in
      let s' = less_split s t in
      let h : t < max_terms = omega (arith, w.splits_within) in
      let k : t < s.splits = omega arith in (
        in_splits reg s t s'.split_lefts s'.split_rights w (column_less h (rw e at w.split_lefts)) (column_less h (rw e at w.split_rights)) (omega (arith, w.splits_within))
            (λ i l. split_same reg s t s'.split_lefts s'.split_rights i (split_less i l) (w.splits i (omega arith))),
        record { few = omega (arith, w.splits_within); fits = split_wider (split_left s t) (split_right s t) (E n s) (E n s') (omega arith) (E_same n s s' (variables n s) (λ w a b. (refl, refl))) (w.splits t k) },
      )
