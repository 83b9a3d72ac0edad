-- The builder follows 000 Algorithm 2.
use Rattle.std.specs.Prelude.{ℕ, zero, suc, min, max, cond, ◌||◌, List, [], ◌∷◌, eqb, leb, length}
use Rattle.integers.specs.Lists.{join_below, first_below}
use Rattle.sets.specs.Sets.{is_member}
use Rattle.register.specs.declared.Register.{Register}
use Rattle.register.specs.Register.{mask}
use Rattle.scheme.specs.declared.Scheme.{Scheme}
use Rattle.scheme.specs.Scheme.{max_products, max_variables, variables, initial, with_product, with_split}
use Rattle.scheme.specs.Variables.{E}
use Rattle.scheme.specs.Format.{union_of}

-- a step that needs a 33rd product, or a 65th variable, is full
pub data Step (A : Type 0) : Type 0 where
  full : Step A
  next : A → Step A

unfoldable pub and_then : {A B : Type 0} → Step A → (A → Step B) → Step B
and_then full f = full
and_then (next a) f = f a

-- a scheme so far, and a variable or a list of variables of it

pub record WithVariable : Type 0 where
  pub scheme : Scheme
  pub variable : ℕ

pub record WithList : Type 0 where
  pub scheme : Scheme
  pub members : List ℕ

-- the choices of a term, rising
unfoldable pub choices_of : ℕ → ℕ → List ℕ
choices_of n m = join_below n (λ i. cond (is_member i m) (i ∷ []) [])

-- the first variable below k whose set is this one, or k where there is none
unfoldable pub first_with : ℕ → Scheme → ℕ → ℕ → ℕ
first_with n sch union k = first_below k (λ v. eqb (E n sch v) union)

-- the variable that has the union of a and b as its set; where there is none, a new product (min a b, max a b)
unfoldable pub join_pair : ℕ → Scheme → ℕ → ℕ → Step WithVariable
join_pair n sch a b =
    let k = variables n sch in
    let v = first_with n sch (union_of n sch a b) k in
    let made = with_product sch (min a b) (max a b) in
    cond (eqb v k)
    (cond (leb max_products sch.products || leb max_variables k) full (next (record { scheme = made; variable = k })))
    (next (record { scheme = sch; variable = v }))

-- one pass over a list: first and second member give one variable, third and fourth the next, a single one at the end is kept
unfoldable pub pair_up : ℕ → Scheme → List ℕ → Step WithList
pair_up n sch [] = next (record { scheme = sch; members = [] })
pair_up n sch (a ∷ []) = next (record { scheme = sch; members = a ∷ [] })
pair_up n sch (a ∷ (b ∷ rest)) =
    and_then (join_pair n sch a b) λ p.
    and_then (pair_up n p.scheme rest) λ q.
    next (record { scheme = q.scheme; members = p.variable ∷ q.members })

-- passes until at most 2 members are left; the first number bounds how often, and the list's length is enough
unfoldable pub reduce : ℕ → ℕ → Scheme → List ℕ → Step WithList
reduce zero n sch members = next (record { scheme = sch; members = members })
reduce (suc k) n sch members =
    cond (leb (length members) 2) (next (record { scheme = sch; members = members }))
    (and_then (pair_up n sch members) λ p. reduce k n p.scheme p.members)

-- the split of a reduced list: (min, max) of its two members, or (a, a) for one
unfoldable pub split_of : Scheme → List ℕ → Scheme
split_of sch [] = sch
split_of sch (a ∷ []) = with_split sch a a
split_of sch (a ∷ (b ∷ rest)) = with_split sch (min a b) (max a b)

-- one term
unfoldable pub build_term : ℕ → Scheme → ℕ → Step Scheme
build_term n sch m = let members = choices_of n m in and_then (reduce (length members) n sch members) λ p. next (split_of p.scheme p.members)

-- what building leads to: a scheme, or the number of the term that needs a product too many
pub data Built : Type 0 where
  stopped : ℕ → Built
  built : Scheme → Built

unfoldable pub follow : Step Scheme → ℕ → (Scheme → Built) → Built
follow full t rest = stopped t
follow (next sch) t rest = rest sch

-- for each term in order: k terms from term t on
unfoldable pub build_from : Register → ℕ → ℕ → Scheme → Built
build_from reg zero t sch = built sch
build_from reg (suc k) t sch = follow (build_term reg.choices sch (mask reg t)) t (build_from reg k (suc t))

unfoldable pub build : Register → Built
build reg = build_from reg reg.terms 0 initial
