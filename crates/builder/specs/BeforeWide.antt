-- What was built before a register could have more than 32 choices: a step was full where it needed a 33rd product, however many variables
-- there were. The definitions that join no pair are today's.
use Rattle.std.specs.Prelude.{ℕ, zero, suc, min, max, cond, List, [], ◌∷◌, eqb, leb, length}
use Rattle.register.specs.declared.Register.{Register}
use Rattle.register.specs.Register.{mask}
use Rattle.scheme.specs.declared.Scheme.{Scheme}
use Rattle.scheme.specs.Scheme.{max_products, variables, initial, with_product}
use Rattle.scheme.specs.Format.{union_of}
use Rattle.builder.specs.Builder.{Step, full, next, and_then, WithVariable, WithList, choices_of, first_with, split_of, Built, built, follow}

unfoldable pub join_pair_before_wide : ℕ → Scheme → ℕ → ℕ → Step WithVariable
join_pair_before_wide n sch a b =
    let k = variables n sch in
    let v = first_with n sch (union_of n sch a b) k in
    let made = with_product sch (min a b) (max a b) in
    cond (eqb v k)
    (cond (leb max_products sch.products) full (next (record { scheme = made; variable = k })))
    (next (record { scheme = sch; variable = v }))

unfoldable pub pair_up_before_wide : ℕ → Scheme → List ℕ → Step WithList
pair_up_before_wide n sch [] = next (record { scheme = sch; members = [] })
pair_up_before_wide n sch (a ∷ []) = next (record { scheme = sch; members = a ∷ [] })
pair_up_before_wide n sch (a ∷ (b ∷ rest)) =
    and_then (join_pair_before_wide n sch a b) λ p.
    and_then (pair_up_before_wide n p.scheme rest) λ q.
    next (record { scheme = q.scheme; members = p.variable ∷ q.members })

unfoldable pub reduce_before_wide : ℕ → ℕ → Scheme → List ℕ → Step WithList
reduce_before_wide zero n sch members = next (record { scheme = sch; members = members })
reduce_before_wide (suc k) n sch members =
    cond (leb (length members) 2) (next (record { scheme = sch; members = members }))
    (and_then (pair_up_before_wide n sch members) λ p. reduce_before_wide k n p.scheme p.members)

unfoldable pub build_term_before_wide : ℕ → Scheme → ℕ → Step Scheme
build_term_before_wide n sch m =
    let members = choices_of n m in and_then (reduce_before_wide (length members) n sch members) λ p. next (split_of p.scheme p.members)

unfoldable pub build_from_before_wide : Register → ℕ → ℕ → Scheme → Built
build_from_before_wide reg zero t sch = built sch
build_from_before_wide reg (suc k) t sch = follow (build_term_before_wide reg.choices sch (mask reg t)) t (build_from_before_wide reg k (suc t))

unfoldable pub build_before_wide : Register → Built
build_before_wide reg = build_from_before_wide reg reg.terms 0 initial
