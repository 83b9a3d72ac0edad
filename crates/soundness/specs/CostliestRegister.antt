-- R-12, the costliest register, as a predicate of any such calls: the register that is written is accepted and makes the builder form
-- m times (d − 2) products, and no accepted register of at most m terms of at most d choices each makes it form more. How many products the
-- builder forms of any register stands in `counting/specs/Counting`.
use Rattle.std.specs.Prelude.{ℕ, ◌+◌, ◌*◌, ◌≤◌, ◌<◌, ◌≡◌, ◌⊎◌, List, length}
use Rattle.register.specs.declared.Register.{Register}
use Rattle.register.specs.Limits.{narrow_choices}
use Rattle.scheme.specs.declared.Scheme.{Scheme}
use Rattle.scheme.specs.Scheme.{max_products, max_variables}
use Rattle.builder.specs.Answer.{built_room}
use Rattle.counting.specs.Counting.{Bounded, most_products}
use Rattle.costliest.specs.Limits.{min_degree, max_named}
use Rattle.costliest.specs.Costliest.{Outside, Admitted, costliest_bytes, Described}
use Rattle.costliest.specs.Answer.{costliest_size, costliest_room}
use Rattle.soundness.specs.Calls.{RegisterCall, SchemeCall, BuildCall, CostliestCall, front}
use Rattle.soundness.specs.Acceptance.{register_accepted, scheme_accepted}
use Rattle.soundness.specs.Writers.{refused_back, Writes, KeepsRefused}

-- of the bytes of a register with `terms` terms the builder forms a scheme with `products` products: it writes 3 bytes for each of these and
-- each split, and one more, and what it hands back is read as that scheme
pub record Forms (build_call : BuildCall) (scheme_call : SchemeCall) (register : List ℕ) (terms products : ℕ) : Type 0 where
  pub scheme : Scheme
  pub products_are : scheme.products ≡ products
  pub splits_are : scheme.splits ≡ terms
  pub bytes : List ℕ
  pub count : length bytes ≡ 3 * products + 3 * terms + 1
  pub writes : Writes (build_call register) bytes built_room
  pub reads_back : (lent : List ℕ) → (build_call register lent).0.number ≡ 0 → scheme_call register (front (build_call register lent)) ≡ scheme_accepted scheme

-- with `most` products or fewer
pub record FormsUpTo (build_call : BuildCall) (scheme_call : SchemeCall) (register : List ℕ) (terms most : ℕ) : Type 0 where
  pub products : ℕ
  pub forms : Forms build_call scheme_call register terms products
  pub at_most : products ≤ most

-- ---- the register that is written

pub record CostliestWritten (costliest_call : CostliestCall) (register_call : RegisterCall) (build_call : BuildCall) (scheme_call : SchemeCall) : Type 0 where
  -- 18 whatever buffer is lent, so before 11; the product is that of whole numbers
  pub refused : (m d : ℕ) (lent : List ℕ) → Outside m d → costliest_call m d lent ≡ refused_back 18 0 0 lent
  -- else the bytes, or 11 for a buffer shorter than they are
  pub writes : (m d : ℕ) → Admitted m d → Writes (costliest_call m d) (costliest_bytes m d) costliest_room
  pub count : (m d : ℕ) → length (costliest_bytes m d) ≡ costliest_size m d
  -- there is no third case
  pub decided : (m d : ℕ) → Outside m d ⊎ Admitted m d
  pub keeps : (m d : ℕ) → KeepsRefused (costliest_call m d)
  -- what is written is accepted, as the register of the request
  pub reads : (m d : ℕ) (lent : List ℕ) → (costliest_call m d lent).0.number ≡ 0 →
      (reg : Register) × Described m d reg × (register_call (front (costliest_call m d lent)) ≡ register_accepted reg)
  -- and makes the builder form exactly so many products
  pub forms : (m d : ℕ) (lent : List ℕ) → (costliest_call m d lent).0.number ≡ 0 → Forms build_call scheme_call (front (costliest_call m d lent)) m (most_products m d)

-- ---- every accepted register of at most m terms, each naming at most d choices

-- these bytes are accepted as such a register, m and d being as the request has them, or m 0; where m is not 0, d is at most 32 by the product
pub record OfBounded (register_call : RegisterCall) (m d : ℕ) (register : List ℕ) : Type 0 where
  pub deep : min_degree ≤ d
  pub small : m * d ≤ max_named
  pub reg : Register
  pub accepted : register_call register ≡ register_accepted reg
  pub bounded : Bounded m d reg

pub record NoneMore (register_call : RegisterCall) (build_call : BuildCall) (scheme_call : SchemeCall) : Type 0 where
  -- the builder forms a scheme with no more products, wherever it forms one
  pub at_most : (m d : ℕ) (register : List ℕ) (o : OfBounded register_call m d register) → (lent : List ℕ) → (build_call register lent).0.number ≡ 0 → FormsUpTo build_call scheme_call register o.reg.terms (most_products m d)
  -- it does wherever so many products and the choices are at most 64 variables, so for every register with at most 32 choices
  pub forms : (m d : ℕ) (register : List ℕ) (o : OfBounded register_call m d register) → o.reg.choices + most_products m d ≤ max_variables → FormsUpTo build_call scheme_call register o.reg.terms (most_products m d)
  pub narrow : (m d : ℕ) (register : List ℕ) (o : OfBounded register_call m d register) → o.reg.choices ≤ narrow_choices → FormsUpTo build_call scheme_call register o.reg.terms (most_products m d)
  -- a 33rd product is never needed
  pub few : (m d : ℕ) (register : List ℕ) → OfBounded register_call m d register → most_products m d ≤ max_products
  -- so 10 is for a 65th variable, and only where so many choices are in no term
  pub full : (m d : ℕ) (register : List ℕ) (o : OfBounded register_call m d register) → (lent : List ℕ) → (build_call register lent).0.number ≡ 10 → max_variables < o.reg.choices + most_products m d
  -- and nothing else in a buffer that is long enough
  pub either : (m d : ℕ) (register : List ℕ) → OfBounded register_call m d register → (lent : List ℕ) → built_room ≤ length lent → ((build_call register lent).0.number ≡ 0) ⊎ ((build_call register lent).0.number ≡ 10)

-- of the four calls
pub record CostliestRegister (costliest_call : CostliestCall) (register_call : RegisterCall) (build_call : BuildCall) (scheme_call : SchemeCall) : Type 0 where
  pub written : CostliestWritten costliest_call register_call build_call scheme_call
  pub none_more : NoneMore register_call build_call scheme_call
