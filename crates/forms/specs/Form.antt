-- Quadratic forms as lists of monomials. Place 0 is the constant, place i + 1 is variable i.
use Rattle.std.specs.Prelude.{ℕ, zero, suc, cond, ◌&&◌, ◌||◌, List, map, eqb, ℤ, pos, ◌+ℤ◌, ◌*ℤ◌}
use Rattle.integers.specs.Sum.{sum_over}

-- c times the factor of place p times the factor of place q
pub record Monomial : Type 0 where
  pub p : ℕ
  pub q : ℕ
  pub c : ℤ

abbrev pub Form : Type 0
Form = List Monomial

abbrev pub mono : ℕ → ℕ → ℤ → Monomial
mono p q c = record { p = p; q = q; c = c }

-- the place of variable i
abbrev pub place : ℕ → ℕ
place i = suc i

-- the factors of the places: D at place 0, x i at that of variable i. At a filling D is 1
abbrev pub places : ℤ → (ℕ → ℤ) → ℕ → ℤ
places D x zero = D
places D x (suc i) = x i

-- k times a form
unfoldable pub times : ℤ → Form → Form
times k = map (λ m. mono m.p m.q (k *ℤ m.c))

-- the value of a form where y gives the factor of each place
unfoldable pub value : (ℕ → ℤ) → Form → ℤ
value y f = sum_over f (λ m. m.c *ℤ y m.p *ℤ y m.q)

-- D² times the product of two places where variable i is y i / D: D² for the constant, D · y i for a linear term, and y i · y j for a
-- product of two variables or a square
unfoldable pub product_over : ℕ → (ℕ → ℤ) → ℕ → ℕ → ℤ
product_over D y zero zero = pos D *ℤ pos D
product_over D y zero (suc j) = pos D *ℤ y j
product_over D y (suc i) zero = pos D *ℤ y i
product_over D y (suc i) (suc j) = y i *ℤ y j

-- a form homogenized: D² times its value where variable i is y i / D
unfoldable pub homogenized : Form → ℕ → (ℕ → ℤ) → ℤ
homogenized f D y = sum_over f (λ m. m.c *ℤ product_over D y m.p m.q)

-- the coefficient of the product of places p and q, in either order: of 0 and 0 the constant, of 0 and another place its
-- linear coefficient, of a place and itself that of its square
unfoldable pub coefficient_of : Form → ℕ → ℕ → ℤ
coefficient_of f p q = sum_over f (λ m. cond (eqb p m.p && eqb q m.q || eqb p m.q && eqb q m.p) m.c (pos 0))

-- c at (p, q), 0 elsewhere
abbrev pub single : ℕ → ℕ → ℤ → ℕ → ℕ → ℤ
single p q c i j = cond (eqb i p && eqb j q) c (pos 0)

-- the table of a form: a monomial adds c at (p, q) and c at (q, p). So a diagonal entry is twice the coefficient of 1 or of a
-- square, and any other entry is the coefficient itself, on both sides of the diagonal
unfoldable pub entry : Form → ℕ → ℕ → ℤ
entry f i j = sum_over f (λ m. single m.p m.q m.c i j +ℤ single m.q m.p m.c i j)
