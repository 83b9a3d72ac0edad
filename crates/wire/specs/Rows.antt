-- The commands of a part as a table, a row for each command byte.
use Rattle.std.specs.Prelude.{ℕ, zero, suc, Bool, false, cond, ◌||◌, List, [], ◌∷◌, eqb, get_or}
use Rattle.wire.specs.Checks.{Check}
use Rattle.wire.specs.Part.{Part, total}

-- what has been read so far: the byte of the last command, 0 before the first, and what the commands gave, an R
pub record Progress (R : Type 0) : Type 0 where
  pub previous : ℕ
  pub parsed : R

-- a command
pub record Row (R : Type 0) : Type 0 where
  pub byte : ℕ
  -- the bytes of the commands that it may stand directly after, with 0 where it may be the first: elsewhere it is refused 1
  pub follows : List ℕ
  -- the widths in bytes of its operands
  pub widths : List ℕ
  -- its checks, at its operands as unsigned numbers: refusals 3 and up, in rising order
  pub checks : R → List ℕ → List Check
  -- what the commands gave after it
  pub after : R → List ℕ → R
  -- it ends the part
  pub last : Bool

-- the bytes of a command
abbrev pub size_of : {R : Type 0} → Row R → ℕ
size_of row = suc (total row.widths)

abbrev pub is_among : ℕ → List ℕ → Bool
is_among b [] = false
is_among b (c ∷ []) = eqb b c
is_among b (c ∷ (d ∷ cs)) = eqb b c || is_among b (d ∷ cs)

-- a byte that is no command of the part
abbrev pub no_row : {R : Type 0} → Row R
no_row = record { byte = 0; follows = []; widths = []; checks = λ r xs. []; after = λ r xs. r; last = false }

-- the row of a byte
unfoldable pub row_of : {R : Type 0} → List (Row R) → ℕ → Row R
row_of [] b = no_row
row_of (r ∷ rs) b = cond (eqb b r.byte) r (row_of rs b)

abbrev pub part_of : {R : Type 0} → R → List (Row R) → Part (Progress R)
part_of fresh rows = record {
  start = record { previous = 0; parsed = fresh };
  here = λ p b. is_among p.previous (row_of rows b).follows;
  widths = λ b. (row_of rows b).widths;
  checks = λ p b. (row_of rows b).checks p.parsed;
  after = λ p b xs. record { previous = b; parsed = (row_of rows b).after p.parsed xs };
  last = λ b. (row_of rows b).last;
}

-- a function of the first operand, of the first two, and of the first three
abbrev pub unary : {A : Type 0} → (ℕ → A) → List ℕ → A
unary f xs = f (get_or xs 0 0)

abbrev pub binary : {A : Type 0} → (ℕ → ℕ → A) → List ℕ → A
binary f xs = f (get_or xs 0 0) (get_or xs 1 0)

abbrev pub ternary : {A : Type 0} → (ℕ → ℕ → ℕ → A) → List ℕ → A
ternary f xs = f (get_or xs 0 0) (get_or xs 1 0) (get_or xs 2 0)

-- the first n operands, 0 where there are fewer; a command has no fewer
abbrev pub first_of : ℕ → List ℕ → List ℕ
first_of zero xs = []
first_of (suc n) [] = 0 ∷ first_of n []
first_of (suc n) (x ∷ xs) = x ∷ first_of n xs
