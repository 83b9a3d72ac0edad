-- What the code stores: a form added into a lent table, monomial by monomial.
use Rattle.std.specs.Prelude.{◌≡◌, ℕ, ◌+◌, ◌*◌, ◌≤◌, ◌<◌, List, [], ◌∷◌, ◌++◌, ℤ, pos, nat_abs, ◌+ℤ◌, length, get_or, set, drop, replicate}
use Rattle.forms.specs.Form.{Form, Monomial}
use Rattle.forms.specs.declared.SquareTable.{SquareTable}

-- c added to the number at k
abbrev pub add_at : ℕ → ℤ → List ℤ → List ℤ
add_at k c t = set t k (get_or t k (pos 0) +ℤ c)

-- c added at (p, q) and at (q, p) of a table of side n
abbrev pub add_monomial : ℕ → Monomial → List ℤ → List ℤ
add_monomial n m t = add_at (m.q * n + m.p) m.c (add_at (m.p * n + m.q) m.c t)

unfoldable pub add_form : ℕ → Form → List ℤ → List ℤ
add_form n [] t = t
add_form n (m ∷ f) t = add_form n f (add_monomial n m t)

-- the first k numbers made 0
abbrev pub cleared : ℕ → List ℤ → List ℤ
cleared k t = replicate k (pos 0) ++ drop k t

-- a lent run that has a table of side n, whose numbers are at most b in absolute value
pub record Bounded (n b : ℕ) (t : List ℤ) : Type 0 where
  pub long : n * n ≤ length t
  pub low : (k : ℕ) → k < n * n → nat_abs (get_or t k (pos 0)) ≤ b

-- a table whose numbers are at most b in absolute value
abbrev pub Room : ℕ → SquareTable → Type 0
Room b t = Bounded t.side b t.numbers.now

-- the same table, in the same lent run, which now has these numbers
pub record Becomes (numbers : List ℤ) (before after : SquareTable) : Type 0 where
  pub same_reference : after.numbers.ghost_name ≡ before.numbers.ghost_name
  pub same_side : after.side ≡ before.side
  pub holds : after.numbers.now ≡ numbers

-- the same table, in the same lent run, with a form added
pub record Adds (f : Form) (before after : SquareTable) : Type 0 where
  pub same_reference : after.numbers.ghost_name ≡ before.numbers.ghost_name
  pub same_side : after.side ≡ before.side
  pub holds : after.numbers.now ≡ add_form before.side f before.numbers.now

-- ---- how large a table's numbers may be before something is added, so that all sums are within 64 bits

-- what is added to a number at once is at most this
abbrev pub max_added : ℕ
max_added = 1_000_000_000_000_000_000

-- before one number is added
abbrev pub max_before_number : ℕ
max_before_number = 5 * max_added

-- before a monomial, which may add to a number twice
abbrev pub max_before_monomial : ℕ
max_before_monomial = 4 * max_added

-- before a form that adds at most max_added to a number
abbrev pub max_before_form : ℕ
max_before_form = 3 * max_added

-- before two such forms
abbrev pub max_before_forms : ℕ
max_before_forms = 2 * max_added
