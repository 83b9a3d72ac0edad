-- The form of a row (source document 004): z_i times (row sum − b), 0 at the filling of every plan that fits the row.
use Rattle.std.specs.Prelude.{ℕ, [], ◌∷◌, ◌++◌, ℤ, neg_ℤ}
use Rattle.integers.specs.Lists.{join_below}
use Rattle.forms.specs.Form.{Form, mono, place}
use Rattle.register.specs.declared.Register.{Register}
use Rattle.register.specs.Register.{row_total, row_entry}

-- of entries a_j for n choices and the total b, times variable i: a product a_j z_i z_j for each choice j, that of i with itself a
-- square, and −b z_i
unfoldable pub row_form : ℕ → (ℕ → ℤ) → ℤ → ℕ → Form
row_form n a b i = join_below n (λ j. mono (place i) (place j) (a j) ∷ []) ++ (mono 0 (place i) (neg_ℤ b) ∷ [])

-- of row k of a register
abbrev pub row_form_of : Register → (k i : ℕ) → Form
row_form_of r k i = row_form r.choices (row_entry r k) (row_total r k) i
