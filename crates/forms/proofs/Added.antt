-- Laws of a table that forms are added to: one form after another is their list, and the room left.
use Prim.Native.Nat.{ℕ, ◌+◌, ◌≤◌}
use mathlib.Core.Path.{◌≡◌, refl, sym, ◌∙◌}
use mathlib.Core.List.{[], ◌++◌}
use Rattle.forms.specs.declared.SquareTable.{SquareTable}
use Rattle.forms.specs.Form.{Form}
use Rattle.forms.specs.Store.{add_form, Room, Adds}
use Rattle.forms.proofs.Form.{Below}
use Rattle.forms.proofs.Store.{norm1, add_form-append, bounded_add_form, bounded_weaken}

pub adds_none : (t : SquareTable) → Adds [] t t
unfolding add_form
adds_none t = record { same_reference = refl; same_side = refl; holds = refl }

pub adds_then : {f g : Form} {t u v : SquareTable} → Adds f t u → Adds g u v → Adds (f ++ g) t v
adds_then {f} {g} {t} a b = record {
  same_reference = b.same_reference ∙ a.same_reference;
  same_side = b.same_side ∙ a.same_side;
  holds = b.holds ∙ rw (a.same_side, a.holds) (sym (add_form-append t.side f g t.numbers.now));
}

-- a form that is the same list
pub adds_same : {f g : Form} {t u : SquareTable} → Adds f t u → f ≡ g → Adds g t u
adds_same {f} {g} {t} {u} a e = rw e at a

-- room for more
pub room_after : {b : ℕ} {f : Form} {t u : SquareTable} → Room b t → Adds f t u → Below t.side f → (d : ℕ) → b + norm1 f ≤ d → Room d u
room_after r a h d l = rw (a.same_side, a.holds) (bounded_weaken (bounded_add_form h r) l)
