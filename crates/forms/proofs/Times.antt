-- Multiples of forms: of forms one after the other, and by 1.
use Prim.Native.Nat.{ℕ, zero, suc}
use mathlib.Core.Path.{◌≡◌, refl, ◌∙◌, ap₂}
use mathlib.Core.List.{[], ◌∷◌, ◌++◌, map-append}
use lib.IntN.{ℤ, pos}
use Rattle.integers.specs.Lists.{join_below}
use Rattle.integers.proofs.Ring.{one_*ℤ}
use Rattle.forms.specs.Form.{Form, mono, times}

pub times-append : (k : ℤ) (f g : Form) → times k (f ++ g) ≡ times k f ++ times k g
unfolding times
times-append k f g = map-append _ f g

pub times_join : (k : ℤ) (n : ℕ) (f : ℕ → Form) → times k (join_below n f) ≡ join_below n (λ i. times k (f i))
unfolding times join_below
times_join k zero f = refl
times_join k (suc n) f = times-append k (join_below n f) (f n) ∙ ap₂ ◌++◌ (times_join k n f) refl

pub times_one : (f : Form) → times (pos 1) f ≡ f
unfolding times
times_one [] = refl
times_one (m ∷ f) = ap₂ (λ c g. mono m.p m.q c ∷ g) (one_*ℤ m.c) (times_one f)
