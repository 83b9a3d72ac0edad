-- What two equal listings stand for: a farm's, and a supplier's.
use Rattle.std.specs.Prelude.{ℕ, ◌<◌, ◌≡◌}
use Rattle.sets.specs.Sets.{is_member}
use Rattle.register.specs.declared.Register.{Register}
use Rattle.register.specs.Register.{tank, minute}

-- as many choices, the same tank and minute for each, and the same ones fed
pub record SamePlan (r : Register) (plan : ℕ) (r' : Register) (plan' : ℕ) : Type 0 where
  pub choices : r.choices ≡ r'.choices
  pub tanks : (i : ℕ) → i < r.choices → tank r i ≡ tank r' i
  pub minutes : (i : ℕ) → i < r.choices → minute r i ≡ minute r' i
  pub fed : (i : ℕ) → i < r.choices → is_member i plan ≡ is_member i plan'

-- as many choices, and the same ones fed
pub record SameFed (r : Register) (plan : ℕ) (r' : Register) (plan' : ℕ) : Type 0 where
  pub choices : r.choices ≡ r'.choices
  pub fed : (i : ℕ) → i < r.choices → is_member i plan ≡ is_member i plan'
