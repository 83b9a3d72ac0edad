-- What is out of range in the bytes of part 1, where a day's length bears on it. Written without the reader.
use Rattle.std.specs.Prelude.{ℕ, ◌+◌, ◌<◌, ◌≤◌, ◌≡◌, ◌⊎◌, List, get_or}
use Rattle.wire.specs.Number.{nat_at}
use Rattle.register.specs.Limits.{max_tank}
use Rattle.register.specs.Valid.{DayLength}
use Rattle.register.specs.Encoding.{length_in}

abbrev pub TankOut : ℕ → Type 0
TankOut t = (t ≡ 0) ⊎ (max_tank < t)

-- at a position. Of a choice: its tank, or its minute is none of the day. Of a window: its tank, its "from" is no minute of the day, its
-- "to" is 0 or past the end of the day. Of `18`: it is none of the three lengths. Of `10`, `12`, `14`, `15` and `16`, on which no length bears,
-- nothing is said
pub record OutOfRange (s : List ℕ) (at : ℕ) : Type 0 where
  pub choice : get_or s at 0 ≡ 0x11 → TankOut (nat_at 2 s (at + 1)) ⊎ (length_in s ≤ nat_at 2 s (at + 3))
  pub window : get_or s at 0 ≡ 0x13 → TankOut (nat_at 2 s (at + 1)) ⊎ ((length_in s ≤ nat_at 2 s (at + 3)) ⊎ ((nat_at 2 s (at + 5) ≡ 0) ⊎ (length_in s < nat_at 2 s (at + 5))))
  pub length : get_or s at 0 ≡ 0x18 → DayLength (nat_at 2 s (at + 1)) → ⊥
