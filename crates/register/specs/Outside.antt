-- A choice that is fed outside the windows of its tank, in the bytes of part 1. Written without the reader.
use Rattle.std.specs.Prelude.{ℕ, ◌-◌, ◌<◌, ◌≡◌, ◌⊎◌, List, ◌++◌, length}
use Rattle.register.specs.declared.Register.{Register}
use Rattle.register.specs.Limits.{max_choices, usual_day}
use Rattle.register.specs.Register.{tank, minute, window_tank}
use Rattle.register.specs.Valid.{DayLength, Choice, Before, Inside, Within, window_at}
use Rattle.register.specs.Encoding.{encode_base, encode_length, encode_windows, encode_choices, encode_choice}

-- the bytes of a register up to its last choice: `10`, `18`, which may be missing where the length is the usual one, each `13`, each `11`

abbrev pub up_to_choices : List ℕ → Register → List ℕ
up_to_choices header r = header ++ encode_windows r ++ encode_choices r

abbrev pub EncodesChoices : Register → List ℕ → Type 0
EncodesChoices r front =
    (front ≡ up_to_choices (encode_base r.base ++ encode_length r.day_length) r) ⊎ ((r.day_length ≡ usual_day) × (front ≡ up_to_choices (encode_base r.base) r))

-- at a position of a run of bytes
pub record ChoiceOutside (s : List ℕ) (at : ℕ) : Type 0 where
  -- before it stand the base cost, the day length, windows and choices, all of them right, and after it whatever follows
  pub before : Register
  pub within : Within before
  pub day : DayLength before.day_length
  pub no_row : before.rows ≡ 0
  pub no_term : before.terms ≡ 0
  pub front : List ℕ
  pub encodes : EncodesChoices before front
  pub t : ℕ
  pub m : ℕ
  pub rest : List ℕ
  pub bytes : s ≡ front ++ (encode_choice t m ++ rest)
  pub position : at ≡ length front
  -- it is not one choice too many, its tank and minute are in their ranges, and it comes after the last choice
  pub few : before.choices < max_choices
  pub ranges : Choice before.day_length t m
  pub rises : (before.choices ≡ 0) ⊎ Before (tank before (before.choices - 1), minute before (before.choices - 1)) (t, m)
  -- its tank has a window, and none of the tank's windows holds its minute
  pub window : ℕ
  pub there : window < before.windows
  pub own : window_tank before window ≡ t
  pub outside : Inside before.windows (window_at before) t m → ⊥
