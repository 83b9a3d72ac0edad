-- How a part is refused: at its first command that is not right, with the lowest number of the checks that fail there.
use Rattle.std.specs.Prelude.{ℕ, ◌≤◌, ◌<◌, ◌≡◌, ◌⊎◌, false, List, [], ◌∷◌, length, take}
use Rattle.wire.specs.Checks.{Fails, NoLower}
use Rattle.wire.specs.Part.{Part, checks_at}
use Rattle.wire.specs.Encoding.{Command, encode, Allowed, after_command, Accepts}

module _ {S : Type 0} (P : Part S) where
  -- the commands are allowed one after the other, none of them ends the part, and they lead from what has been read to what is
  -- read after them
  abbrev pub Reaches : S → List Command → S → Type 0
  Reaches read [] next = read ≡ next
  Reaches read (c ∷ cs) next = Allowed P read c × ((P.last c.byte ≡ false) × Reaches (after_command P read c) cs next)

  -- the command byte at a position is missing, which is refused 2, or the command there has a check with this number that fails
  -- and none that fails with a lower one
  abbrev pub Lowest : List ℕ → S → ℕ → ℕ → Type 0
  Lowest s read number at =
      ((number ≡ 2) × (at ≡ length s)) ⊎ ((at < length s) × (Fails number (checks_at P s read at) × NoLower number (checks_at P s read at)))

  -- the part at the front of a run of bytes is refused with a number at a position: the commands before it are right, their bytes
  -- are all that stands before it, and the number is the lowest of the command there
  pub record RefusedAt (s : List ℕ) (number at : ℕ) : Type 0 where
    pub commands : List Command
    pub read : S
    pub right : Reaches P.start commands read
    pub within : at ≤ length s
    pub bytes : take at s ≡ encode P commands
    pub lowest : Lowest s read number at

  -- the part at the front of a run of bytes is accepted and ends at a position
  pub record EndsAt (s : List ℕ) (at : ℕ) : Type 0 where
    pub commands : List Command
    pub read : S
    pub right : Accepts P P.start commands read
    pub within : at ≤ length s
    pub bytes : take at s ≡ encode P commands

  -- a run of bytes by itself: a command is refused, or bytes stand after the end, which is refused 12 at the first of them
  abbrev pub RefusedByItself : List ℕ → ℕ → ℕ → Type 0
  RefusedByItself s number at = RefusedAt s number at ⊎ ((number ≡ 12) × ((at < length s) × EndsAt s at))
