-- The order of a part's commands, said once: `directly_after` gives the bytes after which a command may stand, which each row of a part
-- lists for itself (`follows`). Elsewhere a command is refused 1.
use Rattle.std.specs.Prelude.{ℕ, ◌≡◌, Bool, true, cond, ◌&&◌, List, [], ◌∷◌, ◌++◌}
use Rattle.integers.specs.Lists.{All}
use Rattle.wire.specs.Rows.{Row, is_among}

-- how often commands stand in a part
pub data Often : Type 0 where
  once : Often
  at_most_once : Often
  any_number : Often

-- commands with these bytes, in any order among themselves where they are several
pub record Group : Type 0 where
  pub often : Often
  pub bytes : List ℕ

-- the bytes that may stand directly before a group's commands, by how often these stand, by what may stand before the first of them, and
-- by their own bytes
abbrev pub before_each : Often → (before own : List ℕ) → List ℕ
before_each once before own = before
before_each at_most_once before own = before
before_each any_number before own = before ++ own

-- and before the next group's: commands that stand once are not left out
abbrev pub before_next : Often → (before own : List ℕ) → List ℕ
before_next once before own = own
before_next at_most_once before own = before ++ own
before_next any_number before own = before ++ own

-- the bytes after which a command may stand, by the groups in their order; none where it is in no group
abbrev pub follows_by : List ℕ → List Group → ℕ → List ℕ
follows_by before [] b = []
follows_by before (g ∷ gs) b = cond (is_among b g.bytes) (before_each g.often before g.bytes) (follows_by (before_next g.often before g.bytes) gs b)

-- from the start of the part on, which is said as 0
abbrev pub directly_after : List Group → ℕ → List ℕ
directly_after groups b = follows_by (0 ∷ []) groups b

-- two lists have the same bytes

abbrev pub all_among : List ℕ → List ℕ → Bool
all_among [] ys = true
all_among (x ∷ xs) ys = is_among x ys && all_among xs ys

abbrev pub same_bytes : List ℕ → List ℕ → Bool
same_bytes xs ys = all_among xs ys && all_among ys xs

-- each command of these may stand just where the order has it
abbrev pub InOrder : {R : Type 0} → List Group → List (Row R) → Type 0
InOrder groups rows = All (λ row. same_bytes row.follows (directly_after groups row.byte) ≡ true) rows

-- ---- part 1

-- `10`, `18` at most once, each `13`, each `11`, each `14`, each `12`, `15` and `16`, `1F`
abbrev pub register_order : List Group
register_order =
    record { often = once; bytes = 0x10 ∷ [] }
    ∷ record { often = at_most_once; bytes = 0x18 ∷ [] }
    ∷ record { often = any_number; bytes = 0x13 ∷ [] }
    ∷ record { often = any_number; bytes = 0x11 ∷ [] }
    ∷ record { often = any_number; bytes = 0x14 ∷ [] }
    ∷ record { often = any_number; bytes = 0x12 ∷ 0x15 ∷ 0x16 ∷ [] }
    ∷ record { often = once; bytes = 0x1F ∷ [] }
    ∷ []
