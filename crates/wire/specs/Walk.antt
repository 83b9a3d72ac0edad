-- Where commands stand in a run of bytes: one after the other by their sizes, from the front. And whether reading comes to a byte.
use Rattle.std.specs.Prelude.{ℕ, zero, suc, ◌+◌, ◌≡◌, Bool, false, ◌&&◌, ◌||◌, cond, List, [], ◌∷◌, ◌++◌, length, get_or, eqb, ltb}
use Rattle.wire.specs.Part.{Part, Step, goes, stops, size, step}
use Rattle.wire.specs.Rows.{is_among}
use Rattle.wire.specs.Encoding.{Command, encode}
use Rattle.wire.specs.Grammar.{Kind, Form}

module _ {S : Type 0} (P : Part S) (bytes : List ℕ) (s : List ℕ) where
  -- the positions, in turn, of those commands from a position on whose byte is one of these; at most k commands are passed
  unfoldable pub positions_from : ℕ → ℕ → List ℕ
  positions_from zero at = []
  positions_from (suc k) at =
      let b = get_or s at 0 in
      cond (ltb at (length s)) (cond (is_among b bytes) (at ∷ []) [] ++ positions_from k (at + size P b)) []

  -- that of the i-th of them from 0, or 0 where there are fewer. Each command takes at least a byte, so all are passed. In an
  -- encoding entry i of a kind `Stands` where this finds its bytes (`entry_stands` in `wire/proofs/Walk`)
  unfoldable pub position_of : ℕ → ℕ
  position_of i = get_or (positions_from (length s) 0) i 0

-- a test of what is read next and where; it fails where reading stops
unfoldable pub passing : {S : Type 0} → Step S → (S → ℕ → Bool) → Bool
passing (goes read at) rest = rest read at
passing (stops reading) rest = false

-- whether reading, which goes on only past commands that it does not refuse, comes to a byte where it may stand by what has been
-- read so far
module _ {S : Type 0} (P : Part S) (may : S → Bool) (b : ℕ) (s : List ℕ) where
  -- from a position on, past at most k commands
  unfoldable pub comes_from : ℕ → S → ℕ → Bool
  comes_from zero read at = false
  comes_from (suc k) read at = ltb at (length s) && ((eqb (get_or s at 0) b && may read) || passing (step P s read at) (comes_from k))

  -- from the front. Each command takes at least a byte, so none is left
  unfoldable pub comes_to : Bool
  comes_to = comes_from (length s) P.start 0

-- one of the commands is a form of entry i of a kind, and the commands before it have so many bytes
pub record Stands {R S : Type 0} (P : Part S) (k : Kind R) (r : R) (i : ℕ) (cs : List Command) (at : ℕ) : Type 0 where
  pub front : List Command
  pub command : Command
  pub back : List Command
  pub form : Form k r i command
  pub whole : cs ≡ front ++ (command ∷ back)
  pub position : at ≡ length (encode P front)
