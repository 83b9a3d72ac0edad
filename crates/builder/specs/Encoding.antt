-- The bytes of commands with two operands of a byte each, as the code writes them.
use Rattle.std.specs.Prelude.{ℕ, List, ◌∷◌, ◌++◌, get_or}
use Rattle.integers.specs.Lists.{join_below}
use Rattle.wire.specs.Number.{bytes_of}

-- one command: l u8, r u8
unfoldable pub encode_pair : (byte l r : ℕ) → List ℕ
encode_pair byte l r = byte ∷ (bytes_of 1 l ++ bytes_of 1 r)

-- commands of two operands, one for each of the first entries of two arrays
abbrev pub encode_pairs : (byte count : ℕ) → List ℕ → List ℕ → List ℕ
encode_pairs byte count lefts rights = join_below count (λ k. encode_pair byte (get_or lefts k 0) (get_or rights k 0))
