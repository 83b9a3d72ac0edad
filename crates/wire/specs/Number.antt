-- Numbers in a run of bytes, the least byte first; below zero by two's complement.
use Rattle.std.specs.Prelude.{ℕ, zero, suc, ◌+◌, ◌*◌, ◌/◌, ◌%◌, ◌<◌, List, [], ◌∷◌, take, drop, ℤ}
use Rattle.std.proofs.lemmas.List.Edits.{sets}
use Rattle.std.specs.Int.{Width}
use mir.Val.{to_z, bits}
use Rattle.integers.specs.Lists.{All}

-- a list of bytes
abbrev pub Bytes : List ℕ → Type 0
Bytes s = All (λ b. b < 256) s

-- the number that a list of bytes says, the least byte first
unfoldable pub little : List ℕ → ℕ
little [] = 0
little (b ∷ bs) = b + 256 * little bs

-- the number in the k bytes at a position
unfoldable pub nat_at : ℕ → List ℕ → ℕ → ℕ
nat_at k s at = little (take k (drop at s))

-- the signed number in the bytes of a width at a position, in two's complement
unfoldable pub int_at : Width → List ℕ → ℕ → ℤ
int_at w s at = to_z w (nat_at (bits w / 8) s at)

-- the k bytes of a number, the least first
unfoldable pub bytes_of : ℕ → ℕ → List ℕ
bytes_of zero n = []
bytes_of (suc k) n = n % 256 ∷ bytes_of k (n / 256)

-- s with the k bytes of a number at a position
unfoldable pub put_at : ℕ → List ℕ → ℕ → ℕ → List ℕ
put_at k s at n = sets s at (bytes_of k n)

-- s with bytes at a position
unfoldable pub written : List ℕ → ℕ → List ℕ → List ℕ
written s at bytes = sets s at bytes
