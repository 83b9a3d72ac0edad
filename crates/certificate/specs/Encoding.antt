-- The certificate's bytes: `30` scale and target, then the commands `31` to `3B` in any order, `3F`. Written without the reader.
use Rattle.std.specs.Prelude.{ℕ, ◌≡◌, ℤ}
use mathlib.Core.List.{List, [], ◌∷◌, ◌++◌, flat_map}
use Rattle.std.specs.Int.{w16, w64}
use Rattle.std.proofs.Common.{of_z}
use Rattle.wire.specs.Number.{bytes_of}
use Rattle.certificate.specs.Certificate.{Multiplier, Square, Certificate}

-- a command between the first and the last
pub data Entry : Type 0 where
  multiplier : Multiplier → Entry
  square : Square → Entry

-- the multipliers, and the squares, of a list of commands

abbrev pub multipliers_in : Entry → List Multiplier
multipliers_in (multiplier t) = t ∷ []
multipliers_in (square q) = []

abbrev pub squares_in : Entry → List Square
squares_in (multiplier t) = []
squares_in (square q) = q ∷ []

abbrev pub multipliers_of : List Entry → List Multiplier
multipliers_of es = flat_map multipliers_in es

abbrev pub squares_of : List Entry → List Square
squares_of es = flat_map squares_in es

-- `30`: four bytes for the scale, eight for the target
unfoldable pub encode_scale : ℕ → ℤ → List ℕ
encode_scale s target = 0x30 ∷ (bytes_of 4 s ++ bytes_of 8 (of_z w64 target))

-- `31` to `39` and `3B`: a byte for each number named, eight for m
unfoldable pub encode_multiplier : Multiplier → List ℕ
encode_multiplier t = t.kind ∷ (flat_map (bytes_of 1) t.names ++ bytes_of 8 (of_z w64 t.m))

-- `3A` square: weight w u32, then 65 entries v i16
unfoldable pub encode_square : Square → List ℕ
encode_square q = 0x3A ∷ (bytes_of 4 q.w ++ flat_map (λ v. bytes_of 2 (of_z w16 v)) q.v)

abbrev pub encode_entry : Entry → List ℕ
encode_entry (multiplier t) = encode_multiplier t
encode_entry (square q) = encode_square q

-- all but the end
abbrev pub encode_body : ℕ → ℤ → List Entry → List ℕ
encode_body s target es = encode_scale s target ++ flat_map encode_entry es

-- the commands are those of a certificate, in some order that keeps the order of the multipliers and that of the squares
pub record Commands (k : Certificate) (es : List Entry) : Type 0 where
  pub multipliers_are : multipliers_of es ≡ k.multipliers
  pub squares_are : squares_of es ≡ k.squares

-- a run of bytes is an encoding of a certificate
pub record Encodes (k : Certificate) (s : List ℕ) : Type 0 where
  pub entries : List Entry
  pub commands : Commands k entries
  pub bytes : s ≡ encode_body k.scale k.target entries ++ (0x3F ∷ [])
