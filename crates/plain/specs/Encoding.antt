-- The bytes of our own certificate: `30` scale and target, its multiplier commands, `3F`.
use Rattle.std.specs.Prelude.{ℕ, ℤ}
use mathlib.Core.List.{List, [], ◌∷◌, ◌++◌, flat_map}
use Rattle.register.specs.declared.Register.{Register}
use Rattle.scheme.specs.declared.Scheme.{Scheme}
use Rattle.certificate.specs.Certificate.{Multiplier}
use Rattle.certificate.specs.Encoding.{encode_scale, encode_multiplier}
use Rattle.plain.specs.Plain.{plain}

abbrev pub encode_multipliers : List Multiplier → List ℕ
encode_multipliers ts = flat_map encode_multiplier ts

-- a certificate without squares
unfoldable pub encode_with : ℕ → ℤ → List Multiplier → List ℕ
encode_with s target ts = (encode_scale s target ++ encode_multipliers ts) ++ (0x3F ∷ [])

-- the certificate of our own
unfoldable pub encode_plain : (ℕ → ℤ) → Register → Scheme → List ℕ
encode_plain c reg sch = let k = plain c reg sch in encode_with k.scale k.target k.multipliers
